-- What an offer makes of a shard of the peers.
use Rattle.std.proofs.Common.{◌≡◌, ℕ, ◌-◌, ◌<◌, List, [], ◌∷◌, ◌++◌, length, map, get_or, replicate, Some, refl, sym, ap, ◌∙◌, subst, arith}
use Rattle.std.specs.Prelude.{slice_get}
use Rattle.std.proofs.lemmas.Option.{slice_get-get_or}
use Rattle.std.proofs.lemmas.List.{length-replicate, get_or-replicate}
use Rattle.device_types.specs.declared.effect.Effect.{Effect}
use Rattle.device_types.specs.declared.effect.Effect.TheVariants as effects
use Rattle.device_types.specs.declared.event.Lane.{Lane}
use Rattle.device_types.specs.declared.event.Lane.TheVariants as lane
use Rattle.device_types.specs.declared.input.Offer.{Offer}
use Rattle.device_types.specs.declared.subscriber.DeviceId.{DeviceId}
use Rattle.device_types.specs.declared.subscriber.Subscriber.{Subscriber}
use Rattle.device_types.specs.PeerAnswer.{answer_of}
use Rattle.peer_calls.specs.Calls.{calls_of, offer_of}
use Rattle.session_store.specs.Charter.{CharterState}
use Rattle.session_store.specs.Rows.{IsDevice}
use Rattle.store_shared.specs.declared.turn.Turn.{Turn}
use Rattle.store_shared.specs.declared.turn.TurnAnswer.TheVariants as answers
use Rattle.shard_parts.specs.BothPeers.{lane_of}
use Rattle.store_shared.specs.Legal.{accepted_in, ArePeers, IsTurn, peers_say}
use Rattle.store_shared.proofs.Histories.{legal_none, legal_more}
use Rattle.store_shared.proofs.PeerTurns.{peers_more, peers_same, on_lane, accepted_more}
use Rattle.shard_parts.specs.declared.peers.Peers.{Peers}
use Rattle.shard_parts.specs.BothPeers.{lists_on, gateway_after, subscriber_after}
use Rattle.store_shared.specs.PeerShards.{IsPeerShard, IsOffered, offer_by}

-- a shard with a turn more, and that turn
pub record HasOffer (charter : CharterState) (shard : ℕ) (peers : Peers) (h : List Turn) (x : Turn) : Type 0 where
  pub kept : IsPeerShard charter shard peers (h ++ x ∷ [])
  pub legal : IsTurn (peers_say charter.rows) shard (length charter.rows) h x

module _ (charter : CharterState) (shard : ℕ) (old new : Peers) (h : List Turn) (seat : ℕ) (d : DeviceId) (k : ℕ) (row : Subscriber) where
  -- by what the lane has accepted, and the parts behind it
  offers_at : (call : Effect) (offer : Offer) → IsPeerShard charter shard old h → IsOffered charter shard d.0 k call → slice_get charter.rows (d.0 - 1) ≡ Some row → offer ≡ offer_of (answer_of row) (accepted_in d.0 (lane_of call) h) k call
      → ArePeers effects.Gateway new.gateway lane.Gateway (length charter.rows) (h ++ offer_by seat d k call (answers.Offer offer) ∷ [])
      → ArePeers effects.Subscriber new.subscriber lane.Subscriber (length charter.rows) (h ++ offer_by seat d k call (answers.Offer offer) ∷ [])
      → HasOffer charter shard new h (offer_by seat d k call (answers.Offer offer))
  offers_at call offer kept is found said gateway subscriber =
      let x = offer_by seat d k call (answers.Offer offer) in
      let told : peers_say charter.rows h x ≡ Some (answers.Offer offer) = rw (found, is.called) (ap (λ o. Some (answers.Offer o)) (sym said)) in
      let turn : IsTurn (peers_say charter.rows) shard (length charter.rows) h x = record { device = is.device; here = is.here; answer = told } in record {
        kept = record {
          gateway = gateway;
          subscriber = subscriber;
          legal = legal_more (peers_say charter.rows) shard (length charter.rows) h x kept.legal turn;
          lawful = accepted_more charter (answer_of row) h x k call kept.lawful refl
              (λ l on. ap (λ o. answers.Offer o) said ∙ ap (λ (p : Lane). answers.Offer (offer_of (answer_of row) (accepted_in d.0 p h) k call)) (sym (on_lane l call on)))
              is.law;
        };
        legal = turn;
      }

  pub offers : (call : Effect) (offer : Offer) → IsPeerShard charter shard old h → IsOffered charter shard d.0 k call → slice_get charter.rows (d.0 - 1) ≡ Some row → offer ≡ offer_of (answer_of row) (lists_on old (lane_of call) d.0) k call → new.gateway ≡ gateway_after old.gateway d.0 k call → new.subscriber ≡ subscriber_after old.subscriber d.0 k call → HasOffer charter shard new h (offer_by seat d k call (answers.Offer offer))
  offers (effects.Down down) offer kept is found said g s = absurd (let c = is.called in cc)
  offers (effects.Gateway call) offer kept is found said g s =
      let x = offer_by seat d k (effects.Gateway call) (answers.Offer offer) in
      let told = said ∙ ap (λ (a : List Effect). offer_of (answer_of row) a k (effects.Gateway call)) (kept.gateway.each d.0 is.device) in
      offers_at (effects.Gateway call) offer kept is found told
      (subst (λ (ls : List (List _)). ArePeers effects.Gateway ls lane.Gateway (length charter.rows) (h ++ x ∷ [])) (sym g) (peers_more effects.Gateway (answer_of row) old.gateway lane.Gateway (length charter.rows) h x k call kept.gateway is.device refl (ap (λ o. answers.Offer o) told) refl))
      (subst (λ (ls : List (List _)). ArePeers effects.Subscriber ls lane.Subscriber (length charter.rows) (h ++ x ∷ [])) (sym s) (peers_same effects.Subscriber old.subscriber lane.Subscriber (length charter.rows) h x k (effects.Gateway call) kept.subscriber refl refl))
  offers (effects.Subscriber call) offer kept is found said g s =
      let x = offer_by seat d k (effects.Subscriber call) (answers.Offer offer) in
      let told = said ∙ ap (λ (a : List Effect). offer_of (answer_of row) a k (effects.Subscriber call)) (kept.subscriber.each d.0 is.device) in
      offers_at (effects.Subscriber call) offer kept is found told
      (subst (λ (ls : List (List _)). ArePeers effects.Gateway ls lane.Gateway (length charter.rows) (h ++ x ∷ [])) (sym g) (peers_same effects.Gateway old.gateway lane.Gateway (length charter.rows) h x k (effects.Subscriber call) kept.gateway refl refl))
      (subst (λ (ls : List (List _)). ArePeers effects.Subscriber ls lane.Subscriber (length charter.rows) (h ++ x ∷ [])) (sym s) (peers_more effects.Subscriber (answer_of row) old.subscriber lane.Subscriber (length charter.rows) h x k call kept.subscriber is.device refl (ap (λ o. answers.Offer o) told) refl))

-- a shard without turns
none_of : {C : Type 0} (wrap : C → Effect) (lists : List (List C)) (l : Lane) (devices : ℕ) → lists ≡ replicate devices [] → ArePeers wrap lists l devices []
none_of {C = C} wrap lists l devices e = record {
  count = ap length e ∙ length-replicate devices [];
  each = λ d is.
      let least = is.0 in
      let most = is.1 in
      ap (λ (ls : List (List C)). map wrap (calls_of ls d)) e ∙ ap (map wrap) (get_or-replicate devices (d - 1) [] [] (omega arith));
}

pub begins : (charter : CharterState) (shard devices : ℕ) (peers : Peers) → devices ≡ length charter.rows → peers.gateway ≡ replicate devices [] → peers.subscriber ≡ replicate devices [] → IsPeerShard charter shard peers []
begins charter shard devices peers count g s = record {
  gateway = none_of effects.Gateway peers.gateway lane.Gateway (length charter.rows) (g ∙ ap (λ n. replicate n []) count);
  subscriber = none_of effects.Subscriber peers.subscriber lane.Subscriber (length charter.rows) (s ∙ ap (λ n. replicate n []) count);
  legal = legal_none (peers_say charter.rows) shard (length charter.rows);
  lawful = λ d l is. refl;
}

pub with_items : (h mid items : List Turn) (x y : Turn) → items ≡ mid ++ y ∷ [] → mid ≡ h → y ≡ x → items ≡ h ++ x ∷ []
with_items h mid items x y pushed same is = pushed ∙ (ap (λ m. m ++ y ∷ []) same ∙ ap (λ z. h ++ z ∷ []) is)

pub kept_with : (charter : CharterState) (shard : ℕ) (peers : Peers) (h mid items : List Turn) (x y : Turn) → HasOffer charter shard peers h x → items ≡ mid ++ y ∷ [] → mid ≡ h → y ≡ x → IsPeerShard charter shard peers items
kept_with charter shard peers h mid items x y t pushed same is = subst (IsPeerShard charter shard peers) (sym (with_items h mid items x y pushed same is)) t.kept

-- both peers have so many devices
pub within_gateway : (charter : CharterState) (shard d k : ℕ) (peers : Peers) (h : List Turn) (call : Effect) → IsPeerShard charter shard peers h → IsOffered charter shard d k call → IsDevice (length peers.gateway) d
within_gateway charter shard d k peers h call kept is = subst (λ (n : ℕ). IsDevice n d) (sym kept.gateway.count) is.device

pub within_subscriber : (charter : CharterState) (shard d k : ℕ) (peers : Peers) (h : List Turn) (call : Effect) → IsPeerShard charter shard peers h → IsOffered charter shard d k call → IsDevice (length peers.subscriber) d
within_subscriber charter shard d k peers h call kept is = subst (λ (n : ℕ). IsDevice n d) (sym kept.subscriber.count) is.device

pub got : (rows : List Subscriber) (i : ℕ) (row : Subscriber) → i < length rows → row ≡ get_or rows i row → slice_get rows i ≡ Some row
got rows i row lt e = slice_get-get_or rows i row lt ∙ ap (λ r. Some r) (sym e)

-- by the number of the row
pub offers_by : (charter : CharterState) (shard : ℕ) (old new : Peers) (h : List Turn) (seat : ℕ) (d : DeviceId) (k : ℕ) (row : Subscriber) (call : Effect) (offer : Offer) → row.number ≡ d.0 → IsPeerShard charter shard old h → IsOffered charter shard d.0 k call → slice_get charter.rows (d.0 - 1) ≡ Some row → offer ≡ offer_of (answer_of row) (lists_on old (lane_of call) row.number) k call → new.gateway ≡ gateway_after old.gateway row.number k call → new.subscriber ≡ subscriber_after old.subscriber row.number k call → HasOffer charter shard new h (offer_by seat d k call (answers.Offer offer))
offers_by charter shard old new h seat d k row call offer number kept is found said g s =
    offers charter shard old new h seat d k row call offer kept is found
    (said ∙ ap (λ n. offer_of (answer_of row) (lists_on old (lane_of call) n) k call) number)
    (g ∙ ap (λ n. gateway_after old.gateway n k call) number)
    (s ∙ ap (λ n. subscriber_after old.subscriber n k call) number)
