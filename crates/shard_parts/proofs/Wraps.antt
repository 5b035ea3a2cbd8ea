-- The calls of one peer, as effects.
use Rattle.std.proofs.Common.{◌≡◌, ℕ, List, [], ◌∷◌, ◌++◌, length, map, take, refl, sym, ap, ◌∙◌}
use Rattle.std.specs.Prelude.{Result, Ok, Err, IfOk}
use Rattle.std.proofs.lemmas.List.{map-append, length-map, take-map}
use Rattle.device_types.specs.declared.effect.Effect.{Effect}
use Rattle.device_types.specs.declared.effect.Effect.TheVariants as effects
use Rattle.device_types.specs.declared.effect.GwCall.{GwCall}
use Rattle.device_types.specs.declared.effect.SubCall.{SubCall}
use Rattle.device_types.specs.declared.input.Answer.{Answer}
use Rattle.device_types.specs.declared.input.Offer.{Offer}
use Rattle.device_types.specs.declared.input.Offer.TheVariants as offer
use Rattle.device_types.specs.declared.subscriber.Subscriber.{Subscriber}
use Rattle.device_types.specs.PeerAnswer.{answer_of}
use Rattle.peer_calls.specs.declared.arrival.Arrival.{Arrival}
use Rattle.peer_calls.specs.declared.arrival.Arrival.TheVariants.{Next, Repeat, Ahead}
use Rattle.peer_calls.specs.Calls.{calls_of, arrival_of, offer_at, offer_of}
use Rattle.peer_gateway.specs.Gateway.{gateway_answer_of}
use Rattle.peer_subscriber.specs.Server.{subscriber_answer_of}
use Rattle.shard_parts.specs.declared.peers.Peers.{Peers}
use Rattle.shard_parts.specs.BothPeers.{lane_of, lists_on}

module _ {C : Type 0} (wrap : C → Effect) where
  pub arrival_at : (cs : List C) (k : ℕ) → arrival_of (length (map wrap cs)) k ≡ arrival_of (length cs) k
  arrival_at cs k = ap (λ n. arrival_of n k) (length-map cs wrap)

  -- what it says is said of the effects
  pub says_so : (said : List C → Answer) (answer : List Effect → Answer) → ((cs : List C) → said cs ≡ answer (map wrap cs)) → (cs : List C) (k : ℕ) (c : C) → offer_of said cs k c ≡ offer_of answer (map wrap cs) k (wrap c)
  says_so said answer same cs k c = by_arrival (arrival_of (length cs) k) ∙ ap (offer_at answer (map wrap cs) k (wrap c)) (sym (arrival_at cs k))
    where
      by_arrival : (arrival : Arrival) → offer_at said cs k c arrival ≡ offer_at answer (map wrap cs) k (wrap c) arrival
      by_arrival Next = ap (λ a. offer.Accepted a) (same (cs ++ c ∷ []) ∙ ap answer (map-append wrap cs (c ∷ [])))
      by_arrival Repeat = ap (λ a. offer.Repeat a) (same (take k cs) ∙ ap answer (sym (take-map wrap k cs)))
      by_arrival (Ahead last) = refl

-- what a peer says is said of its lane
pub gateway_said : (row : Subscriber) (peers : Peers) (k : ℕ) (c : GwCall) (call : Effect) (offer : Offer) → call ≡ effects.Gateway c → offer ≡ offer_of (gateway_answer_of row) (calls_of peers.gateway row.number) k c → offer ≡ offer_of (answer_of row) (lists_on peers (lane_of call) row.number) k call
gateway_said row peers k c call offer is said = said ∙ (says_so effects.Gateway (gateway_answer_of row) (answer_of row) (λ cs. refl) (calls_of peers.gateway row.number) k c ∙ ap (λ (e : Effect). offer_of (answer_of row) (lists_on peers (lane_of e) row.number) k e) (sym is))

-- and where it may find no memory, of what it said
pub gateway_offered : {E : Type 0} (row : Subscriber) (peers : Peers) (k : ℕ) (c : GwCall) (call : Effect) (r : Result Offer E) → call ≡ effects.Gateway c → IfOk r (λ offer. offer ≡ offer_of (gateway_answer_of row) (calls_of peers.gateway row.number) k c) → IfOk r (λ offer. offer ≡ offer_of (answer_of row) (lists_on peers (lane_of call) row.number) k call)
gateway_offered row peers k c call (Ok offer) is said = gateway_said row peers k c call offer is said
gateway_offered row peers k c call (Err e) is said = said

pub subscriber_offered : {E : Type 0} (row : Subscriber) (peers : Peers) (k : ℕ) (c : SubCall) (call : Effect) (r : Result Offer E) → call ≡ effects.Subscriber c → IfOk r (λ offer. offer ≡ offer_of (subscriber_answer_of row) (calls_of peers.subscriber row.number) k c) → IfOk r (λ offer. offer ≡ offer_of (answer_of row) (lists_on peers (lane_of call) row.number) k call)
subscriber_offered row peers k c call (Ok offer) is said = said ∙ (says_so effects.Subscriber (subscriber_answer_of row) (answer_of row) (λ cs. refl) (calls_of peers.subscriber row.number) k c ∙ ap (λ (e : Effect). offer_of (answer_of row) (lists_on peers (lane_of e) row.number) k e) (sym is))
subscriber_offered row peers k c call (Err e) is said = said
