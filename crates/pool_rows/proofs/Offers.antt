-- What an offer says of the calls that the seat knows to be accepted behind it.
use Rattle.std.proofs.Common.{◌≡◌, ◌≤◌, ◌<◌, ◌+◌, ◌-◌, ◌==◌, ℕ, cond, Bool, true, false, List, [], ◌∷◌, ◌++◌, Some, None, length, take, refl, sym, ap, ◌∙◌, subst, arith, length-append, append_assoc, eq-eqb, eqb-true}
use Rattle.std.specs.Prelude.{All, nat_le, slice_get}
use Rattle.std.proofs.lemmas.List.{take-append-le, take-take, take_all}
use Rattle.std.proofs.lemmas.Bool.Decides.{nat_tests}
use Rattle.device_types.specs.declared.effect.Effect.{Effect}
use Rattle.device_types.specs.declared.effect.Effect.TheVariants as effects
use Rattle.device_types.specs.declared.event.Lane.{Lane}
use Rattle.device_types.specs.declared.input.Answer.{Answer}
use Rattle.device_types.specs.declared.input.Input.TheVariants as inputs
use Rattle.device_types.specs.declared.input.Offer.{Offer}
use Rattle.device_types.specs.declared.input.Offer.TheVariants as offer
use Rattle.device_types.specs.declared.subscriber.DeviceId.{DeviceId}
use Rattle.device_types.specs.declared.subscriber.Subscriber.{Subscriber}
use Rattle.device_types.specs.Journal.{effects_of, is_on}
use Rattle.device_types.specs.PeerAnswer.{answer_of}
use Rattle.front_lock.specs.declared.front.Front.{Front}
use Rattle.front_lock.specs.declared.held.Held.{Ghosts}
use Rattle.front_lock.specs.declared.seat.FrontSeat.{FrontSeat}
use Rattle.front_lock.specs.Front.{view}
use Rattle.peer_calls.specs.declared.arrival.Arrival.{Arrival}
use Rattle.peer_calls.specs.declared.arrival.Arrival.TheVariants.{Next, Repeat, Ahead}
use Rattle.peer_calls.specs.Calls.{arrival_of, offer_at, offer_of}
use Rattle.session_store.specs.Charter.{CharterState, IsCharter, alone_in}
use Rattle.session_store.specs.Rows.{Begins, IsDevice}
use Rattle.session_store.specs.Shards.{shard_of}
use Rattle.store_shared.specs.declared.basis.PeerBasis.{PeerBasis}
use Rattle.front_lock.specs.declared.row.FrontsSeat.{FrontsSeat}
use Rattle.store_shared.specs.declared.turn.Turn.{Turn}
use Rattle.store_shared.specs.declared.turn.TurnAnswer.{TurnAnswer}
use Rattle.store_shared.specs.declared.turn.TurnAnswer.TheVariants as answers
use Rattle.store_shared.specs.declared.turn.TurnCall.{TurnCall}
use Rattle.store_shared.specs.declared.turn.TurnCall.TheVariants as calls
use Rattle.front_lock.specs.FrontRow.{AreFreshSeats, AreJoined, IsFreshSeat, seen_at}
use Rattle.shard_parts.specs.BothPeers.{is_call, lane_of}
use Rattle.store_shared.specs.Legal.{IsAcceptedOf, IsTurn, accepted_after, accepted_from, accepted_in, peers_say}
use Rattle.store_shared.specs.PeerShards.{offer_by}
use Rattle.store_shared.specs.SharedOffers.{Offered}
use Rattle.front_lock.proofs.Items.{get_at}
use Rattle.store_shared.proofs.PeerTurns.{accepted_from-append, accepted_next}
use Rattle.pool_rows.specs.Seats.{IsCall, IsOffer, IsOwnOf}
use Rattle.pool_rows.specs.Shared.{calls_known}
use Rattle.pool_rows.proofs.Charters.{HasLine, alone_is, line_at}
use Rattle.pool_rows.proofs.Seats.{Moves, each_seat, fresh_seen, joined_seen, offers_are, same_begins, sees_more}

-- ---- what was accepted stays the beginning

when_on : (b : Bool) (acc : List Effect) (call : Effect) → Begins acc (cond b (acc ++ call ∷ []) acc)
when_on true acc call = (call ∷ [], refl)
when_on false acc call = same_begins acc

after_begins : (acc : List Effect) (l : Lane) (call : TurnCall) (answer : TurnAnswer) → Begins acc (accepted_after acc l call answer)
after_begins acc l (calls.Offer k call) (answers.Offer (offer.Accepted answer)) = when_on (is_on l call) acc call
after_begins acc l (calls.Offer k call) (answers.Offer (offer.Repeat answer)) = same_begins acc
after_begins acc l (calls.Offer k call) (answers.Offer (offer.Ahead last)) = same_begins acc
after_begins acc l (calls.Offer k call) (answers.Read seen) = same_begins acc
after_begins acc l (calls.Offer k call) (answers.Peek seen) = same_begins acc
after_begins acc l (calls.Offer k call) (answers.Commit commit) = same_begins acc
after_begins acc l (calls.Offer k call) (answers.Push effect) = same_begins acc
after_begins acc l (calls.Offer k call) (answers.Settle settled) = same_begins acc
after_begins acc l (calls.Read asked) answer = same_begins acc
after_begins acc l (calls.Peek asked) answer = same_begins acc
after_begins acc l (calls.Commit read entry) answer = same_begins acc
after_begins acc l (calls.Push m k) answer = same_begins acc
after_begins acc l (calls.Settle m k) answer = same_begins acc

when_here : (b : Bool) (acc after : List Effect) → Begins acc after → Begins acc (cond b after acc)
when_here true acc after p = p
when_here false acc after p = same_begins acc

from_begins : (acc : List Effect) (d : ℕ) (l : Lane) (more : List Turn) → Begins acc (accepted_from acc d l more)
from_begins acc d l [] = same_begins acc
from_begins acc d l (t ∷ ts) =
    let next = cond (t.device.0 == d) (accepted_after acc l t.call t.answer) acc in
    let one = when_here (t.device.0 == d) acc (accepted_after acc l t.call t.answer) (after_begins acc l t.call t.answer) in
    let two = from_begins next d l ts in
    (one.0 ++ two.0, two.1 ∙ (ap (λ w. w ++ two.0) one.1 ∙ append_assoc acc one.0 two.0))

pub accepted_begins : (d : ℕ) (l : Lane) (xs ys : List Turn) → Begins xs ys → Begins (accepted_in d l xs) (accepted_in d l ys)
accepted_begins d l xs ys b =
    subst (λ (a : List Effect). Begins (accepted_in d l xs) a) (sym (ap (accepted_in d l) b.1 ∙ accepted_from-append [] d l xs b.0)) (from_begins (accepted_in d l xs) d l b.0)

pub accepted_still : {T : Type 0} {h : Ghosts T Turn PeerBasis} (old new : List (FrontSeat T Turn PeerBasis h)) (at : ℕ) → Moves old new at → (i : ℕ) (l : Lane) → Begins (calls_known old i l) (calls_known new i l)
accepted_still old new at m i l = accepted_begins i l (seen_at old (shard_of i)) (seen_at new (shard_of i)) (sees_more old new at m (shard_of i))

-- of two seats that are joined
pub accepted_joined : {T : Type 0} {h : Ghosts T Turn PeerBasis} (into from new : List (FrontSeat T Turn PeerBasis h)) → length from ≡ length into → length new ≡ length into → AreJoined into from new → ((i : ℕ) (l : Lane) → Begins (calls_known into i l) (calls_known new i l)) × ((i : ℕ) (l : Lane) → Begins (calls_known from i l) (calls_known new i l))
accepted_joined into from new a b j = (
  λ i l. accepted_begins i l (seen_at into (shard_of i)) (seen_at new (shard_of i)) (joined_seen into from new a b j (shard_of i)).0,
  λ i l. accepted_begins i l (seen_at from (shard_of i)) (seen_at new (shard_of i)) (joined_seen into from new a b j (shard_of i)).1,
)

-- new seats know none
pub fresh_calls : {T : Type 0} {h : Ghosts T Turn PeerBasis} (basis : T → PeerBasis) (bases : List PeerBasis) (seats : ℕ) (fs : List (Front T Turn PeerBasis)) (made : List (FrontsSeat T Turn PeerBasis h)) → AreFreshSeats basis bases seats fs made → All (λ s. (d : ℕ) (l : Lane) → calls_known s.seats.items d l ≡ []) made
fresh_calls {T} {h} basis bases seats fs made fresh =
    each_seat (λ (s : FrontsSeat T Turn PeerBasis h). (d : ℕ) (l : Lane) → calls_known s.seats.items d l ≡ []) (λ (n : ℕ) (s : FrontsSeat T Turn PeerBasis h). IsFreshSeat basis bases seats fs n s) made fresh
    (λ n s is d l. ap (accepted_in d l) (fresh_seen basis bases seats fs n s is (shard_of d)))

-- ---- an offer

call_on : (call : Effect) → is_call call ≡ true → is_on (lane_of call) call ≡ true
call_on (effects.Down down) e = absurd (cc)
call_on (effects.Gateway call) e = refl
call_on (effects.Subscriber call) e = refl

said_when : (b : Bool) (said offer : Offer) → b ≡ true → cond b (Some (answers.Offer said)) None ≡ Some (answers.Offer offer) → offer ≡ said
said_when true said offer e is = cc is
said_when false said offer e is = absurd (cc)

module _ {T : Type 0} {h : Ghosts T Turn PeerBasis} {charter : CharterState} {old new : List (FrontSeat T Turn PeerBasis h)} {d : DeviceId} {k : ℕ} {call : Effect} {offer : Offer} where
  -- what the peer says, by the calls that it had accepted
  pub offer_is : (row : Subscriber) (c : Offered charter old new d k call offer) → slice_get charter.rows (d.0 - 1) ≡ Some row → is_call call ≡ true → offer ≡ offer_of (answer_of row) (accepted_in d.0 (lane_of call) c.before) k call
  offer_is row c there called =
      let n = (view c.from).number in
      let turn = offer_by n d k call (answers.Offer offer) in
      let first : take (length c.before) (c.before ++ turn ∷ []) ≡ c.before = take-append-le (length c.before) c.before (turn ∷ []) (omega arith) ∙ take_all (length c.before) c.before (omega arith) in
      let is = subst (λ (b : List Turn). IsTurn (peers_say charter.rows) (shard_of d.0) (length charter.rows) b turn) first (c.legal (length c.before) turn (get_at c.before [] turn)) in
      let said : peers_say charter.rows c.before turn ≡ Some (answers.Offer offer) = is.answer in
      said_when (is_call call) (offer_of (answer_of row) (accepted_in d.0 (lane_of call) c.before) k call) offer called (sym (rw there refl) ∙ said)

  -- the calls of a lane behind it
  pub accepted_is : (l : Lane) (c : Offered charter old new d k call offer) → accepted_in d.0 l (seen_at new (shard_of d.0)) ≡ accepted_after (accepted_in d.0 l c.before) l (calls.Offer k call) (answers.Offer offer)
  accepted_is l c =
      let before = accepted_in d.0 l c.before in
      ap (accepted_in d.0 l) (offers_are c) ∙ (accepted_next d.0 l c.before (offer_by (view c.from).number d k call (answers.Offer offer)) ∙ ap (λ (b : Bool). cond b (accepted_after before l (calls.Offer k call) (answers.Offer offer)) before) (eq-eqb d.0 d.0 refl))

  pub accepted_lawful : (l : Lane) → Offered charter old new d k call offer → IsDevice (length charter.rows) d.0 → IsAcceptedOf charter d.0 l (accepted_in d.0 l (seen_at new (shard_of d.0)))
  accepted_lawful l c within = subst (λ (turns : List Turn). IsAcceptedOf charter d.0 l (accepted_in d.0 l turns)) (sym (offers_are c)) (c.lawful d.0 l within)

-- what the arrival of call k behind so many says of k
abbrev Came : ℕ → ℕ → Arrival → Type 0
Came last k Next = k ≡ last + 1
Came last k Repeat = k ≤ last
Came last k (Ahead n) = (last ≡ n) × (last + 1 < k)

came_at : (b c : Bool) (last k : ℕ) → (k == last + 1) ≡ b → nat_le k last ≡ c → Came last k (cond b Next (cond c Repeat (Ahead last)))
came_at true c last k e f = eqb-true k (last + 1) e
came_at false true last k e f = grind (arith, nat_tests, f)
came_at false false last k e f = (refl, grind (arith, nat_tests, e, f))

came : (last k : ℕ) → Came last k (arrival_of last k)
came last k = came_at (k == last + 1) (nat_le k last) last k refl refl

module _ (charter : CharterState) (d k : ℕ) (call : Effect) (line : HasLine charter d) where
  own_answer : (answer : Answer) → answer ≡ answer_of line.row (take k (effects_of (lane_of call) (alone_in charter d))) → IsOwnOf charter d (inputs.Answer (lane_of call) k answer)
  own_answer answer is =
      let lone = is ∙ ap (λ j. answer_of line.row (take k (effects_of (lane_of call) j))) (alone_is charter d line) in
      rw (line.row_is, line.line_is) lone

  -- what is said by the calls that were accepted before, and behind it
  told_at : (acc : List Effect) (a : Arrival) → Came (length acc) k a → is_on (lane_of call) call ≡ true
      → IsAcceptedOf charter d (lane_of call) (accepted_after acc (lane_of call) (calls.Offer k call) (answers.Offer (offer_at (answer_of line.row) acc k call a)))
      → IsOffer charter d k call (accepted_after acc (lane_of call) (calls.Offer k call) (answers.Offer (offer_at (answer_of line.row) acc k call a))) (offer_at (answer_of line.row) acc k call a)
  told_at acc Next is on law =
      let more = acc ++ call ∷ [] in
      let count : length more ≡ length acc + 1 = length-append acc (call ∷ []) in
      let after : accepted_after acc (lane_of call) (calls.Offer k call) (answers.Offer (offer.Accepted (answer_of line.row more))) ≡ more = rw on refl in
      let begins : take (length more) (effects_of (lane_of call) (alone_in charter d)) ≡ more = subst (λ (l : List Effect). IsAcceptedOf charter d (lane_of call) l) after law in
      let all : more ≡ take k (effects_of (lane_of call) (alone_in charter d)) = sym begins ∙ ap (λ n. take n (effects_of (lane_of call) (alone_in charter d))) (count ∙ sym is) in
      (subst (λ (l : List Effect). k ≤ length l) (sym after) (omega (arith, is, count)), own_answer (answer_of line.row more) (ap (answer_of line.row) all))
  told_at acc Repeat is on law =
      (is, own_answer (answer_of line.row (take k acc)) (ap (answer_of line.row) (ap (take k) (sym law) ∙ take-take k (length acc) (effects_of (lane_of call) (alone_in charter d)) is)))
  told_at acc (Ahead last) is on law = (is.0, subst (λ (n : ℕ). n + 1 < k) is.0 is.1)

module _ {T : Type 0} {h : Ghosts T Turn PeerBasis} {charter : CharterState} {old new : List (FrontSeat T Turn PeerBasis h)} {d : DeviceId} {k : ℕ} {call : Effect} {offer : Offer} where
  pub offer_told : Offered charter old new d k call offer → IsCharter charter → IsCall charter d.0 k call → IsOffer charter d.0 k call (accepted_in d.0 (lane_of call) (seen_at new (shard_of d.0))) offer
  offer_told c form is =
      let line = line_at charter d.0 form is.device in
      let l = lane_of call in
      let acc = accepted_in d.0 l c.before in
      let said : offer ≡ offer_of (answer_of line.row) acc k call = offer_is line.row c line.row_is is.called in
      let after = accepted_is l c in
      let lawful : IsAcceptedOf charter d.0 l (accepted_after acc l (calls.Offer k call) (answers.Offer offer)) = subst (λ (a : List Effect). IsAcceptedOf charter d.0 l a) after (accepted_lawful l c is.device) in
      subst (λ (a : List Effect). IsOffer charter d.0 k call a offer) (sym after)
      (subst (λ (o : Offer). IsOffer charter d.0 k call (accepted_after acc l (calls.Offer k call) (answers.Offer o)) o) (sym said)
      (told_at charter d.0 k call line acc (arrival_of (length acc) k) (came (length acc) k) (call_on call is.called)
      (subst (λ (o : Offer). IsAcceptedOf charter d.0 l (accepted_after acc l (calls.Offer k call) (answers.Offer o))) said lawful)))
