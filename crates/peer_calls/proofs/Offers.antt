-- What a peer says, by the arrival of the call.
use Rattle.std.proofs.Common.{◌≡◌, ℕ, ◌+◌, ◌-◌, ◌≤◌, List, [], ◌∷◌, ◌++◌, length, take, get_or, Some, ap, ◌∙◌, arith}
use Rattle.std.specs.Prelude.{slice_get}
use Rattle.std.proofs.lemmas.List.{take_more}
use Rattle.std.proofs.lemmas.Option.{slice_get_within, slice_get-get_or, get_or_from_slice_get}
use Rattle.device_types.specs.declared.input.Answer.{Answer}
use Rattle.device_types.specs.declared.input.Offer.TheVariants as offer
use Rattle.peer_calls.specs.declared.arrival.Arrival.TheVariants.{Next, Repeat}
use Rattle.peer_calls.specs.Calls.{arrival_of, offer_at, offer_of}

pub offer_next : {C : Type 0} (answer : List C → Answer) (calls : List C) (k : ℕ) (call : C) (a : Answer) → Next ≡ arrival_of (length calls) k → a ≡ answer (calls ++ call ∷ []) → offer.Accepted a ≡ offer_of answer calls k call
offer_next answer calls k call a next is = ap (λ b. offer.Accepted b) is ∙ ap (offer_at answer calls k call) next

pub offer_again : {C : Type 0} (answer : List C → Answer) (calls : List C) (k : ℕ) (call : C) (a : Answer) → Repeat ≡ arrival_of (length calls) k → a ≡ answer (take k calls) → offer.Repeat a ≡ offer_of answer calls k call
offer_again answer calls k call a again is = ap (λ b. offer.Repeat b) is ∙ ap (offer_at answer calls k call) again

-- a call that comes again was accepted
pub again_within : (last k : ℕ) → Repeat ≡ arrival_of last k → k ≤ last
again_within last k again = grind (arith, again)

-- call k is found
pub call_found : {C : Type 0} (calls found : List C) (k : ℕ) (d : C) → found ≡ calls → 1 ≤ k → k ≤ length calls → slice_get calls (k - 1) ≡ Some (get_or found (k - 1) d)
call_found calls found k d same low high = rw same (slice_get-get_or calls (k - 1) d (omega arith))

-- and is the last of those up to it
pub call_last : {C : Type 0} (calls : List C) (k : ℕ) (call : C) → 1 ≤ k → slice_get calls (k - 1) ≡ Some call → take k calls ≡ take (k - 1) calls ++ call ∷ []
call_last calls k call low found =
    let up : k ≡ k - 1 + 1 = omega arith in
    ap (λ n. take n calls) up ∙ take_more calls (k - 1) call (slice_get_within calls (k - 1) call found)
    ∙ ap (λ c. take (k - 1) calls ++ c ∷ []) (get_or_from_slice_get calls (k - 1) call call found)
