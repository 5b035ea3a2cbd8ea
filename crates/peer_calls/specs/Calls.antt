-- The calls that a peer has accepted, a list for each device in the order of their numbers, and what it says to one that arrives.
use Rattle.std.specs.Prelude.{ℕ, ◌+◌, ◌-◌, ◌==◌, nat_le, List, [], ◌∷◌, ◌++◌, length, take, get_or, set, if◌then◌else◌}
use Rattle.device_types.specs.declared.input.Answer.{Answer}
use Rattle.device_types.specs.declared.input.Offer.{Offer}
use Rattle.device_types.specs.declared.input.Offer.TheVariants as offer
use Rattle.peer_calls.specs.declared.arrival.Arrival.{Arrival}
use Rattle.peer_calls.specs.declared.arrival.Arrival.TheVariants.{Next, Repeat, Ahead}

-- those of device d, from 1
abbrev pub calls_of : {C : Type 0} → List (List C) → ℕ → List C
calls_of lists d = get_or lists (d - 1) []

-- with one more call of device d
abbrev pub with_call : {C : Type 0} → List (List C) → ℕ → C → List (List C)
with_call lists d call = set lists (d - 1) (calls_of lists d ++ call ∷ [])

-- what the number k says, behind so many calls of its device
abbrev pub arrival_of : ℕ → ℕ → Arrival
arrival_of last k =
    if k == last + 1 then Next
    else if nat_le k last then Repeat
    else Ahead last

-- what a peer says to call k, by its arrival, where it answers the last of a list of calls so
abbrev pub offer_at : {C : Type 0} → (List C → Answer) → List C → ℕ → C → Arrival → Offer
offer_at answer calls k call Next = offer.Accepted (answer (calls ++ call ∷ []))
offer_at answer calls k call Repeat = offer.Repeat (answer (take k calls))
offer_at answer calls k call (Ahead last) = offer.Ahead last

abbrev pub offer_of : {C : Type 0} → (List C → Answer) → List C → ℕ → C → Offer
offer_of answer calls k call = offer_at answer calls k call (arrival_of (length calls) k)

-- the calls behind it: device d has one more exactly where that is the next
abbrev pub calls_at : {C : Type 0} → List (List C) → ℕ → C → Arrival → List (List C)
calls_at lists d call Next = with_call lists d call
calls_at lists d call Repeat = lists
calls_at lists d call (Ahead last) = lists

abbrev pub after_offer : {C : Type 0} → List (List C) → ℕ → ℕ → C → List (List C)
after_offer lists d k call = calls_at lists d call (arrival_of (length (calls_of lists d)) k)
