-- What one more call, and an offer, make of the calls of each device.
use Rattle.std.proofs.Common.{◌≡◌, ℕ, ◌-◌, ◌≤◌, List, [], ◌∷◌, ◌++◌, length, refl, arith}
use Rattle.std.proofs.lemmas.List.{length-set, get_or-set_same, get_or-set_other}
use Rattle.device_types.specs.Numbers.{IsWithin}
use Rattle.peer_calls.specs.declared.arrival.Arrival.{Arrival}
use Rattle.peer_calls.specs.declared.arrival.Arrival.TheVariants.{Next, Repeat, Ahead}
use Rattle.peer_calls.specs.Calls.{calls_of, with_call, arrival_of, calls_at, after_offer}

-- as many devices
pub more_devices : {C : Type 0} (lists : List (List C)) (d : ℕ) (call : C) → length (with_call lists d call) ≡ length lists
more_devices lists d call = length-set lists (d - 1) (calls_of lists d ++ call ∷ [])

-- the device has one more call
pub more_same : {C : Type 0} (lists : List (List C)) (d : ℕ) (call : C) → IsWithin (length lists) d → calls_of (with_call lists d call) d ≡ calls_of lists d ++ call ∷ []
more_same lists d call w = let low = w.0 in let high = w.1 in get_or-set_same lists (d - 1) (calls_of lists d ++ call ∷ []) [] (omega arith)

-- another has as many as before
pub more_other : {C : Type 0} (lists : List (List C)) (d e : ℕ) (call : C) → 1 ≤ d → 1 ≤ e → (e ≡ d → ⊥) → calls_of (with_call lists d call) e ≡ calls_of lists e
more_other lists d e call low least other = get_or-set_other lists (d - 1) (e - 1) (calls_of lists d ++ call ∷ []) [] (λ same. other (omega arith))

-- ---- an offer

pub offer_devices : {C : Type 0} (lists : List (List C)) (d k : ℕ) (call : C) → length (after_offer lists d k call) ≡ length lists
offer_devices lists d k call = by_arrival (arrival_of (length (calls_of lists d)) k)
  where
    by_arrival : (arrival : Arrival) → length (calls_at lists d call arrival) ≡ length lists
    by_arrival Next = more_devices lists d call
    by_arrival Repeat = refl
    by_arrival (Ahead last) = refl

-- another device has the calls that it had
pub offer_other : {C : Type 0} (lists : List (List C)) (d e k : ℕ) (call : C) → 1 ≤ d → 1 ≤ e → (e ≡ d → ⊥) → calls_of (after_offer lists d k call) e ≡ calls_of lists e
offer_other lists d e k call low least other = by_arrival (arrival_of (length (calls_of lists d)) k)
  where
    by_arrival : (arrival : Arrival) → calls_of (calls_at lists d call arrival) e ≡ calls_of lists e
    by_arrival Next = more_other lists d e call low least other
    by_arrival Repeat = refl
    by_arrival (Ahead last) = refl
