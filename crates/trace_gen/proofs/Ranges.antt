-- Loops over numbers: one more, the state after one more draw, and how many visits there are.
use Rattle.std.proofs.Common.{◌≡◌, ℕ, zero, suc, ◌+◌, ◌-◌, ◌*◌, ◌<◌, ◌≤◌, Bool, true, false, cond, List, [], ◌∷◌, ◌++◌, refl, ap, ◌∙◌, arith}
use Rattle.std.specs.Prelude.{nat_lt, All}
use Rattle.std.specs.List.{flat_map, range_with_len}
use Rattle.std.proofs.lemmas.Bool.{ltb-true, ltb-false}
use Rattle.std.proofs.lemmas.Grind.{flat_map-append}
use Rattle.std.proofs.lemmas.List.{append-nil}
use Rattle.std.proofs.Math.Nat.{mul-le-mul_right, le-mul_of_pos_right}
use Rattle.trace_gen.specs.Draws.{next_state, state_after}

last : (a n j : ℕ) → n + a ≡ j → range_with_len a (suc n) ≡ range_with_len a n ++ j ∷ []
last a zero j e = let same : a ≡ j = omega (arith, e) in ap (λ k. k ∷ []) same
last a (suc n) j e = ap (λ l. a ∷ l) (last (a + 1) n j (omega (arith, e)))

-- one number more
flat_map_more : {X : Type 0} (f : ℕ → List X) (a n j : ℕ) → n + a ≡ j → flat_map f (range_with_len a (n + 1)) ≡ flat_map f (range_with_len a n) ++ f j
flat_map_more f a n j e =
    let on : n + 1 ≡ suc n = omega arith in
    ap (λ m. flat_map f (range_with_len a m)) on ∙ ap (flat_map f) (last a n j e) ∙ flat_map-append f (range_with_len a n) (j ∷ []) ∙ ap (λ xs. flat_map f (range_with_len a n) ++ xs) (append-nil (f j))

pub from_one : (f : ℕ → List ℕ) (n : ℕ) → flat_map f (range_with_len 1 (n + 1)) ≡ flat_map f (range_with_len 1 n) ++ f (n + 1)
from_one f n = flat_map_more f 1 n (n + 1) refl

pub from_zero : {X : Type 0} (f : ℕ → List X) (n : ℕ) → flat_map f (range_with_len 0 (n + 1)) ≡ flat_map f (range_with_len 0 n) ++ f n
from_zero f n = flat_map_more f 0 n n (omega arith)

-- a visit of the first round draws nothing, and each of the others draws once
state_by : (first visit devices : ℕ) (b : Bool) → nat_lt visit devices ≡ b → state_after first (visit + 1 - devices) ≡ cond b (state_after first (visit - devices)) (next_state (state_after first (visit - devices)))
state_by first visit devices true e = let lt = ltb-true visit devices e in ap (state_after first) (omega (arith, lt))
state_by first visit devices false e =
    let le = ltb-false visit devices e in
    let on : visit + 1 - devices ≡ suc (visit - devices) = omega (arith, le) in
    ap (state_after first) on

pub draws_made : (first visit devices : ℕ) → state_after first (visit + 1 - devices) ≡ cond (nat_lt visit devices) (state_after first (visit - devices)) (next_state (state_after first (visit - devices)))
draws_made first visit devices = state_by first visit devices (nat_lt visit devices) refl

-- how many visits there are behind the first round
pub later_visits : (devices rounds : ℕ) → devices * (rounds + 1) - devices ≡ devices * rounds
later_visits devices rounds = grind arith

pub few_rounds : (devices rounds : ℕ) → 1 ≤ devices → devices * (rounds + 1) ≤ 800 → rounds + 1 ≤ 800
few_rounds devices rounds some few = omega (arith, few, mul-le-mul_right (rounds + 1) some)

pub few_devices : (devices rounds : ℕ) → devices * (rounds + 1) ≤ 800 → devices ≤ 800
few_devices devices rounds few =
    let some : 0 < rounds + 1 = omega arith in
    omega (arith, few, le-mul_of_pos_right {m = rounds + 1} devices some)
