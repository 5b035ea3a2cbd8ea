-- Lists of one item for each number, where one item is written.
use Rattle.std.proofs.Common.{◌≡◌, ℕ, ◌-◌, ◌<◌, ⊎_elim, List, length, set, get_or, replicate, ◌∙◌, arith, get_or-set_same, get_or-set_other, length-set}
use Rattle.std.proofs.lemmas.Bool.{cases_eq}
use Rattle.std.proofs.lemmas.List.{get_or-replicate, length-replicate}
use Rattle.device_types.specs.Numbers.{IsWithin}
use Rattle.schedule_laws.specs.Lists.{Each}

pub Each-set : {X : Type 0} (xs : List X) (n : ℕ) (P Q : ℕ → X → Type 0) (i : ℕ) (y : X) → Each xs n P → IsWithin n i → Q i y → ((j : ℕ) (x : X) → (j ≡ i → ⊥) → P j x → Q j x) → Each (set xs (i - 1) y) n Q
Each-set xs n P Q i y t within here others =
    record {
      long = length-set xs (i - 1) y ∙ t.long;
      at = λ j x h. ⊎_elim
          (λ (e : j ≡ i). let long = t.long in let room : i - 1 < length xs = omega arith in rw (e, get_or-set_same xs (i - 1) y x room) here)
          (λ (ne : j ≡ i → ⊥).
          let apart : j - 1 ≡ i - 1 → ⊥ = λ (e : j - 1 ≡ i - 1). ne (omega arith) in
          rw (get_or-set_other xs (i - 1) (j - 1) y x apart) (others j (get_or xs (j - 1) x) ne (t.at j x h)))
          (cases_eq j i);
    }

pub Each-keep : {X : Type 0} (xs : List X) (n : ℕ) (P Q : ℕ → X → Type 0) → Each xs n P → ((j : ℕ) (x : X) → P j x → Q j x) → Each xs n Q
Each-keep xs n P Q t keeps = record { long = t.long; at = λ j x h. keeps j (get_or xs (j - 1) x) (t.at j x h) }

pub Each-same : {X : Type 0} (n : ℕ) (y : X) (P : ℕ → X → Type 0) → ((i : ℕ) → P i y) → Each (replicate n y) n P
Each-same n y P p = record { long = length-replicate n y; at = λ i x h. rw (get_or-replicate n (i - 1) y x (omega arith)) (p i) }
