-- A list that begins another, a list of one item for each number, and a mark for each number.
use Rattle.std.specs.Prelude.{◌≡◌, ◌==◌, ℕ, ◌-◌, ◌≤◌, ◌||◌, Bool, false, List, ◌++◌, length, slice_index_or}
use Rattle.device_types.specs.Numbers.{IsWithin}

-- the second list goes on where the first ends
abbrev pub Begins : {X : Type 0} → List X → List X → Type 0
Begins {X} xs ys = (rest : List X) × (xs ++ rest ≡ ys)

-- an item for each number from 1 to the count, each of them right
pub record Each {X : Type 0} (xs : List X) (count : ℕ) (IsRight : ℕ → X → Type 0) : Type 0 where
  pub long : length xs ≡ count
  pub at : (i : ℕ) (x : X) → IsWithin count i → IsRight i (slice_index_or xs (i - 1) x)

-- is the number marked? Behind the end none is
abbrev pub has : ℕ → List Bool → Bool
has n marks = slice_index_or marks (n - 1) false

-- the new list marks this number too
abbrev pub AddsMark : List Bool → List Bool → ℕ → Type 0
AddsMark old new n = (m : ℕ) → 1 ≤ m → has m new ≡ ((m == n) || has m old)
