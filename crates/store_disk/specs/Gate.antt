-- The gate behind the records of a file.
use Rattle.std.specs.Prelude.{◌≡◌, ◌≢◌, ℕ, List, ◌∷◌, ◌++◌}

-- a file that goes on behind this front with a gate that is closed
abbrev pub IsShut : List ℕ → List ℕ → Type 0
IsShut front file = (gate : ℕ) × (rest : List ℕ) × (gate ≢ 1) × (file ≡ front ++ gate ∷ rest)

-- a file that goes on behind it with a gate that is open, and these octets
abbrev pub IsGrown : List ℕ → List ℕ → List ℕ → Type 0
IsGrown front piece file = (rest : List ℕ) × (file ≡ front ++ 1 ∷ (piece ++ rest))
