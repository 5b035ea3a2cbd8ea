-- Lines of text.
use Rattle.std.specs.Prelude.{ℕ, ◌+◌, ◌-◌, ◌++◌, false, List, [], ◌∷◌, length, replicate}
use Rattle.std.specs.Fmt.{digits}

-- a line with the LF that ends it
abbrev pub ended : List ℕ → List ℕ
ended line = line ++ 10 ∷ []

-- a line for each item, with its number, the first of them with that number
abbrev pub numbered_from : {A : Type 0} → (ℕ → A → List ℕ) → ℕ → List A → List ℕ
numbered_from line number [] = []
numbered_from line number (item ∷ items) = ended (line number item) ++ numbered_from line (number + 1) items

-- numbered from 1
abbrev pub numbered : {A : Type 0} → (ℕ → A → List ℕ) → List A → List ℕ
numbered line items = numbered_from line 1 items

-- a number in hexadecimal, with zeros in front up to so many digits
abbrev pub hex_filled : ℕ → ℕ → List ℕ
hex_filled width n = replicate (width - length (digits 16 false n)) 48 ++ digits 16 false n
