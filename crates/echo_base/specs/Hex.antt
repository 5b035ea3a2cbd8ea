-- Texts of hexadecimal digits.
use Rattle.std.specs.Prelude.{◌≡◌, ℕ, Bool, true, false, List, Ok, Err}
use Rattle.hex.specs.Hex.{decode_of}
use Rattle.hex.specs.declared.error.FromHexError.{FromHexError}

-- the text stands for these octets, or for none
abbrev pub StandsFor : List ℕ → List ℕ → Bool → Type 0
StandsFor text octets true = decode_of text ≡ Ok octets
StandsFor text octets false = (e : FromHexError) × (decode_of text ≡ Err e)
