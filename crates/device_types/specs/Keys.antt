-- Keys.
use Rattle.std.specs.Prelude.{◌≡◌, ℕ, List, [], ◌∷◌, Option, None, Some, length, replicate}
use Rattle.device_types.specs.Octets.{AreOctets}

-- the octets of a key: no octets stand for 32 octets of zero
abbrev pub full : List ℕ → List ℕ
full [] = replicate 32 0
full (octet ∷ octets) = octet ∷ octets

-- the octets of a key that has these, if any
abbrev pub key_of : Option (List ℕ) → List ℕ
key_of None = replicate 32 0
key_of (Some octets) = octets

-- a key has 32 octets
pub record IsKey (key : List ℕ) : Type 0 where
  pub count : length key ≡ 32
  pub octets : AreOctets key
