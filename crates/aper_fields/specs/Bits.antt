-- Runs of bits, the first one highest, and the octets that hold them.
use Rattle.std.specs.Prelude.{ℕ, zero, suc, ◌+◌, ◌-◌, ◌/◌, ◌%◌, ◌^◌, ◌==◌, Bool, false, if◌then◌else◌, List, [], ◌∷◌, ◌++◌, length, replicate, take, drop}

-- the last n bits of a number
unfoldable pub bits : ℕ → ℕ → List Bool
bits zero v = []
bits (suc n) v = (v / 2 ^ n % 2 == 1) ∷ bits n v

-- the number that bits spell
unfoldable pub number_of : List Bool → ℕ
number_of [] = 0
number_of (b ∷ bs) = (if b then 2 ^ length bs else 0) + number_of bs

-- the bits of octets, eight each
unfoldable pub bits_of : List ℕ → List Bool
bits_of [] = []
bits_of (octet ∷ octets) = bits 8 octet ++ bits_of octets

-- n octets from the front of a run
unfoldable pub octets_of : ℕ → List Bool → List ℕ
octets_of zero bs = []
octets_of (suc n) bs = number_of (take 8 bs) ∷ octets_of n (drop 8 bs)

abbrev pub zeros : ℕ → List Bool
zeros n = replicate n false

-- how many bits lead from an offset to the next octet
abbrev pub gap : ℕ → ℕ
gap at = (8 - at % 8) % 8

-- a run, filled up with zeros to whole octets
abbrev pub filled : List Bool → List Bool
filled run = run ++ zeros (gap (length run))

-- the octets that hold a run, the last of them filled up with zeros
unfoldable pub packed : List Bool → List ℕ
packed run = octets_of (length (filled run) / 8) (filled run)
