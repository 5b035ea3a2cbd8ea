-- The one run of bits that spells a value at an offset, piece by piece (ITU-T X.691, aligned variant).
use Rattle.std.specs.Prelude.{ℕ, ◌+◌, ◌-◌, ◌*◌, ◌/◌, ◌==◌, nat_lt, Bool, true, false, List, [], ◌∷◌, ◌++◌, length, if◌then◌else◌}
use Rattle.std.specs.Int.{div_ceil}
use Rattle.aper_fields.specs.declared.enumerated.EnumValue.{EnumValue}
use Rattle.aper_fields.specs.Bits.{bits, bits_of, zeros, gap, filled}
use Rattle.aper_fields.specs.Reading.{width}

-- a run of bits, which depends on where it begins: its offset in bits
abbrev pub Run : Type 0
Run = ℕ → List Bool

-- one run behind another
infixr 10 ◌▸◌
abbrev pub ◌▸◌ : Run → Run → Run
(first ▸ second) at = first at ++ second (at + length (first at))

-- what is written when a run is put behind what was written before
abbrev pub then_written : List Bool → Run → List Bool
then_written before run = before ++ run (length before)

-- no bits
abbrev pub nothing_run : Run
nothing_run at = []

-- a number in n bits
abbrev pub bits_run : ℕ → ℕ → Run
bits_run n v at = bits n v

-- zeros up to the next octet
abbrev pub padding_run : Run
padding_run at = zeros (gap at)

-- the least number of octets that holds a number, at least one
abbrev pub octet_count : ℕ → ℕ
octet_count n = if n == 0 then 1 else div_ceil (width n) 8

-- a number of at most top: the count of its octets less one, padding, and the octets
abbrev pub counted_run : ℕ → ℕ → Run
counted_run top n = bits_run (width (octet_count top - 1)) (octet_count n - 1) ▸ padding_run ▸ bits_run (8 * octet_count n) n

-- a whole number from low to low + top
unfoldable pub number_run : ℕ → ℕ → ℕ → Run
number_run low top v = if top == 0 then nothing_run else (if nat_lt top 255 then bits_run (width top) (v - low) else (if nat_lt top 65536 then padding_run ▸ bits_run (if top == 255 then 8 else 16) (v - low) else counted_run top (v - low)))

-- a general length: padding, and one octet below 128, else two that begin with the bits 10
unfoldable pub length_octets : ℕ → List Bool
length_octets n = if nat_lt n 128 then false ∷ bits 7 n else true ∷ false ∷ bits 14 n

unfoldable pub length_run : ℕ → Run
length_run n = padding_run ▸ λ at. length_octets n

-- an octet string of a fixed size above 2
unfoldable pub fixed_octets_run : List ℕ → Run
fixed_octets_run octets = padding_run ▸ λ at. bits_of octets

-- an octet string of free size
unfoldable pub octet_string_run : List ℕ → Run
octet_string_run octets = length_run (length octets) ▸ λ at. bits_of octets

-- a bit string of a fixed size, aligned above 16 bits
unfoldable pub fixed_bits_run : ℕ → ℕ → Run
fixed_bits_run n v = if nat_lt 16 n then padding_run ▸ bits_run n v else bits_run n v

-- a value of an enumeration: with an extension mark one bit says whether the index is one of the roots
unfoldable pub enumerated_run : ℕ → Bool → EnumValue → Run
enumerated_run roots extensible v = if v.extended then bits_run 1 1 ▸ bits_run 1 0 ▸ bits_run 6 v.index else ((if extensible then bits_run 1 0 else nothing_run) ▸ number_run 0 (roots - 1) v.index)

-- what an open type contains of a body: whole octets, and one octet of zeros for an empty one
abbrev pub content_of : List Bool → List Bool
content_of body = if length body == 0 then zeros 8 else filled body

-- How many zeros end a container in which a value stands from the one offset to the other: up to the next octet; in place of a value of no bits stands an octet of them.
abbrev pub closing : ℕ → ℕ → ℕ
closing start end = if end == start then 8 + gap (end + 8) else gap end

-- an open type: the count of its octets, and the octets
unfoldable pub open_run : List Bool → Run
open_run body = length_run (length (content_of body) / 8) ▸ λ at. content_of body
