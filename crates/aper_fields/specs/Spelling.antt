-- What spells a value: a relation between an offset, the value and a whole run of bits.
use Rattle.std.specs.Prelude.{◌≡◌, ℕ, ◌+◌, ◌*◌, ◌^◌, ◌<◌, ◌≤◌, MatchBool, Bool, true, List, [], ◌++◌, length, Ok}
use Rattle.std.specs.List.{AllByRecursion}
use Rattle.aper_fields.specs.declared.enumerated.EnumValue.{EnumValue}
use Rattle.aper_fields.specs.Bits.{bits_of, zeros}
use Rattle.aper_fields.specs.Reading.{Input, Read}
use Rattle.aper_fields.specs.Run.{Run, bits_run, padding_run, number_run, length_octets, length_run, fixed_octets_run, octet_string_run, fixed_bits_run, enumerated_run, closing}

-- which runs of bits spell a value at an offset
abbrev pub Piece : Type 0 → Type 1
Piece A = ℕ → A → List Bool → Type 0

-- the values of a range, each with one run
abbrev pub Spelled : {A : Type 0} → (A → Type 0) → (A → Run) → Piece A
Spelled InRange run at v spelling = InRange v × (spelling ≡ run v at)

-- one piece, and behind it one that may depend on its value
abbrev pub Then : {A B : Type 0} → Piece A → (A → Piece B) → Piece B
Then P Q at b run = (a : _) × (front back : List Bool) × (run ≡ front ++ back) × P at a front × Q a (at + length front) b back

-- the value itself, in no bits
abbrev pub Just : {A : Type 0} → A → Piece A
Just a at v run = (v ≡ a) × (run ≡ [])

abbrev pub Bits : ℕ → Piece ℕ
Bits n = Spelled (λ v. v < 2 ^ n) (bits_run n)

abbrev pub Padding : Piece (Unit {0})
Padding at _ run = run ≡ padding_run at

abbrev pub Number : ℕ → ℕ → Piece ℕ
Number low top = Spelled (λ v. (low ≤ v) × (v ≤ low + top)) (number_run low top)

-- a length at the start of an octet
abbrev pub LengthOctets : Piece ℕ
LengthOctets = Spelled (λ n. n < 2 ^ 14) (λ n at. length_octets n)

abbrev pub Length : Piece ℕ
Length = Spelled (λ n. n < 2 ^ 14) length_run

abbrev pub IsOctets : List ℕ → Type 0
IsOctets octets = AllByRecursion (λ octet. octet < 256) octets

-- n octets, eight bits each
abbrev pub OctetsOf : ℕ → Piece (List ℕ)
OctetsOf n at octets run = (length octets ≡ n) × IsOctets octets × (run ≡ bits_of octets)

abbrev pub FixedOctets : ℕ → Piece (List ℕ)
FixedOctets n = Spelled (λ octets. (length octets ≡ n) × IsOctets octets) fixed_octets_run

abbrev pub OctetString : ℕ → Piece (List ℕ)
OctetString most = Spelled (λ octets. (length octets ≤ most) × (length octets < 2 ^ 14) × IsOctets octets) octet_string_run

abbrev pub FixedBits : ℕ → Piece ℕ
FixedBits n = Spelled (λ v. v < 2 ^ n) (fixed_bits_run n)

-- one of the roots, or with an extension mark an index below 64 beyond them
abbrev pub IsEnumValue : ℕ → Bool → EnumValue → Type 0
IsEnumValue roots extensible v = MatchBool v.extended ((extensible ≡ true) × (v.index < 64)) (v.index < roots)

abbrev pub Enumerated : ℕ → Bool → Piece EnumValue
Enumerated roots extensible = Spelled (IsEnumValue roots extensible) (enumerated_run roots extensible)

-- an open type: padding, the count of its octets, and the octets, which it contains from their place on
abbrev pub Octets : ℕ → Piece Input
Octets n at content run = (content.offset ≡ at) × (length content.left ≡ 8 * n) × (run ≡ content.left)

abbrev pub Open : Piece Input
Open = Then Padding (λ _. Then LengthOctets Octets)

-- All of the content spells a value, but for the zeros that end it.
abbrev pub Holds : {A : Type 0} → Piece A → Input → A → Type 0
Holds P content v = (run : List Bool) × P content.offset v run × (content.left ≡ run ++ zeros (closing content.offset (content.offset + length run)))

-- an open type that contains a value
abbrev pub Contained : {A : Type 0} → Piece A → Piece A
Contained P = Then Open (λ content _ v run. Holds P content v × (run ≡ []))

-- what reading gives stands here, and what stands here is read, whatever follows it
pub record IsExact {A : Type 0} (P : Piece A) (read : Input → Read A) : Type 0 where
  pub found : (i j : Input) (v : A) → read i ≡ Ok (v, j) → (run : List Bool) × P i.offset v run × (i.left ≡ run ++ j.left) × (j.offset ≡ i.offset + length run)
  pub only : (at : ℕ) (v : A) (run rest : List Bool) → P at v run → read (record { offset = at; left = run ++ rest }) ≡ Ok (v, record { offset = at + length run; left = rest })
