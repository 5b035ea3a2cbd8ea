-- Lists of items (TS 36.413, 9.1), each in an open type of its own with an id and a criticality.
use Rattle.std.specs.Prelude.{◌≡◌, ℕ, ◌*◌, ◌≤◌, true, refl, List}
use Rattle.aper_fields.specs.Asn1.{AsnType, container, sequence_of, is_head, most_bits, takes_some, IsSound}

-- a list of 1 to 256 items
abbrev pub list_of : {A : Type 0} (id criticality : ℕ) → is_head id criticality ≡ true → AsnType A → AsnType (List A)
list_of id criticality head item = sequence_of 1 256 refl (container id criticality head item)

-- An open type of its own has room for any value, and contains at least a bit.
abbrev pub IsItemSound : {A : Type 0} → AsnType A → Type 0
IsItemSound p = (takes_some p ≡ true) × (most_bits p ≤ 8 * 16383) × IsSound p
