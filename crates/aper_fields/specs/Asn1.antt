-- Types of ASN.1 (ITU-T X.680), as TS 36.413 uses them: what a value is made of, in order. All that is said of a value follows from its type.
use Rattle.std.specs.Prelude.{◌≡◌, ◌⊎◌, ℕ, zero, suc, ◌+◌, ◌-◌, ◌*◌, ◌^◌, ◌<◌, ◌≤◌, ◌==◌, nat_lt, nat_le, ◌&&◌, Bool, true, false, List, [], ◌∷◌, length, if◌then◌else◌, Option, Some, None, is_some, IsSomeAnd, IfSome, IsTrue}
use Rattle.std.specs.List.{AllByRecursion}
use Rattle.std.proofs.Common.{inl, inr}
use Rattle.echo_base.specs.declared.reason.Reason.{Reason}
use Rattle.echo_base.specs.declared.reason.Reason.TheVariants as reasons
use Rattle.aper_fields.specs.declared.enumerated.EnumValue.{EnumValue}
use Rattle.aper_fields.specs.Spelling.{IsEnumValue}
use Rattle.aper_fields.specs.Format as formats
use Rattle.aper_fields.specs.Format.{Format, ◌>>=◌, just, passing, mapped, either, fixed_bits_in, number_in, enumerated_in, octet_string_in, fixed_octets_in}
use Rattle.aper_fields.specs.Reading.{fixed_bits_at, number_at, enumerated_at, octet_string_at, fixed_octets_at}
use Rattle.aper_fields.specs.Run.{Run, ◌▸◌, fixed_bits_run, number_run, enumerated_run, nothing_run, octet_string_run, fixed_octets_run, open_run, length_run}
use Rattle.aper_fields.specs.Sequence.{zero_bit_in, present_in, extensions_in, choice_in, item_in}
use Rattle.aper_fields.specs.Many.{many_in, many_at, inside, inside_at}
use Rattle.aper_fields.specs.SequenceReading as reader
use Rattle.aper_fields.specs.SequenceReading.{Reader, done, passing_at, zero_bit_at, present_at, extensions_at, choice_at, item_at, skipped_at}

-- values of two types that are the same but for names
pub record Same (A B : Type 0) : Type 0 where
  pub make : A → B
  pub parts : B → A
  pub back : (a : A) → parts (make a) ≡ a
  pub again : (b : B) → make (parts b) ≡ b

-- a variant of a type
pub record Variant (A B : Type 0) : Type 0 where
  -- a value that is one
  pub make : A → B
  -- what is in a value, where it is one
  pub part : B → Option A
  -- what it was made of is in it
  pub back : (a : A) → part (make a) ≡ Some a
  -- it is made of what is in it
  pub again : (b : B) → IfSome (part b) (λ a. b ≡ make a)

-- bounds of a whole number
abbrev pub are_bounds : ℕ → ℕ → Bool
are_bounds low high = nat_le low high && nat_lt (high - low) (2 ^ 64)

-- bounds of how many items a list has that is no longer than its count can say as a whole number: below 64K (ITU-T X.691, 11.9 and 20)
abbrev pub are_sizes : ℕ → ℕ → Bool
are_sizes low high = nat_le low high && nat_lt high 65536

-- octets of a fixed size that begin at an octet and have no length: more than two, and below 64K bits (ITU-T X.691, 16 and 17)
abbrev pub is_fixed_size : ℕ → Bool
is_fixed_size n = nat_lt 2 n && nat_lt (8 * n) 65536

-- so many roots of a CHOICE have indices in a field of n bits: the least that holds them, for up to 255 of them (ITU-T X.691, 11.5 and 23)
abbrev pub is_index_width : ℕ → ℕ → Bool
is_index_width roots n = nat_le roots (2 ^ n) && (nat_lt (2 ^ n) (2 * roots) && nat_lt roots 256)

-- an id and a criticality
abbrev pub is_head : ℕ → ℕ → Bool
is_head id criticality = nat_le id 65535 && nat_le criticality 2

mutual
  pub data AsnType : Type 0 → Type 1 where
    -- BIT STRING (SIZE (n))
    bit_string : ℕ → AsnType ℕ
    -- INTEGER (low..high)
    integer : (low high : ℕ) → are_bounds low high ≡ true → AsnType ℕ
    -- an INTEGER (low..high) of which one value alone is taken
    only : Reason → (low high value : ℕ) → are_bounds low high && (nat_le low value && nat_le value high) ≡ true → AsnType (Unit {0})
    -- ENUMERATED of so many roots
    enumerated : (roots : ℕ) (marked : Bool) → nat_le 1 roots && nat_lt roots (2 ^ 64) ≡ true → AsnType EnumValue
    -- OCTET STRING, of which at most so many octets are taken
    octet_string : (most : ℕ) → nat_le most 16383 ≡ true → AsnType (List ℕ)
    -- BIT STRING (SIZE (8 * n)), as so many octets, or OCTET STRING (SIZE (n))
    fixed_octets : (n : ℕ) → is_fixed_size n ≡ true → AsnType (List ℕ)
    -- the index of a root of a CHOICE with extension mark, in n bits
    choice_index : (roots n : ℕ) → is_index_width roots n ≡ true → AsnType ℕ
    -- ENUMERATED of two roots without extension mark: is it the second?
    one_bit : AsnType Bool
    -- a type with extension mark, of which no extension is taken
    extensible : {A : Type 0} → Reason → AsnType A → AsnType A
    -- one, and behind it what its value calls for, of at most so many bits
    on : {A B : Type 0} → AsnType A → ℕ → (A → AsnType B) → AsnType (A × B)
    -- CHOICE of two with extension mark
    choice : {A B : Type 0} → AsnType A → AsnType B → AsnType (A ⊎ B)
    -- SEQUENCE with extension mark and iE-Extensions
    sequence : {P A : Type 0} → Fields P A → AsnType A
    -- SEQUENCE (SIZE (low..high)) OF
    sequence_of : {A : Type 0} (low high : ℕ) → are_sizes low high ≡ true → AsnType A → AsnType (List A)
    -- ProtocolIE-SingleContainer: an id, a criticality and an open type
    container : {A : Type 0} (id criticality : ℕ) → is_head id criticality ≡ true → AsnType A → AsnType A
    -- one type or another, by a test, as what an open type contains by its id
    by_test : {A : Type 0} → Bool → AsnType A → AsnType A → AsnType A
    -- the values of a variant
    variant : {A B : Type 0} → Variant A B → AsnType A → AsnType B
    -- the same with other names
    named : {A B : Type 0} → Same A B → AsnType A → AsnType B

  -- the fields of a SEQUENCE, and the bits that say which of them are present
  pub data Fields : Type 0 → Type 0 → Type 1 where
    needed : {A : Type 0} → AsnType A → Fields (Unit {0}) A
    optional : {A : Type 0} → AsnType A → Fields Bool (Option A)
    -- an optional part that is not taken
    absent : Reason → Fields (Unit {0}) (Unit {0})
    also : {P Q A B : Type 0} → Fields P A → Fields Q B → Fields (P × Q) (A × B)

-- ---- which runs spell a value, and which refusal is due

-- the bits that say what is present, and what stands behind them
unfoldable pub flags_in : {B P A : Type 0} → Fields P A → (P → Format B) → Format B
flags_in (needed p) G = G tt
flags_in (optional p) G = present_in >>= G
flags_in (absent reason) G = zero_bit_in reason >>= λ bit. G tt
flags_in (also p q) G = flags_in p (λ a. flags_in q (λ b. G (a, b)))

unfoldable mutual
  pub format : {A : Type 0} → AsnType A → Format A
  format (bit_string n) = fixed_bits_in n
  format (integer low high bounds) = number_in low (high - low)
  format (only reason low high value bounds) = mapped (λ v. tt) (passing (λ v. v == value) reason (number_in low (high - low)))
  format (enumerated roots marked some) = enumerated_in roots marked
  format (octet_string most few) = octet_string_in most
  format (fixed_octets n fixed) = fixed_octets_in n
  format (choice_index roots n enough) = choice_in roots n
  format one_bit = present_in
  format (extensible reason p) = zero_bit_in reason >>= λ extension. format p
  format (on p most q) = format p >>= λ a. format (q a) >>= λ b. just (a, b)
  format (choice p q) = choice_in 2 1 >>= λ kind. formats.either (kind == 0) (mapped inl (format p)) (mapped inr (format q))
  format (sequence p) = zero_bit_in reasons.SequenceExtension >>= λ extension. flags_in p (λ flags. present_in >>= λ more. fields_in p flags >>= λ v. extensions_in more >>= λ end. just v)
  format (sequence_of low high sizes p) = number_in low (high - low) >>= many_in (λ before. format p)
  format (container id criticality head p) = item_in id >>= λ content. inside content (format p)
  format (by_test b p q) = formats.either b (format p) (format q)
  format (variant kind p) = mapped kind.make (format p)
  format (named same p) = mapped same.make (format p)

  pub fields_in : {P A : Type 0} → Fields P A → P → Format A
  fields_in (needed p) flag = format p
  fields_in (optional p) flag = formats.either flag (format p >>= λ v. just (Some v)) (just None)
  fields_in (absent reason) flag = just tt
  fields_in (also p q) flags = fields_in p flags.0 >>= λ a. fields_in q flags.1 >>= λ b. just (a, b)

-- ---- the same from left to right

unfoldable pub flags_at : {B P A : Type 0} → Fields P A → (P → Reader B) → Reader B
flags_at (needed p) g = g tt
flags_at (optional p) g = reader.◌>>=◌ present_at g
flags_at (absent reason) g = reader.◌>>=◌ (zero_bit_at reason) (λ bit. g tt)
flags_at (also p q) g = flags_at p (λ a. flags_at q (λ b. g (a, b)))

-- an item of a list, with all of its open type
unfoldable pub contained_item_at : {A : Type 0} → ℕ → Reader A → Reader A
contained_item_at id read = reader.◌>>=◌ (item_at id) (λ content. inside_at content read)

-- low to high values, one behind another
unfoldable pub list_at : {A : Type 0} → ℕ → ℕ → Reader A → Reader (List A)
list_at low high read = reader.◌>>=◌ (number_at low (high - low)) (λ count. many_at (λ before. read) count [])

-- the same, passed over by a reader that gives no value
unfoldable pub list_skipped_at : ℕ → ℕ → Reader (Unit {0}) → Reader (Unit {0})
list_skipped_at low high skip = reader.◌>>=◌ (number_at low (high - low)) (skipped_at skip)

unfoldable mutual
  pub reading : {A : Type 0} → AsnType A → Reader A
  reading (bit_string n) = fixed_bits_at n
  reading (integer low high bounds) = number_at low (high - low)
  reading (only reason low high value bounds) = reader.◌>>=◌ (passing_at (λ v. v == value) reason (number_at low (high - low))) (λ v. done tt)
  reading (enumerated roots marked some) = enumerated_at roots marked
  reading (octet_string most few) = octet_string_at most
  reading (fixed_octets n fixed) = fixed_octets_at n
  reading (choice_index roots n enough) = choice_at roots n
  reading one_bit = present_at
  reading (extensible reason p) = reader.◌>>=◌ (zero_bit_at reason) (λ extension. reading p)
  reading (on p most q) = reader.◌>>=◌ (reading p) (λ a. reader.◌>>=◌ (reading (q a)) (λ b. done (a, b)))
  reading (choice p q) = reader.◌>>=◌ (choice_at 2 1) (λ kind. λ i. if kind == 0 then reader.◌>>=◌ (reading p) (λ a. done (inl a)) i else reader.◌>>=◌ (reading q) (λ b. done (inr b)) i)
  reading (sequence p) = reader.◌>>=◌ (zero_bit_at reasons.SequenceExtension) (λ extension. flags_at p (λ flags. reader.◌>>=◌ present_at (λ more. reader.◌>>=◌ (fields_at p flags) (λ v. reader.◌>>=◌ (extensions_at more) (λ end. done v)))))
  reading (sequence_of low high sizes p) = list_at low high (reading p)
  reading (container id criticality head p) = contained_item_at id (reading p)
  reading (by_test b p q) = λ i. if b then reading p i else reading q i
  reading (variant kind p) = reader.◌>>=◌ (reading p) (λ a. done (kind.make a))
  reading (named same p) = reader.◌>>=◌ (reading p) (λ a. done (same.make a))

  pub fields_at : {P A : Type 0} → Fields P A → P → Reader A
  fields_at (needed p) flag = reading p
  fields_at (optional p) flag = λ i. if flag then reader.◌>>=◌ (reading p) (λ v. done (Some v)) i else done None i
  fields_at (absent reason) flag = done tt
  fields_at (also p q) flags = reader.◌>>=◌ (fields_at p flags.0) (λ a. reader.◌>>=◌ (fields_at q flags.1) (λ b. done (a, b)))

-- ---- the one run with which a value is written: without iE-Extensions

-- a bit that says whether an optional part is there
unfoldable pub present_run : Bool → Run
present_run present = fixed_bits_run 1 (if present then 1 else 0)

-- the root index of a CHOICE behind its extension bit, in n bits
abbrev pub index_run : ℕ → ℕ → Run
index_run n index = fixed_bits_run 1 0 ▸ fixed_bits_run n index

-- the run of the part that is there
abbrev pub part_run : {A : Type 0} → (A → Run) → Option A → Run
part_run run (Some a) = run a
part_run run None = nothing_run

-- runs one behind another
unfoldable pub each_run : {A : Type 0} → (A → Run) → List A → Run
each_run run [] = nothing_run
each_run run (x ∷ xs) = run x ▸ each_run run xs

-- low to high values: how many there are, and their runs
unfoldable pub list_run : {A : Type 0} → ℕ → ℕ → (A → Run) → List A → Run
list_run low high run xs = number_run low (high - low) (length xs) ▸ each_run run xs

-- an item of a list, with its id, its criticality and what it contains
unfoldable pub item_run : ℕ → ℕ → List Bool → Run
item_run id criticality body = number_run 0 65535 id ▸ fixed_bits_run 2 criticality ▸ open_run body

-- the same up to what it contains, before that is counted
abbrev pub item_start : ℕ → ℕ → Run
item_start id criticality = number_run 0 65535 id ▸ fixed_bits_run 2 criticality ▸ length_run 0

-- the bits that say what is present, and a run behind them
unfoldable pub flags_run : {P A : Type 0} → Fields P A → A → Run → Run
flags_run (needed p) v rest = rest
flags_run (optional p) v rest = present_run (is_some v) ▸ rest
flags_run (absent reason) v rest = fixed_bits_run 1 0 ▸ rest
flags_run (also p q) v rest = flags_run p v.0 (flags_run q v.1 rest)

unfoldable mutual
  pub run : {A : Type 0} → AsnType A → A → Run
  run (bit_string n) v = fixed_bits_run n v
  run (integer low high bounds) v = number_run low (high - low) v
  run (only reason low high value bounds) v = number_run low (high - low) value
  run (enumerated roots marked some) v = enumerated_run roots marked v
  run (octet_string most few) v = octet_string_run v
  run (fixed_octets n fixed) v = fixed_octets_run v
  run (choice_index roots n enough) v = index_run n v
  run one_bit v = present_run v
  run (extensible reason p) v = fixed_bits_run 1 0 ▸ run p v
  run (on p most q) v = run p v.0 ▸ run (q v.0) v.1
  run (choice p q) (inl a) = index_run 1 0 ▸ run p a
  run (choice p q) (inr b) = index_run 1 1 ▸ run q b
  run (sequence p) v = fixed_bits_run 1 0 ▸ flags_run p v (fixed_bits_run 1 0 ▸ fields_run p v)
  run (sequence_of low high sizes p) v = list_run low high (λ a. run p a) v
  run (container id criticality head p) v = item_run id criticality (run p v 0)
  run (by_test b p q) v = if b then run p v else run q v
  run (variant kind p) v = part_run (λ a. run p a) (kind.part v)
  run (named same p) v = run p (same.parts v)

  pub fields_run : {P A : Type 0} → Fields P A → A → Run
  fields_run (needed p) v = run p v
  fields_run (optional p) v = part_run (λ a. run p a) v
  fields_run (absent reason) v = nothing_run
  fields_run (also p q) v = fields_run p v.0 ▸ fields_run q v.1

-- ---- a value in its range

abbrev pub IsBetween : ℕ → ℕ → ℕ → Type 0
IsBetween zero high v = v ≤ high
IsBetween (suc n) high v = (n < v) × (v ≤ high)

-- a value in its range, whose strings have that property
abbrev mutual
  pub Fits : {A : Type 0} → (List ℕ → Type 0) → AsnType A → A → Type 0
  Fits S (bit_string n) v = v < 2 ^ n
  Fits S (integer low high bounds) v = IsBetween low high v
  Fits S (only reason low high value bounds) v = Unit {0}
  Fits S (enumerated roots marked some) v = IsEnumValue roots marked v
  Fits S (octet_string most few) v = (length v ≤ most) × S v
  Fits S (fixed_octets n fixed) v = (length v ≡ n) × S v
  Fits S (choice_index roots n enough) v = v < roots
  Fits S one_bit v = Unit {0}
  Fits S (extensible reason p) v = Fits S p v
  Fits S (on p most q) v = Fits S p v.0 × Fits S (q v.0) v.1
  Fits S (choice p q) (inl a) = Fits S p a
  Fits S (choice p q) (inr b) = Fits S q b
  Fits S (sequence p) v = FieldsFit S p v
  Fits S (sequence_of low high sizes p) v = (low ≤ length v) × (length v ≤ high) × AllByRecursion (λ a. Fits S p a) v
  Fits S (container id criticality head p) v = Fits S p v
  Fits S (by_test true p q) v = Fits S p v
  Fits S (by_test false p q) v = Fits S q v
  Fits S (variant kind p) v = IsSomeAnd (kind.part v) (λ a. Fits S p a)
  Fits S (named same p) v = Fits S p (same.parts v)

  pub FieldsFit : {P A : Type 0} → (List ℕ → Type 0) → Fields P A → A → Type 0
  FieldsFit S (needed p) v = Fits S p v
  FieldsFit S (optional p) v = IfSome v (λ a. Fits S p a)
  FieldsFit S (absent reason) v = Unit {0}
  FieldsFit S (also p q) v = FieldsFit S p v.0 × FieldsFit S q v.1

-- a value that can be written, whatever the numbers of its strings are
abbrev pub CanBeWritten : {A : Type 0} → AsnType A → A → Type 0
CanBeWritten p v = Fits (λ octets. Unit {0}) p v

-- a value that can be written into an open type
abbrev pub IsItem : {A : Type 0} → AsnType A → A → Type 0
IsItem p v = CanBeWritten p v × (length (run p v 0) ≤ 8 * 16383)

-- ---- how many bits it takes

-- the bits that say what is present
abbrev pub most_flags : {P A : Type 0} → Fields P A → ℕ
most_flags (needed p) = 0
most_flags (optional p) = 8
most_flags (absent reason) = 8
most_flags (also p q) = most_flags p + most_flags q

-- bits that are enough for any value in its range, with the padding before each piece
abbrev mutual
  pub most_bits : {A : Type 0} → AsnType A → ℕ
  most_bits (bit_string n) = 7 + n
  most_bits (integer low high bounds) = 74
  most_bits (only reason low high value bounds) = 74
  most_bits (enumerated roots marked some) = 75
  most_bits (octet_string most few) = 23 + 8 * most
  most_bits (fixed_octets n fixed) = 7 + 8 * n
  most_bits (choice_index roots n enough) = 15 + n
  most_bits one_bit = 8
  most_bits (extensible reason p) = 8 + most_bits p
  most_bits (on p most q) = most_bits p + most
  most_bits (choice p q) = 16 + (most_bits p + most_bits q)
  most_bits (sequence p) = 16 + (most_flags p + most_fields p)
  most_bits (sequence_of low high sizes p) = 74 + high * most_bits p
  most_bits (container id criticality head p) = 114 + most_bits p
  most_bits (by_test b p q) = if b then most_bits p else most_bits q
  most_bits (variant kind p) = most_bits p
  most_bits (named same p) = most_bits p

  pub most_fields : {P A : Type 0} → Fields P A → ℕ
  most_fields (needed p) = most_bits p
  most_fields (optional p) = most_bits p
  most_fields (absent reason) = 0
  most_fields (also p q) = most_fields p + most_fields q

-- it takes at least a bit, whatever its value (`only` and `container` are not asked)
abbrev pub takes_some : {A : Type 0} → AsnType A → Bool
takes_some (bit_string n) = nat_lt 0 n
takes_some (integer low high bounds) = nat_lt low high
takes_some (enumerated roots marked some) = if marked then true else nat_lt 1 roots
takes_some (octet_string most few) = true
takes_some (fixed_octets n fixed) = nat_lt 0 n
takes_some (choice_index roots n enough) = true
takes_some one_bit = true
takes_some (extensible reason p) = true
takes_some (on p most q) = takes_some p
takes_some (choice p q) = true
takes_some (sequence p) = true
takes_some (sequence_of low high sizes p) = nat_lt low high
takes_some (by_test b p q) = if b then takes_some p else takes_some q
takes_some (variant kind p) = takes_some p
takes_some (named same p) = takes_some p
takes_some _ = false

-- Each open type contains at least a bit and at most 16,383 octets, a bit string has fewer than 64K bits (ITU-T X.691, 16), and what a value calls for takes no more bits than are said.
abbrev mutual
  pub IsSound : {A : Type 0} → AsnType A → Type 0
  IsSound (bit_string n) = IsTrue (nat_lt n 65536)
  IsSound (integer low high bounds) = Unit {0}
  IsSound (only reason low high value bounds) = Unit {0}
  IsSound (enumerated roots marked some) = Unit {0}
  IsSound (octet_string most few) = Unit {0}
  IsSound (fixed_octets n fixed) = Unit {0}
  IsSound (choice_index roots n enough) = Unit {0}
  IsSound one_bit = Unit {0}
  IsSound (extensible reason p) = IsSound p
  IsSound (on p most q) = IsSound p × ((a : _) → IsSound (q a) × (most_bits (q a) ≤ most))
  IsSound (choice p q) = IsSound p × IsSound q
  IsSound (sequence p) = AreSound p
  IsSound (sequence_of low high sizes p) = IsSound p
  IsSound (container id criticality head p) = (takes_some p ≡ true) × (most_bits p ≤ 8 * 16383) × IsSound p
  IsSound (by_test b p q) = IsSound p × IsSound q
  IsSound (variant kind p) = IsSound p
  IsSound (named same p) = IsSound p

  pub AreSound : {P A : Type 0} → Fields P A → Type 0
  AreSound (needed p) = IsSound p
  AreSound (optional p) = IsSound p
  AreSound (absent reason) = Unit {0}
  AreSound (also p q) = AreSound p × AreSound q
