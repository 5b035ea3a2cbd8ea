-- How many bits are written for a value: at most so many, and at least one where its type takes some.
use Rattle.std.proofs.Common.{ℕ, ◌≡◌, ◌+◌, ◌-◌, ◌*◌, ◌<◌, ◌≤◌, Bool, true, false, List, [], ◌∷◌, length, arith, inl, inr, Option, Some, None, is_some, IsSomeAnd}
use Rattle.std.specs.List.{AllByRecursion}
use Rattle.std.proofs.lemmas.Bool.{ltb-true, and_parts}
use Rattle.std.proofs.lemmas.Nat.{mul-le}
use Rattle.aper_fields.specs.Run.{Run, ◌▸◌, fixed_bits_run, number_run, open_run}
use Rattle.aper_fields.proofs.Lengths.{Takes, then_takes, number_takes, fixed_bits_takes, octet_string_takes, fixed_octets_takes, enumerated_takes, open_takes}
use Rattle.aper_fields.proofs.NotEmpty.{first_some, bit_some, fixed_bits_some, number_some, text_some, marked_some, unmarked_some, octets_some}
use Rattle.aper_fields.specs.Asn1.{AsnType, Fields, bit_string, integer, only, enumerated, octet_string, fixed_octets, choice_index, one_bit, extensible, on, choice, sequence, sequence_of, container, by_test, variant, named, needed, optional, absent, also, run, fields_run, flags_run, each_run, list_run, item_run, part_run, present_run, index_run, Fits, FieldsFit, most_bits, most_flags, most_fields, takes_some, IsSound, AreSound}
use Rattle.aper_fields.proofs.Types.{small_top, sizes_bound}

-- ---- at least a bit

false_true : {Q : Type 0} → false ≡ true → Q
false_true e = absurd cc

index_some : (n index : ℕ) → 0 < length (index_run n index 0)
index_some n index = first_some (fixed_bits_run 1 0) (fixed_bits_run n index) 0 bit_some

part_some : {A : Type 0} (In : A → Type 0) (f : A → Run) → ((a : A) → In a → 0 < length (f a 0)) → (o : Option A) → IsSomeAnd o In → 0 < length (part_run f o 0)
part_some In f each (Some a) fits = each a fits
part_some In f each None fits = absurd fits

present_some : (v : Bool) → 0 < length (present_run v 0)
unfolding present_run
present_some v = fixed_bits_some 1 _ (omega arith)

pub some : {A : Type 0} (S : List ℕ → Type 0) (s : AsnType A) → takes_some s ≡ true → (v : A) → Fits S s v → 0 < length (run s v 0)
unfolding run list_run
some S (bit_string n) b v fits = fixed_bits_some n v (ltb-true _ _ b)
some S (integer low high bounds) b v fits = number_some low (high - low) v (omega (arith, ltb-true _ _ b)) (small_top low high bounds)
some S (enumerated roots true few) b v fits = marked_some roots v
some S (enumerated roots false few) b v fits = unmarked_some roots v (ltb-true _ _ b) (ltb-true _ _ (and_parts _ _ few).1)
some S (octet_string most few) b v fits = text_some v
some S (sequence_of low high sizes p) b v fits = first_some (number_run low (high - low) (length v)) (each_run (λ a. run p a) v) 0 (number_some low (high - low) (length v) (omega (arith, ltb-true _ _ b)) (small_top low high (sizes_bound low high sizes)))
some S (sequence p) b v fits = first_some (fixed_bits_run 1 0) (flags_run p v (fixed_bits_run 1 0 ▸ fields_run p v)) 0 bit_some
some S (choice p q) b (inl a) fits = first_some (index_run 1 0) (run p a) 0 (index_some 1 0)
some S (choice p q) b (inr a) fits = first_some (index_run 1 1) (run q a) 0 (index_some 1 1)
some S (extensible reason p) b v fits = first_some (fixed_bits_run 1 0) (run p v) 0 bit_some
some S (on p most q) b v fits = first_some (run p v.0) (run (q v.0) v.1) 0 (some S p b v.0 fits.0)
some S (fixed_octets n fixed) b v fits = octets_some n v (ltb-true _ _ b) fits.0
some S (choice_index roots n enough) b v fits = index_some n v
some S one_bit b v fits = present_some v
some S (by_test true p q) b v fits = some S p b v fits
some S (by_test false p q) b v fits = some S q b v fits
some S (variant kind p) b v fits = part_some (λ a. Fits S p a) (λ a. run p a) (λ a f. some S p b a f) (kind.part v) fits
some S (named same p) b v fits = some S p b (same.parts v) fits
some S _ b v fits = false_true b

-- ---- at most so many

pub index_takes : (n index : ℕ) → Takes (8 + (7 + n)) (index_run n index)
index_takes n index = then_takes 8 (7 + n) (fixed_bits_run 1 0) (fixed_bits_run n index) (fixed_bits_takes 1 0) (fixed_bits_takes n index)

pub item_takes : (id criticality n : ℕ) (body : List Bool) → length body ≤ n → Takes (114 + n) (item_run id criticality body)
unfolding item_run
item_takes id criticality n body short =
    let whole = then_takes 74 (9 + (31 + length body)) (number_run 0 65535 id) (fixed_bits_run 2 criticality ▸ open_run body) (number_takes 0 65535 id) (then_takes 9 (31 + length body) (fixed_bits_run 2 criticality) (open_run body) (fixed_bits_takes 2 criticality) (open_takes body)) in
    λ at. omega (arith, whole at)

pub each_takes : {A : Type 0} (In : A → Type 0) (n : ℕ) (f : A → Run) → ((x : A) → In x → Takes n (f x)) → (xs : List A) → AllByRecursion In xs → Takes (length xs * n) (each_run f xs)
unfolding each_run
each_takes In n f each [] all = λ at. omega arith
each_takes In n f each (x ∷ xs) all =
    let whole = then_takes n (length xs * n) (f x) (each_run f xs) (each x all.0) (each_takes In n f each xs all.1) in
    λ at. grind (arith, whole at)

pub list_takes : {A : Type 0} (In : A → Type 0) (low high n : ℕ) (f : A → Run) → ((x : A) → In x → Takes n (f x)) → (xs : List A) → AllByRecursion In xs → Takes (74 + length xs * n) (list_run low high f xs)
unfolding list_run
list_takes In low high n f each xs all = then_takes 74 (length xs * n) (number_run low (high - low) (length xs)) (each_run f xs) (number_takes low (high - low) (length xs)) (each_takes In n f each xs all)

part_takes : {A : Type 0} (In : A → Type 0) (n : ℕ) (f : A → Run) → ((a : A) → In a → Takes n (f a)) → (o : Option A) → IsSomeAnd o In → Takes n (part_run f o)
part_takes In n f each (Some a) fits = each a fits
part_takes In n f each None fits = absurd fits

present_takes : (b : Bool) → Takes 8 (present_run b)
unfolding present_run
present_takes b = fixed_bits_takes 1 _

flags_takes : {P A : Type 0} (s : Fields P A) (v : A) (rest : Run) (n : ℕ) → Takes n rest → Takes (most_flags s + n) (flags_run s v rest)
unfolding flags_run
flags_takes (needed p) v rest n t = λ at. omega (arith, t at)
flags_takes (optional p) v rest n t = then_takes 8 n (present_run (is_some v)) rest (present_takes (is_some v)) t
flags_takes (absent reason) v rest n t = then_takes 8 n (fixed_bits_run 1 0) rest (fixed_bits_takes 1 0) t
flags_takes (also p q) v rest n t =
    let whole = flags_takes p v.0 (flags_run q v.1 rest) (most_flags q + n) (flags_takes q v.1 rest n t) in
    λ at. omega (arith, whole at)

mutual
  unfolding run fields_run

  pub takes : {A : Type 0} (S : List ℕ → Type 0) (s : AsnType A) → IsSound s → (v : A) → Fits S s v → Takes (most_bits s) (run s v)
  takes S (bit_string n) sound v fits = fixed_bits_takes n v
  takes S (integer low high bounds) sound v fits = number_takes low (high - low) v
  takes S (only reason low high value bounds) sound v fits = number_takes low (high - low) value
  takes S (enumerated roots marked few) sound v fits = enumerated_takes roots marked v
  takes S (octet_string most few) sound v fits = λ at. omega (arith, octet_string_takes v at, fits.0)
  takes S (fixed_octets n fixed) sound v fits = λ at. omega (arith, fixed_octets_takes v at, fits.0)
  takes S (choice_index roots n enough) sound v fits = λ at. omega (arith, index_takes n v at)
  takes S one_bit sound v fits = present_takes v
  takes S (extensible reason p) sound v fits = then_takes 8 (most_bits p) (fixed_bits_run 1 0) (run p v) (fixed_bits_takes 1 0) (takes S p sound v fits)
  takes S (on p most q) sound v fits =
      let whole = then_takes (most_bits p) (most_bits (q v.0)) (run p v.0) (run (q v.0) v.1) (takes S p sound.0 v.0 fits.0) (takes S (q v.0) (sound.1 v.0).0 v.1 fits.1) in
      λ at. omega (arith, whole at, (sound.1 v.0).1)
  takes S (choice p q) sound (inl a) fits =
      let whole = then_takes 16 (most_bits p) (index_run 1 0) (run p a) (index_takes 1 0) (takes S p sound.0 a fits) in
      λ at. omega (arith, whole at)
  takes S (choice p q) sound (inr b) fits =
      let whole = then_takes 16 (most_bits q) (index_run 1 1) (run q b) (index_takes 1 1) (takes S q sound.1 b fits) in
      λ at. omega (arith, whole at)
  takes S (sequence p) sound v fits =
      let fields = then_takes 8 (most_fields p) (fixed_bits_run 1 0) (fields_run p v) (fixed_bits_takes 1 0) (fields_take S p sound v fits) in
      let whole = then_takes 8 (most_flags p + (8 + most_fields p)) (fixed_bits_run 1 0) (flags_run p v (fixed_bits_run 1 0 ▸ fields_run p v)) (fixed_bits_takes 1 0) (flags_takes p v (fixed_bits_run 1 0 ▸ fields_run p v) (8 + most_fields p) fields) in
      λ at. omega (arith, whole at)
  takes S (sequence_of low high sizes p) sound v fits =
      let whole = list_takes (λ a. Fits S p a) low high (most_bits p) (λ a. run p a) (λ a f. takes S p sound a f) v fits.2 in
      λ at. omega (arith, whole at, mul-le (length v) (most_bits p) high (most_bits p) fits.1 (omega arith))
  takes S (container id criticality head p) sound v fits = item_takes id criticality (most_bits p) (run p v 0) (takes S p sound.2 v fits 0)
  takes S (by_test true p q) sound v fits = takes S p sound.0 v fits
  takes S (by_test false p q) sound v fits = takes S q sound.1 v fits
  takes S (variant kind p) sound v fits = part_takes (λ a. Fits S p a) (most_bits p) (λ a. run p a) (λ a f. takes S p sound a f) (kind.part v) fits
  takes S (named same p) sound v fits = takes S p sound (same.parts v) fits

  fields_take : {P A : Type 0} (S : List ℕ → Type 0) (s : Fields P A) → AreSound s → (v : A) → FieldsFit S s v → Takes (most_fields s) (fields_run s v)
  fields_take S (needed p) sound v fits = takes S p sound v fits
  fields_take S (optional p) sound (Some v) fits = takes S p sound v fits
  fields_take S (optional p) sound None fits = λ at. omega arith
  fields_take S (absent reason) sound v fits = λ at. omega arith
  fields_take S (also p q) sound v fits = then_takes (most_fields p) (most_fields q) (fields_run p v.0) (fields_run q v.1) (fields_take S p sound.0 v.0 fits.0) (fields_take S q sound.1 v.1 fits.1)

-- ---- at most so many of a string or a list of that length

abbrev most_part : {A : Type 0} → (A → ℕ) → Option A → ℕ
most_part n (Some a) = n a
most_part n None = 0

part_takes_of : {A : Type 0} (In : A → Type 0) (n : A → ℕ) (f : A → Run) → ((a : A) → In a → Takes (n a) (f a)) → (o : Option A) → IsSomeAnd o In → Takes (most_part n o) (part_run f o)
part_takes_of In n f each (Some a) fits = each a fits
part_takes_of In n f each None fits = absurd fits

abbrev pub most_of : {A : Type 0} → AsnType A → A → ℕ
most_of (octet_string most few) v = 23 + 8 * length v
most_of (sequence_of low high sizes p) v = 74 + length v * most_bits p
most_of (variant kind p) v = most_part (λ a. most_of p a) (kind.part v)
most_of (named same p) v = most_of p (same.parts v)
most_of p v = most_bits p

pub takes_of : {A : Type 0} (S : List ℕ → Type 0) (s : AsnType A) → IsSound s → (v : A) → Fits S s v → Takes (most_of s v) (run s v)
unfolding run
takes_of S (octet_string most few) sound v fits = octet_string_takes v
takes_of S (sequence_of low high sizes p) sound v fits = list_takes (λ a. Fits S p a) low high (most_bits p) (λ a. run p a) (λ a f. takes S p sound a f) v fits.2
takes_of S (variant kind p) sound v fits = part_takes_of (λ a. Fits S p a) (λ a. most_of p a) (λ a. run p a) (λ a f. takes_of S p sound a f) (kind.part v) fits
takes_of S (named same p) sound v fits = takes_of S p sound (same.parts v) fits
takes_of S p sound v fits = takes S p sound v fits
