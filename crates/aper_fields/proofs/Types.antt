-- What holds of every type: its reading is exact for its format, what is written depends on its offset within an octet alone, and a value is in its range whatever its strings are.
use Rattle.std.proofs.Common.{ℕ, ◌≡◌, ◌-◌, ◌^◌, ◌<◌, ◌≤◌, Bool, true, false, ◌&&◌, List, [], ◌∷◌, length, eqb, ltb, leb, inl, inr, Option, Some, None, IfSome, IsSomeAnd, arith}
use Rattle.std.specs.List.{AllByRecursion}
use Rattle.std.proofs.lemmas.Bool.{lt-ltb, ltb-true, leb-true, and_from, and_parts}
use Rattle.echo_base.specs.declared.reason.Reason.TheVariants as reasons
use Rattle.aper_fields.specs.Run.{Run}
use Rattle.aper_fields.specs.Format.{Format, IsExactly, number_in}
use Rattle.aper_fields.proofs.Formats.{just_exactly, mapped_exactly, passing_exactly, either_exactly}
use Rattle.aper_fields.proofs.ExactNumbers.{number_exactly}
use Rattle.aper_fields.proofs.ExactPieces.{fixed_bits_exactly, enumerated_exactly, octet_string_exactly, fixed_octets_exactly}
use Rattle.aper_fields.proofs.Periodic.{IsPeriodic, constant_periodic, then_periodic, fixed_bits_periodic, number_periodic, enumerated_periodic, octet_string_periodic, fixed_octets_periodic, open_periodic}
use Rattle.aper_fields.specs.SequenceReading.{Reader}
use Rattle.aper_fields.specs.Asn1.{AsnType, Fields, are_bounds, are_sizes, part_run, bit_string, integer, only, enumerated, octet_string, fixed_octets, choice_index, one_bit, extensible, on, choice, sequence, sequence_of, container, by_test, variant, named, needed, optional, absent, also, format, fields_in, flags_in, reading, fields_at, flags_at, list_at, contained_item_at, run, fields_run, flags_run, each_run, list_run, item_run, present_run, index_run, Fits, FieldsFit}
use Rattle.aper_fields.proofs.SequenceExact.{behind, zero_bit_exactly, present_exactly, extensions_exactly, choice_exactly, item_exactly}
use Rattle.aper_fields.proofs.Manys.{many_exactly}
use Rattle.aper_fields.proofs.Inside.{inside_exactly}

pub small_top : (low high : ℕ) → are_bounds low high ≡ true → high - low < 2 ^ 64
small_top low high bounds = ltb-true _ _ (and_parts (leb low high) (ltb (high - low) (2 ^ 64)) bounds).1

pub in_order : (low high : ℕ) → are_bounds low high ≡ true → low ≤ high
in_order low high bounds = leb-true _ _ (and_parts (leb low high) (ltb (high - low) (2 ^ 64)) bounds).0

-- the bounds of a list are bounds
pub sizes_bound : (low high : ℕ) → are_sizes low high ≡ true → are_bounds low high ≡ true
sizes_bound low high sizes =
    let parts = and_parts (leb low high) (ltb high 65536) sizes in
    and_from (leb low high) (ltb (high - low) (2 ^ 64)) parts.0 (lt-ltb _ _ (omega (arith, ltb-true high 65536 parts.1)))

-- ---- reading is exact for the format

flags_exactly : {B P A : Type 0} (s : Fields P A) (G : P → Format B) (g : P → Reader B) → ((flags : P) → IsExactly (G flags) (g flags)) → IsExactly (flags_in s G) (flags_at s g)
unfolding flags_in flags_at
flags_exactly (needed p) G g each = each tt
flags_exactly (optional p) G g each = behind _ _ _ _ present_exactly each
flags_exactly (absent reason) G g each = behind _ _ _ _ (zero_bit_exactly reason) (λ bit. each tt)
flags_exactly (also p q) G g each = flags_exactly p _ _ (λ a. flags_exactly q _ _ (λ b. each (a, b)))

mutual
  unfolding format reading fields_in fields_at list_at contained_item_at

  pub exactly : {A : Type 0} (s : AsnType A) → IsExactly (format s) (reading s)
  exactly (bit_string n) = fixed_bits_exactly n
  exactly (integer low high bounds) = number_exactly low (high - low) (small_top low high bounds)
  exactly (only reason low high value bounds) = mapped_exactly (λ v. tt) _ _ (passing_exactly (λ v. eqb v value) reason (number_in low (high - low)) _ (number_exactly low (high - low) (small_top low high (and_parts (are_bounds low high) (leb low value && leb value high) bounds).0)))
  exactly (enumerated roots marked some) =
      let parts = and_parts (leb 1 roots) (ltb roots (2 ^ 64)) some in
      enumerated_exactly roots marked (leb-true _ _ parts.0) (ltb-true _ _ parts.1)
  exactly (octet_string most few) = octet_string_exactly most
  exactly (fixed_octets n fixed) = fixed_octets_exactly n
  exactly (choice_index roots n enough) = choice_exactly roots n
  exactly one_bit = present_exactly
  exactly (extensible reason p) = behind _ _ _ _ (zero_bit_exactly reason) (λ extension. exactly p)
  exactly (on p most q) = behind _ _ _ _ (exactly p) (λ a. behind _ _ _ _ (exactly (q a)) (λ b. just_exactly (a, b)))
  exactly (choice p q) = behind _ _ _ _ (choice_exactly 2 1) (λ kind. either_exactly (eqb kind 0) _ _ _ _ (mapped_exactly inl _ _ (exactly p)) (mapped_exactly inr _ _ (exactly q)))
  exactly (sequence p) = behind _ _ _ _ (zero_bit_exactly reasons.SequenceExtension) (λ extension. flags_exactly p _ _ (λ flags. behind _ _ _ _ present_exactly (λ more. behind _ _ _ _ (fields_exactly p flags) (λ v. behind _ _ _ _ (extensions_exactly more) (λ end. just_exactly v)))))
  exactly (sequence_of low high sizes p) = behind _ _ _ _ (number_exactly low (high - low) (small_top low high (sizes_bound low high sizes))) (many_exactly _ _ (λ before. exactly p))
  exactly (container id criticality head p) = behind _ _ _ _ (item_exactly id) (λ content. inside_exactly content (format p) (reading p) (exactly p))
  exactly (by_test b p q) = either_exactly b _ _ _ _ (exactly p) (exactly q)
  exactly (variant kind p) = mapped_exactly kind.make (format p) (reading p) (exactly p)
  exactly (named same p) = mapped_exactly same.make (format p) (reading p) (exactly p)

  fields_exactly : {P A : Type 0} (s : Fields P A) (flags : P) → IsExactly (fields_in s flags) (fields_at s flags)
  fields_exactly (needed p) flag = exactly p
  fields_exactly (optional p) flag = either_exactly flag _ _ _ _ (behind _ _ _ _ (exactly p) (λ v. just_exactly (Some v))) (just_exactly None)
  fields_exactly (absent reason) flag = just_exactly tt
  fields_exactly (also p q) flags = behind _ _ _ _ (fields_exactly p flags.0) (λ a. behind _ _ _ _ (fields_exactly q flags.1) (λ b. just_exactly (a, b)))

-- ---- a run depends on where it begins only within an octet

pub index_periodic : (n index : ℕ) → IsPeriodic (index_run n index)
index_periodic n index = then_periodic _ _ (fixed_bits_periodic 1 0) (fixed_bits_periodic n index)

part_periodic : {A : Type 0} (f : A → Run) → ((a : A) → IsPeriodic (f a)) → (o : Option A) → IsPeriodic (part_run f o)
part_periodic f each (Some a) = each a
part_periodic f each None = constant_periodic []

each_periodic : {A : Type 0} (f : A → Run) → ((a : A) → IsPeriodic (f a)) → (xs : List A) → IsPeriodic (each_run f xs)
unfolding each_run
each_periodic f each [] = constant_periodic []
each_periodic f each (x ∷ xs) = then_periodic _ _ (each x) (each_periodic f each xs)

pub item_periodic : (id criticality : ℕ) (body : List Bool) → IsPeriodic (item_run id criticality body)
unfolding item_run
item_periodic id criticality body = then_periodic _ _ (number_periodic 0 65535 id) (then_periodic _ _ (fixed_bits_periodic 2 criticality) (open_periodic body))

flags_periodic : {P A : Type 0} (s : Fields P A) (v : A) (rest : Run) → IsPeriodic rest → IsPeriodic (flags_run s v rest)
unfolding flags_run present_run
flags_periodic (needed p) v rest r = r
flags_periodic (optional p) v rest r = then_periodic _ _ (fixed_bits_periodic 1 _) r
flags_periodic (absent reason) v rest r = then_periodic _ _ (fixed_bits_periodic 1 0) r
flags_periodic (also p q) v rest r = flags_periodic p v.0 _ (flags_periodic q v.1 rest r)

mutual
  unfolding run fields_run list_run present_run

  pub periodic : {A : Type 0} (s : AsnType A) (v : A) → IsPeriodic (run s v)
  periodic (bit_string n) v = fixed_bits_periodic n v
  periodic (integer low high bounds) v = number_periodic low (high - low) v
  periodic (only reason low high value bounds) v = number_periodic low (high - low) value
  periodic (enumerated roots marked some) v = enumerated_periodic roots marked v
  periodic (octet_string most few) v = octet_string_periodic v
  periodic (fixed_octets n fixed) v = fixed_octets_periodic v
  periodic (choice_index roots n enough) v = index_periodic n v
  periodic one_bit v = fixed_bits_periodic 1 _
  periodic (extensible reason p) v = then_periodic _ _ (fixed_bits_periodic 1 0) (periodic p v)
  periodic (on p most q) v = then_periodic _ _ (periodic p v.0) (periodic (q v.0) v.1)
  periodic (choice p q) (inl a) = then_periodic _ _ (index_periodic 1 0) (periodic p a)
  periodic (choice p q) (inr b) = then_periodic _ _ (index_periodic 1 1) (periodic q b)
  periodic (sequence p) v = then_periodic _ _ (fixed_bits_periodic 1 0) (flags_periodic p v _ (then_periodic _ _ (fixed_bits_periodic 1 0) (fields_periodic p v)))
  periodic (sequence_of low high sizes p) v = then_periodic _ _ (number_periodic low (high - low) (length v)) (each_periodic (λ a. run p a) (λ a. periodic p a) v)
  periodic (container id criticality head p) v = item_periodic id criticality (run p v 0)
  periodic (by_test true p q) v = periodic p v
  periodic (by_test false p q) v = periodic q v
  periodic (variant kind p) v = part_periodic (λ a. run p a) (λ a. periodic p a) (kind.part v)
  periodic (named same p) v = periodic p (same.parts v)

  fields_periodic : {P A : Type 0} (s : Fields P A) (v : A) → IsPeriodic (fields_run s v)
  fields_periodic (needed p) v = periodic p v
  fields_periodic (optional p) v = part_periodic (λ a. run p a) (λ a. periodic p a) v
  fields_periodic (absent reason) v = constant_periodic []
  fields_periodic (also p q) v = then_periodic _ _ (fields_periodic p v.0) (fields_periodic q v.1)

-- ---- a value in its range, with a property of its strings that follows

if_some : {A : Type 0} (P Q : A → Type 0) → ((a : A) → P a → Q a) → (o : Option A) → IfSome o P → IfSome o Q
if_some P Q each (Some a) p = each a p
if_some P Q each None p = tt

some_and : {A : Type 0} (P Q : A → Type 0) → ((a : A) → P a → Q a) → (o : Option A) → IsSomeAnd o P → IsSomeAnd o Q
some_and P Q each (Some a) p = each a p
some_and P Q each None p = absurd p

pub each_of : {A : Type 0} (P Q : A → Type 0) → ((a : A) → P a → Q a) → (xs : List A) → AllByRecursion P xs → AllByRecursion Q xs
each_of P Q each [] all = tt
each_of P Q each (x ∷ xs) all = (each x all.0, each_of P Q each xs all.1)

mutual
  pub fits_by : {A : Type 0} (S T : List ℕ → Type 0) → ((octets : List ℕ) → S octets → T octets) → (s : AsnType A) (v : A) → Fits S s v → Fits T s v
  fits_by S T each (octet_string most few) v fits = (fits.0, each v fits.1)
  fits_by S T each (fixed_octets n fixed) v fits = (fits.0, each v fits.1)
  fits_by S T each (extensible reason p) v fits = fits_by S T each p v fits
  fits_by S T each (on p most q) v fits = (fits_by S T each p v.0 fits.0, fits_by S T each (q v.0) v.1 fits.1)
  fits_by S T each (choice p q) (inl a) fits = fits_by S T each p a fits
  fits_by S T each (choice p q) (inr b) fits = fits_by S T each q b fits
  fits_by S T each (sequence p) v fits = fields_fit_by S T each p v fits
  fits_by S T each (sequence_of low high sizes p) v fits = (fits.0, fits.1, each_of (λ a. Fits S p a) (λ a. Fits T p a) (λ a f. fits_by S T each p a f) v fits.2)
  fits_by S T each (container id criticality head p) v fits = fits_by S T each p v fits
  fits_by S T each (by_test true p q) v fits = fits_by S T each p v fits
  fits_by S T each (by_test false p q) v fits = fits_by S T each q v fits
  fits_by S T each (variant kind p) v fits = some_and (λ a. Fits S p a) (λ a. Fits T p a) (λ a f. fits_by S T each p a f) (kind.part v) fits
  fits_by S T each (named same p) v fits = fits_by S T each p (same.parts v) fits
  fits_by S T each _ v fits = fits

  fields_fit_by : {P A : Type 0} (S T : List ℕ → Type 0) → ((octets : List ℕ) → S octets → T octets) → (s : Fields P A) (v : A) → FieldsFit S s v → FieldsFit T s v
  fields_fit_by S T each (needed p) v fits = fits_by S T each p v fits
  fields_fit_by S T each (optional p) v fits = if_some (λ a. Fits S p a) (λ a. Fits T p a) (λ a f. fits_by S T each p a f) v fits
  fields_fit_by S T each (absent reason) v fits = tt
  fields_fit_by S T each (also p q) v fits = (fields_fit_by S T each p v.0 fits.0, fields_fit_by S T each q v.1 fits.1)
