-- What is written for a value in its range spells it.
use Rattle.std.proofs.Common.{◌≡◌, ℕ, zero, suc, ◌+◌, ◌^◌, ◌<◌, ◌≤◌, Bool, true, false, ◌&&◌, List, [], ◌∷◌, ◌++◌, length, refl, sym, leb, inl, inr, arith, Option, Some, None, is_some, IfSome, IsSomeAnd}
use Rattle.std.specs.List.{AllByRecursion}
use Rattle.std.proofs.lemmas.List.{append-nil}
use Rattle.std.proofs.lemmas.Bool.{leb-true, lt-ltb, le-leb, and_parts, eq-eqb}
use Rattle.echo_base.specs.declared.reason.Reason.{Reason}
use Rattle.echo_base.specs.declared.reason.Reason.TheVariants as reasons
use Rattle.aper_fields.specs.Run.{Run, fixed_bits_run, number_run, open_run}
use Rattle.aper_fields.specs.Spelling.{IsOctets}
use Rattle.aper_fields.specs.Format.{Format, ◌>>=◌, just, mapped, IsSpelledBy}
use Rattle.aper_fields.proofs.Periodic.{IsPeriodic}
use Rattle.aper_fields.specs.Sequence.{zero_bit_in, present_in, extensions_in, choice_in, criticality_in, item_in}
use Rattle.aper_fields.specs.Many.{InOrder, inside}
use Rattle.aper_fields.specs.Asn1.{AsnType, Fields, Variant, are_bounds, part_run, bit_string, integer, only, enumerated, octet_string, fixed_octets, choice_index, one_bit, extensible, on, choice, sequence, sequence_of, container, by_test, variant, named, needed, optional, absent, also, format, fields_in, flags_in, run, fields_run, flags_run, each_run, list_run, item_run, present_run, index_run, IsBetween, Fits, FieldsFit, IsSound, AreSound}
use Rattle.aper_fields.proofs.Types.{in_order, sizes_bound, periodic}
use Rattle.aper_fields.proofs.Opens.{FitsOpen, open_holds}
use Rattle.aper_fields.proofs.Sizes.{some, takes}

between_low : (low high v : ℕ) → IsBetween low high v → low ≤ v
between_low zero high v fits = omega arith
between_low (suc n) high v fits = omega (arith, fits.0)

between_high : (low high v : ℕ) → IsBetween low high v → v ≤ high
between_high zero high v fits = fits
between_high (suc n) high v fits = fits.1

pub zero_bit : (reason : Reason) (at : ℕ) → (zero_bit_in reason).Spells at 0 (fixed_bits_run 1 0 at)
unfolding zero_bit_in
zero_bit reason at = (refl, (omega arith, refl))

present_spelled : (b : Bool) (at : ℕ) → present_in.Spells at b (present_run b at)
unfolding present_in present_run
present_spelled true at = (1, _, [], sym (append-nil _), (omega arith, refl), (refl, refl))
present_spelled false at = (0, _, [], sym (append-nil _), (omega arith, refl), (refl, refl))

-- behind the last field: no iE-Extensions
ended : {A : Type 0} (v : A) (at : ℕ) → (extensions_in false >>= λ end. just v).Spells at v []
unfolding extensions_in
ended v at = (tt, [], [], refl, (refl, refl), (refl, refl))

pub choice_spelled : (roots n v : ℕ) → v < roots → v < 2 ^ n → (at : ℕ) → (choice_in roots n).Spells at v (index_run n v at)
unfolding choice_in
choice_spelled roots n v some small at = (0, _, _, refl, zero_bit reasons.BadChoice at, (lt-ltb _ _ some, (small, refl)))

pub criticality_spelled : (criticality at : ℕ) → criticality ≤ 2 → criticality_in.Spells at criticality (fixed_bits_run 2 criticality at)
unfolding criticality_in
criticality_spelled criticality at small = (le-leb criticality 2 small, (omega (arith, small), refl))

each_spelled : {A : Type 0} (F : Format A) (In : A → Type 0) (f : A → Run) → ((a : A) → In a → (at : ℕ) → F.Spells at a (f a at)) → (before xs : List A) → AllByRecursion In xs → (at : ℕ) → InOrder (λ before. F) before at xs (each_run f xs at)
unfolding each_run
each_spelled F In f step before [] fits at = refl
each_spelled F In f step before (x ∷ xs) fits at = (_, _, refl, step x fits.0 at, each_spelled F In f step (before ++ x ∷ []) xs fits.1 _)

item_spelled : {A : Type 0} (id criticality : ℕ) (F : Format A) (v : A) (f : Run) (at : ℕ) → id ≤ 65535 → criticality ≤ 2 → IsSpelledBy F v f → IsPeriodic f → FitsOpen (f 0) → (item_in id >>= λ content. inside content F).Spells at v (item_run id criticality (f 0) at)
unfolding item_in item_run
item_spelled id criticality F v f at small low spelled period fits =
    let first = number_run 0 65535 id at in
    let i = at + length first in
    let second = fixed_bits_run 2 criticality i in
    let body = open_run (f 0) (i + length second) in
    let o = open_holds F v f (i + length second) spelled period fits in
    (o.0, first ++ (second ++ body), [], sym (append-nil (first ++ (second ++ body))), (id, first, second ++ body, refl, (eq-eqb id id refl, ((omega arith, omega (arith, small)), refl)), (criticality, second, body, refl, criticality_spelled criticality i low, o.1)), (o.2, refl))

-- a value of a variant
part_spelled : {A B : Type 0} (kind : Variant A B) (F : Format A) (In : A → Type 0) (f : A → Run) (at : ℕ) → ((a : A) → In a → F.Spells at a (f a at)) → (v : B) (o : Option A) → IfSome o (λ a. v ≡ kind.make a) → IsSomeAnd o In → (mapped kind.make F).Spells at v (part_run f o at)
part_spelled kind F In f at each v (Some a) again fits = (a, again, each a fits)
part_spelled kind F In f at each v None again fits = absurd fits

-- the flags of a value
unfoldable flags_of : {P A : Type 0} → Fields P A → A → P
flags_of (needed p) v = tt
flags_of (optional p) v = is_some v
flags_of (absent reason) v = tt
flags_of (also p q) v = (flags_of p v.0, flags_of q v.1)

flags_spelled : {B P A : Type 0} (s : Fields P A) (v : A) (G : P → Format B) (b : B) (rest : Run) → ((at : ℕ) → (G (flags_of s v)).Spells at b (rest at)) → (at : ℕ) → (flags_in s G).Spells at b (flags_run s v rest at)
unfolding flags_in flags_run flags_of
flags_spelled (needed p) v G b rest each at = each at
flags_spelled (optional p) v G b rest each at = (is_some v, _, _, refl, present_spelled (is_some v) at, each _)
flags_spelled (absent reason) v G b rest each at = (0, _, _, refl, zero_bit reason at, each _)
flags_spelled (also p q) v G b rest each at = flags_spelled p v.0 _ b _ (λ i. flags_spelled q v.1 _ b rest each i) at

mutual
  unfolding format run present_run fields_in fields_run list_run flags_of

  pub spelled : {A : Type 0} (s : AsnType A) → IsSound s → (v : A) → Fits IsOctets s v → (at : ℕ) → (format s).Spells at v (run s v at)
  spelled (bit_string n) sound v fits at = (fits, refl)
  spelled (integer low high bounds) sound v fits at = ((between_low low high v fits, omega (arith, between_high low high v fits, in_order low high bounds)), refl)
  spelled (only reason low high value bounds) sound v fits at =
      let parts = and_parts (are_bounds low high) (leb low value && leb value high) bounds in
      let ends = and_parts (leb low value) (leb value high) parts.1 in
      (value, refl, (eq-eqb value value refl, ((leb-true _ _ ends.0, omega (arith, leb-true _ _ ends.1, in_order low high parts.0)), refl)))
  spelled (enumerated roots marked some) sound v fits at = (fits, refl)
  spelled (octet_string most few) sound v fits at = ((fits.0, omega (arith, fits.0, leb-true most 16383 few), fits.1), refl)
  spelled (fixed_octets n fixed) sound v fits at = (fits, refl)
  spelled (choice_index roots n enough) sound v fits at = choice_spelled roots n v fits (omega (arith, fits, leb-true roots (2 ^ n) (and_parts _ _ enough).0)) at
  spelled one_bit sound v fits at = present_spelled v at
  spelled (extensible reason p) sound v fits at = (0, _, _, refl, zero_bit reason at, spelled p sound v fits _)
  spelled (on p most q) sound v fits at = (v.0, _, _, refl, spelled p sound.0 v.0 fits.0 at, (v.1, _, [], sym (append-nil _), spelled (q v.0) (sound.1 v.0).0 v.1 fits.1 _, (refl, refl)))
  spelled (choice p q) sound (inl a) fits at = (0, _, _, refl, choice_spelled 2 1 0 (omega arith) (omega arith) at, (a, refl, spelled p sound.0 a fits _))
  spelled (choice p q) sound (inr b) fits at = (1, _, _, refl, choice_spelled 2 1 1 (omega arith) (omega arith) at, (b, refl, spelled q sound.1 b fits _))
  spelled (sequence p) sound v fits at = (0, _, _, refl, zero_bit reasons.SequenceExtension at, flags_spelled p v _ v _ (λ i. (false, _, _, refl, present_spelled false i, (v, _, [], sym (append-nil _), fields_spelled p sound v fits _, ended v _))) _)
  spelled (sequence_of low high sizes p) sound v fits at = (length v, _, _, refl, ((fits.0, omega (arith, fits.1, in_order low high (sizes_bound low high sizes))), refl), (refl, each_spelled (format p) (λ a. Fits IsOctets p a) (λ a. run p a) (λ a f. spelled p sound a f) [] v fits.2 _))
  spelled (container id criticality head p) sound v fits at =
      let parts = and_parts (leb id 65535) (leb criticality 2) head in
      item_spelled id criticality (format p) v (run p v) at (leb-true _ _ parts.0) (leb-true _ _ parts.1) (record { everywhere = λ i. spelled p sound.2 v fits i }) (periodic p v) (some IsOctets p sound.0 v fits, omega (arith, takes IsOctets p sound.2 v fits 0, sound.1))
  spelled (by_test true p q) sound v fits at = spelled p sound.0 v fits at
  spelled (by_test false p q) sound v fits at = spelled q sound.1 v fits at
  spelled (variant kind p) sound v fits at = part_spelled kind (format p) (λ a. Fits IsOctets p a) (λ a. run p a) at (λ a f. spelled p sound a f at) v (kind.part v) (kind.again v) fits
  spelled (named same p) sound v fits at = (same.parts v, sym (same.again v), spelled p sound (same.parts v) fits at)

  fields_spelled : {P A : Type 0} (s : Fields P A) → AreSound s → (v : A) → FieldsFit IsOctets s v → (at : ℕ) → (fields_in s (flags_of s v)).Spells at v (fields_run s v at)
  fields_spelled (needed p) sound v fits at = spelled p sound v fits at
  fields_spelled (optional p) sound (Some v) fits at = (v, _, [], sym (append-nil _), spelled p sound v fits at, (refl, refl))
  fields_spelled (optional p) sound None fits at = (refl, refl)
  fields_spelled (absent reason) sound v fits at = (refl, refl)
  fields_spelled (also p q) sound v fits at = (v.0, _, _, refl, fields_spelled p sound.0 v.0 fits.0 at, (v.1, _, [], sym (append-nil _), fields_spelled q sound.1 v.1 fits.1 _, (refl, refl)))
