-- A value that is spelled is in its range, and what is written for it ends no later than what spells it.
use Rattle.std.proofs.Common.{ℕ, zero, suc, ◌≡◌, ◌-◌, ◌<◌, ◌≤◌, Bool, true, false, List, [], ◌∷◌, ◌++◌, length, eqb, sym, ap, ◌∙◌, subst, inl, inr, arith, is_some, IsSomeAnd}
use Rattle.std.specs.List.{AllByRecursion}
use Rattle.std.proofs.lemmas.Bool.{cases_Bool, ltb-true, eqb-true}
use Rattle.echo_base.specs.declared.reason.Reason.{Reason}
use Rattle.echo_base.specs.declared.reason.Reason.TheVariants as reasons
use Rattle.aper_fields.specs.Run.{Run, ◌▸◌, fixed_bits_run, number_run}
use Rattle.aper_fields.specs.Spelling.{IsOctets}
use Rattle.aper_fields.specs.Format.{Format}
use Rattle.aper_fields.specs.Sequence.{zero_bit_in, present_in, choice_in}
use Rattle.aper_fields.specs.Many.{InOrder}
use Rattle.aper_fields.specs.Asn1.{AsnType, Fields, part_run, bit_string, integer, only, enumerated, octet_string, fixed_octets, choice_index, one_bit, extensible, on, choice, sequence, sequence_of, container, by_test, variant, named, needed, optional, absent, also, format, fields_in, flags_in, run, fields_run, flags_run, each_run, list_run, present_run, index_run, IsBetween, Fits, FieldsFit, IsSound, AreSound}
use Rattle.aper_fields.proofs.Ends.{EndsBy, nothing_ends, then_ends, front_ends, number_ends, fixed_bits_ends, enumerated_ends, octet_string_ends, fixed_octets_ends}
use Rattle.aper_fields.proofs.Types.{in_order, sizes_bound, periodic}
use Rattle.aper_fields.proofs.Room.{item_least}
use Rattle.aper_fields.proofs.Sizes.{some}

-- in its range, and written in no more than spells it
abbrev pub IsLeastOf : {A : Type 0} → AsnType A → A → ℕ → List Bool → Type 0
IsLeastOf s v at bits = Fits IsOctets s v × EndsBy (run s v) at bits

-- the same of fields
abbrev pub AreLeastOf : {P A : Type 0} → Fields P A → A → ℕ → List Bool → Type 0
AreLeastOf s v at bits = FieldsFit IsOctets s v × EndsBy (fields_run s v) at bits

between : (low high v : ℕ) → low ≤ v → v ≤ high → IsBetween low high v
between zero high v least most = most
between (suc n) high v least most = (omega (arith, least), most)

-- ---- pieces

zero_ends : (reason : Reason) (at bit : ℕ) (bits : List Bool) → (zero_bit_in reason).Spells at bit bits → EndsBy (fixed_bits_run 1 0) at bits
unfolding zero_bit_in
zero_ends reason at bit bits s = fixed_bits_ends 1 0 bit at bits s.1.1

present_ends : (b here : Bool) (at : ℕ) (bits : List Bool) → present_in.Spells at here bits → EndsBy (present_run b) at bits
unfolding present_in present_run
present_ends true here at bits s = front_ends (fixed_bits_run 1 1) at s.1 s.2 bits s.3 (fixed_bits_ends 1 1 s.0 at s.1 s.4.1)
present_ends false here at bits s = front_ends (fixed_bits_run 1 0) at s.1 s.2 bits s.3 (fixed_bits_ends 1 0 s.0 at s.1 s.4.1)

present_zero : (here : Bool) (at : ℕ) (bits : List Bool) → present_in.Spells at here bits → EndsBy (fixed_bits_run 1 0) at bits
unfolding present_in
present_zero here at bits s = front_ends (fixed_bits_run 1 0) at s.1 s.2 bits s.3 (fixed_bits_ends 1 0 s.0 at s.1 s.4.1)

choice_ends : (roots n v w at : ℕ) (bits : List Bool) → (choice_in roots n).Spells at w bits → EndsBy (index_run n v) at bits
unfolding choice_in
choice_ends roots n v w at bits s = then_ends (fixed_bits_run 1 0) (fixed_bits_run n v) at s.1 s.2 bits s.3 (zero_ends reasons.BadChoice at s.0 s.1 s.4) (fixed_bits_ends n v w _ s.2 s.5.1.1)

choice_in_range : (roots n v at : ℕ) (bits : List Bool) → (choice_in roots n).Spells at v bits → v < roots
unfolding choice_in
choice_in_range roots n v at bits s = ltb-true _ _ s.5.0

-- the flags, and what stands behind them
flags_least : {B P A : Type 0} (s : Fields P A) (v : A) (G : P → Format B) (b : B) (rest : Run) (at : ℕ) (bits : List Bool) → ((flags : P) (at : ℕ) (bits : List Bool) → (G flags).Spells at b bits → EndsBy rest at bits) → (flags_in s G).Spells at b bits → EndsBy (flags_run s v rest) at bits
unfolding flags_in flags_run
flags_least (needed p) v G b rest at bits each s = each tt at bits s
flags_least (optional p) v G b rest at bits each s = then_ends (present_run (is_some v)) rest at s.1 s.2 bits s.3 (present_ends (is_some v) s.0 at s.1 s.4) (each s.0 _ s.2 s.5)
flags_least (absent reason) v G b rest at bits each s = then_ends (fixed_bits_run 1 0) rest at s.1 s.2 bits s.3 (zero_ends reason at s.0 s.1 s.4) (each tt _ s.2 s.5)
flags_least (also p q) v G b rest at bits each s = flags_least p v.0 _ b _ at bits (λ x i l t. flags_least q v.1 _ b rest i l (λ y j m u. each (x, y) j m u) t) s

flags_any : {B P A : Type 0} (Q : Type 0) (s : Fields P A) (G : P → Format B) (b : B) (at : ℕ) (bits : List Bool) → ((flags : P) (at : ℕ) (bits : List Bool) → (G flags).Spells at b bits → Q) → (flags_in s G).Spells at b bits → Q
unfolding flags_in
flags_any Q (needed p) G b at bits each s = each tt at bits s
flags_any Q (optional p) G b at bits each s = each s.0 _ s.2 s.5
flags_any Q (absent reason) G b at bits each s = each tt _ s.2 s.5
flags_any Q (also p q) G b at bits each s = flags_any Q p _ b at bits (λ x i l t. flags_any Q q _ b i l (λ y j m u. each (x, y) j m u) t) s

each_least : {A : Type 0} (F : Format A) (In : A → Type 0) (f : A → Run) → ((a : A) (at : ℕ) (bits : List Bool) → F.Spells at a bits → In a × EndsBy (f a) at bits) → (before xs : List A) (at : ℕ) (bits : List Bool) → InOrder (λ before. F) before at xs bits → AllByRecursion In xs × EndsBy (each_run f xs) at bits
unfolding each_run
each_least F In f step before [] at bits s = (tt, nothing_ends at bits)
each_least F In f step before (x ∷ xs) at bits s =
    let first = step x at s.0 s.3 in
    let others = each_least F In f step (before ++ x ∷ []) xs _ s.1 s.4 in
    ((first.0, others.0), then_ends (f x) (each_run f xs) at s.0 s.1 bits s.2 first.1 others.1)

-- ---- all types

mutual
  unfolding format fields_in run fields_run list_run

  pub least : {A : Type 0} (s : AsnType A) → IsSound s → (v : A) (at : ℕ) (bits : List Bool) → (format s).Spells at v bits → IsLeastOf s v at bits
  least (bit_string n) sound v at bits s = (s.0, fixed_bits_ends n v v at bits s.1)
  least (integer low high bounds) sound v at bits s = (between low high v s.0.0 (omega (arith, s.0.1, in_order low high bounds)), number_ends low (high - low) v at bits s.1)
  least (only reason low high value bounds) sound v at bits s =
      let whole : s.0 ≡ value = eqb-true s.0 value s.2.0 in
      (tt, number_ends low (high - low) value at bits (s.2.1.1 ∙ ap (λ n. number_run low (high - low) n at) whole))
  least (enumerated roots marked some) sound v at bits s = (s.0, enumerated_ends roots marked v at bits s.1)
  least (octet_string most few) sound v at bits s = ((s.0.0, s.0.2), octet_string_ends v at bits s.1)
  least (fixed_octets n fixed) sound v at bits s = (s.0, fixed_octets_ends v at bits s.1)
  least (choice_index roots n enough) sound v at bits s = (choice_in_range roots n v at bits s, choice_ends roots n v v at bits s)
  least one_bit sound v at bits s = (tt, present_ends v v at bits s)
  least (extensible reason p) sound v at bits s =
      let x = least p sound v _ s.2 s.5 in
      (x.0, then_ends (fixed_bits_run 1 0) (run p v) at s.1 s.2 bits s.3 (zero_ends reason at s.0 s.1 s.4) x.1)
  least (on p most q) sound v at bits s =
      let b = s.5 in
      let x = least p sound.0 s.0 at s.1 s.4 in
      let y = least (q s.0) (sound.1 s.0).0 b.0 _ b.1 b.4 in
      subst (λ w. IsLeastOf (on p most q) w at bits) (sym b.5.0) ((x.0, y.0), then_ends (run p s.0) (run (q s.0) b.0) at s.1 s.2 bits s.3 x.1 (front_ends (run (q s.0) b.0) _ b.1 b.2 s.2 b.3 y.1))
  least (choice p q) sound v at bits s =
      elim (cases_Bool (eqb s.0 0)) [
        | inl t ↦
            let x = rw t at s.5 in
            let y = least p sound.0 x.0 _ s.2 x.2 in
            subst (λ w. IsLeastOf (choice p q) w at bits) (sym x.1) (y.0, then_ends (index_run 1 0) (run p x.0) at s.1 s.2 bits s.3 (choice_ends 2 1 0 s.0 at s.1 s.4) y.1)
        | inr f ↦
            let x = rw f at s.5 in
            let y = least q sound.1 x.0 _ s.2 x.2 in
            subst (λ w. IsLeastOf (choice p q) w at bits) (sym x.1) (y.0, then_ends (index_run 1 1) (run q x.0) at s.1 s.2 bits s.3 (choice_ends 2 1 1 s.0 at s.1 s.4) y.1)
      ]
  least (sequence p) sound v at bits s = (
    flags_any (FieldsFit IsOctets p v) p _ v _ s.2 (λ flags i l t. let f = t.5 in subst (FieldsFit IsOctets p) (sym f.5.5.0) (fields_least p sound flags f.0 _ f.1 f.4).0) s.5,
    then_ends (fixed_bits_run 1 0) (flags_run p v (fixed_bits_run 1 0 ▸ fields_run p v)) at s.1 s.2 bits s.3 (zero_ends reasons.SequenceExtension at s.0 s.1 s.4)
        (flags_least p v _ v (fixed_bits_run 1 0 ▸ fields_run p v) _ s.2 (λ flags i l t. let f = t.5 in subst (λ w. EndsBy (fixed_bits_run 1 0 ▸ fields_run p w) i l) (sym f.5.5.0) (then_ends (fixed_bits_run 1 0) (fields_run p f.0) i t.1 t.2 l t.3 (present_zero t.0 i t.1 t.4) (front_ends (fields_run p f.0) _ f.1 f.2 t.2 f.3 (fields_least p sound flags f.0 _ f.1 f.4).1))) s.5),
  )
  least (sequence_of low high sizes p) sound v at bits s =
      let x = each_least (format p) (λ a. Fits IsOctets p a) (λ a. run p a) (λ a i l t. least p sound a i l t) [] v _ s.2 s.5.1 in
      let first : s.1 ≡ number_run low (high - low) (length v) at = s.4.1 ∙ ap (λ n. number_run low (high - low) n at) (sym s.5.0) in
      ((omega (arith, s.4.0.0, s.5.0), omega (arith, s.4.0.1, s.5.0, in_order low high (sizes_bound low high sizes)), x.0), then_ends (number_run low (high - low) (length v)) (each_run (λ a. run p a) v) at s.1 s.2 bits s.3 (number_ends low (high - low) (length v) at s.1 first) x.1)
  least (container id criticality head p) sound v at bits s =
      item_least id criticality (format p) v (run p v) at bits (Fits IsOctets p v) (λ offset held t. (least p sound.2 v offset held t).0) (record { some = some IsOctets p sound.0 v (least p sound.2 v s.0.offset s.5.0.0 s.5.0.1).0; periodic = periodic p v; ends = λ i l t. (least p sound.2 v i l t).1 }) s
  least (by_test true p q) sound v at bits s = least p sound.0 v at bits s
  least (by_test false p q) sound v at bits s = least q sound.1 v at bits s
  least (variant kind p) sound v at bits s =
      let x = least p sound s.0 at bits s.2 in
      subst (λ w. IsLeastOf (variant kind p) w at bits) (sym s.1) (subst (λ o. IsSomeAnd o (λ a. Fits IsOctets p a) × EndsBy (part_run (λ a. run p a) o) at bits) (sym (kind.back s.0)) x)
  least (named same p) sound v at bits s =
      let x = least p sound s.0 at bits s.2 in
      subst (λ w. IsLeastOf (named same p) w at bits) (sym s.1) (subst (λ y. Fits IsOctets p y × EndsBy (run p y) at bits) (sym (same.back s.0)) x)

  fields_least : {P A : Type 0} (s : Fields P A) → AreSound s → (flags : P) (v : A) (at : ℕ) (bits : List Bool) → (fields_in s flags).Spells at v bits → AreLeastOf s v at bits
  fields_least (needed p) sound flag v at bits s = least p sound v at bits s
  fields_least (optional p) sound true v at bits s =
      let x = least p sound s.0 at s.1 s.4 in
      subst (λ w. AreLeastOf (optional p) w at bits) (sym s.5.0) (x.0, front_ends (run p s.0) at s.1 s.2 bits s.3 x.1)
  fields_least (optional p) sound false v at bits s = subst (λ w. AreLeastOf (optional p) w at bits) (sym s.0) (tt, nothing_ends at bits)
  fields_least (absent reason) sound flag v at bits s = (tt, nothing_ends at bits)
  fields_least (also p q) sound flags v at bits s =
      let b = s.5 in
      let x = fields_least p sound.0 flags.0 s.0 at s.1 s.4 in
      let y = fields_least q sound.1 flags.1 b.0 _ b.1 b.4 in
      subst (λ w. AreLeastOf (also p q) w at bits) (sym b.5.0) ((x.0, y.0), then_ends (fields_run p s.0) (fields_run q b.0) at s.1 s.2 bits s.3 x.1 (front_ends (fields_run q b.0) _ b.1 b.2 s.2 b.3 y.1))
