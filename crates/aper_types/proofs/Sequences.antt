-- A number is read and written as its bounds say, and a SEQUENCE the same whether its bits of presence go one by one or all at once.
use Rattle.std.proofs.Common.{◌≡◌, ℕ, ◌+◌, ◌-◌, ◌*◌, ◌^◌, ◌<◌, ◌≤◌, Bool, true, false, leb, ltb, List, ◌++◌, length, refl, sym, ap, ◌∙◌, arith, append_assoc}
use Rattle.std.proofs.lemmas.Bool.{lt-ltb, le-leb, and_from}
use Rattle.std.proofs.lemmas.List.{length-append}
use Rattle.echo_base.specs.declared.reason.Reason.TheVariants as reasons
use Rattle.echo_base.proofs.Answers.{bind_same, bind_assoc}
use Rattle.aper_fields.specs.Run.{Run, ◌▸◌, number_run, fixed_bits_run}
use Rattle.aper_fields.specs.Reading.{Input, number_at}
use Rattle.aper_fields.specs.SequenceReading.{Reader, done, ◌>>=◌, zero_bit_at, present_at, extensions_at}
use Rattle.aper_fields.specs.Asn1.{AsnType, Fields, needed, optional, absent, also, sequence, are_bounds, reading, flags_at, fields_at, run, flags_run, fields_run, present_run}
use Rattle.aper_types.specs.Types.{bounded, number, flags_of, flags_written, sequence_at, sequence_written}

-- ---- numbers

in_bounds : (low high : ℕ) → low ≤ high → high < 2 ^ 63 → are_bounds low high ≡ true
in_bounds low high order small = and_from (leb low high) (ltb (high - low) (2 ^ 64)) (le-leb low high order) (lt-ltb _ _ (omega (arith, small)))

bounded_reading : (low high : ℕ) (b : Bool) (are : are_bounds low high ≡ b) → b ≡ true → (i : Input) → reading (bounded low high b are) i ≡ number_at low (high - low) i
unfolding reading
bounded_reading low high true are h i = refl
bounded_reading low high false are h i = cc

pub number_reading : (low high : ℕ) → low ≤ high → high < 2 ^ 63 → (i : Input) → reading (number low high) i ≡ number_at low (high - low) i
number_reading low high order small i = bounded_reading low high (are_bounds low high) refl (in_bounds low high order small) i

bounded_written : (low high v : ℕ) (b : Bool) (are : are_bounds low high ≡ b) → b ≡ true → (at : ℕ) → number_run low (high - low) v at ≡ run (bounded low high b are) v at
unfolding run
bounded_written low high v true are h at = refl
bounded_written low high v false are h at = cc

pub number_written : (low high v : ℕ) → low ≤ high → high < 2 ^ 63 → (at : ℕ) → number_run low (high - low) v at ≡ run (number low high) v at
number_written low high v order small at = bounded_written low high v (are_bounds low high) refl (in_bounds low high order small) at

-- ---- SEQUENCEs

flags_then : {P A B : Type 0} (s : Fields P A) (g : P → Reader B) (i : Input) → flags_at s g i ≡ (flags_of s >>= g) i
unfolding flags_at flags_of
flags_then (needed p) g i = refl
flags_then (optional p) g i = refl
flags_then (absent reason) g i = sym (bind_assoc (zero_bit_at reason i) _ _)
flags_then (also p q) g i =
    flags_then p (λ a. flags_at q (λ b. g (a, b))) i
    ∙ bind_same (flags_of p i) _ (λ x. (flags_of q >>= λ b. g (x.0, b)) x.1) (λ x. flags_then q (λ b. g (x.0, b)) x.1)
    ∙ bind_same (flags_of p i) _ _ (λ x. sym (bind_assoc (flags_of q x.1) _ _))
    ∙ sym (bind_assoc (flags_of p i) _ _)

pub sequence_reading : {P A : Type 0} (s : Fields P A) (i : Input) → reading (sequence s) i ≡ sequence_at s i
unfolding reading sequence_at
sequence_reading s i = bind_same (zero_bit_at reasons.SequenceExtension i) _ _ (λ x. flags_then s _ x.1)

then_same : (f g h : Run) (at : ℕ) → ((f ▸ g) ▸ h) at ≡ (f ▸ g ▸ h) at
then_same f g h at =
    let a = f at in
    let b = g (at + length a) in
    let i : at + length (a ++ b) ≡ at + length a + length b = omega (arith, length-append a b) in
    append_assoc a b (h (at + length (a ++ b))) ∙ ap (λ n. a ++ (b ++ h n)) i

flags_front : {P A : Type 0} (s : Fields P A) (v : A) (rest : Run) (at : ℕ) → flags_run s v rest at ≡ (flags_written s v ▸ rest) at
unfolding flags_run flags_written
flags_front (needed p) v rest at = (let i : at ≡ at + 0 = omega arith in ap rest i)
flags_front (optional p) v rest at = refl
flags_front (absent reason) v rest at = refl
flags_front (also p q) v rest at =
    flags_front p v.0 (flags_run q v.1 rest) at
    ∙ ap (λ l. flags_written p v.0 at ++ l) (flags_front q v.1 rest (at + length (flags_written p v.0 at)))
    ∙ sym (then_same (flags_written p v.0) (flags_written q v.1) rest at)

pub sequence_run : {P A : Type 0} (s : Fields P A) (v : A) (at : ℕ) → sequence_written s v at ≡ run (sequence s) v at
unfolding run sequence_written
sequence_run s v at = ap (λ l. fixed_bits_run 1 0 at ++ l) (sym (flags_front s v (fixed_bits_run 1 0 ▸ fields_run s v) (at + length (fixed_bits_run 1 0 at))))
