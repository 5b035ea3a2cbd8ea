-- Lengths, octets, bit strings and enumerations are read exactly.
use Rattle.std.proofs.Common.{◌⊎◌, MatchBool, ◌≡◌, ℕ, zero, suc, ◌+◌, ◌-◌, ◌*◌, ◌^◌, ◌<◌, ◌≤◌, Bool, true, false, not, cond, ltb, leb, eqb, List, [], ◌∷◌, ◌++◌, length, take, drop, Ok, Err, refl, sym, ap, ◌∙◌, subst, append_assoc, inl, inr, arith}
use Rattle.std.proofs.Math.Nat.{mod-eq_of_lt}
use Rattle.std.proofs.lemmas.Bool.{false≢true, cases_lt, cases_Bool, ltb-false, ltb-true, lt-ltb, le-ltb, le-leb, leb-true}
use Rattle.std.proofs.lemmas.List.{length-append, length-take, length-drop, take_at, drop_at, take-append-drop}
use Rattle.echo_base.specs.declared.reason.Reason.TheVariants as reasons
use Rattle.echo_base.specs.declared.refusal.Refusal.{Refusal}
use Rattle.aper_fields.specs.declared.enumerated.EnumValue.{EnumValue}
use Rattle.aper_fields.specs.Bits.{bits, bits_of, octets_of, zeros, gap}
use Rattle.aper_fields.specs.Reading.{Input, Read, refusal, forward, bits_at, padding_at, number_at, length_octets_at, length_at, octets_at, fixed_octets_at, octet_string_at, fixed_bits_at, root_at, extended_at, enumerated_at}
use Rattle.aper_fields.specs.Run.{Run, bits_run, number_run, length_octets, length_run, fixed_octets_run, octet_string_run, fixed_bits_run, enumerated_run}
use Rattle.aper_fields.specs.Spelling.{Piece, Then, Bits, Padding, Spelled, LengthOctets, Length, IsOctets, OctetsOf, FixedOctets, OctetString, FixedBits, Enumerated, IsExact}
use Rattle.aper_fields.specs.Format.{Format, IsExactly, bits_in, padding_in, refuse_here, passing, counting, number_in, length_pieces_in, length_octets_in, length_in, octets_in, fixed_octets_in, octet_string_in, fixed_bits_in, root_in, extended_in, enumerated_pieces_in, enumerated_in}
use Rattle.aper_fields.proofs.Packed.{length-octets_of, bits_of-octets_of}
use Rattle.aper_fields.proofs.BitLaws.{length-bits, length-bits_of, number_of-bits}
use Rattle.aper_fields.proofs.Steps.{number_of-take-lt}
use Rattle.echo_base.proofs.Answers.{bind, refused_ok, refused_err}
use Rattle.aper_fields.proofs.Formats.{bits_exactly, padding_exactly, then_exactly, either_exactly, refuse_exactly, passing_exactly, mapped_exactly, spelled_exactly, along_exactly, counting_exactly, checked_is, leb-not_ltb}
use Rattle.aper_fields.proofs.ExactNumbers.{padded_there, padded_back, number_exactly}

-- ---- lengths

abbrev more_at : Input → Read ℕ
more_at j = bind (bits_at 1 j) (λ more. cond (eqb more.0 1) (Err (refusal reasons.TooLong more.1)) (bind (bits_at 14 more.1) (λ n. cond (ltb 127 n.0) (Ok n) (Err (refusal reasons.LongLength more.1)))))

length_pieces_exactly : IsExactly length_pieces_in length_octets_at
unfolding length_pieces_in length_octets_at
length_pieces_exactly =
    then_exactly (bits_in 1) (bits_at 1) _ (λ long j. cond (eqb long 0) (bits_at 7 j) (more_at j)) (bits_exactly 1)
    (λ long. either_exactly (eqb long 0) (bits_in 7) _ (bits_at 7) more_at (bits_exactly 7)
    (then_exactly (bits_in 1) (bits_at 1) _ (λ more k. cond (eqb more 1) (Err (refusal reasons.TooLong k)) (bind (bits_at 14 k) (λ n. cond (ltb 127 n.0) (Ok n) (Err (refusal reasons.LongLength k))))) (bits_exactly 1)
    (λ more. either_exactly (eqb more 1) (refuse_here reasons.TooLong) _ (λ k. Err (refusal reasons.TooLong k)) _ (refuse_exactly reasons.TooLong)
    (passing_exactly (λ n. ltb 127 n) reasons.LongLength (bits_in 14) (bits_at 14) (bits_exactly 14)))))

bit-false : bits 1 0 ≡ false ∷ []
unfolding bits
bit-false = refl

bit-true : bits 1 1 ≡ true ∷ []
unfolding bits
bit-true = refl

bit_cases : (b : ℕ) → b < 2 ^ 1 → (b ≡ 0) ⊎ (b ≡ 1)
bit_cases zero h = inl refl
bit_cases (suc zero) h = inr refl
bit_cases (suc (suc b)) h = absurd (omega arith)

abbrev AfterTwo : ℕ → Piece ℕ
AfterTwo more at n run = MatchBool (eqb more 1) ⊥ ((ltb 127 n ≡ true) × Bits 14 at n run)

abbrev AfterOne : ℕ → Piece ℕ
AfterOne long at n run = MatchBool (eqb long 0) (Bits 7 at n run) (Then (Bits 1) AfterTwo at n run)

length_there : (at n : ℕ) (run : List Bool) → Then (Bits 1) AfterOne at n run → LengthOctets at n run
unfolding length_octets
length_there at n run s =
    elim (bit_cases s.0 s.4.0) [
      | inl z ↦
          let p : Bits 7 (at + length s.1) n s.2 = subst (λ l. AfterOne l (at + length s.1) n s.2) z s.5 in
          let short : n < 128 = p.0 in
          (omega arith, rw (lt-ltb n 128 short) (s.3 ∙ ap (λ (l : List Bool). l ++ s.2) (s.4.1 ∙ ap (bits 1) z ∙ bit-false) ∙ ap (λ (l : List Bool). false ∷ l) p.1))
      | inr o ↦
          let t : Then (Bits 1) AfterTwo (at + length s.1) n s.2 = subst (λ l. AfterOne l (at + length s.1) n s.2) o s.5 in
          elim (bit_cases t.0 t.4.0) [
            | inl z ↦
                let u : (ltb 127 n ≡ true) × Bits 14 (at + length s.1 + length t.1) n t.2 = subst (λ l. AfterTwo l (at + length s.1 + length t.1) n t.2) z t.5 in
                let long : 128 ≤ n = omega (arith, ltb-true _ _ u.0) in
                let middle : s.2 ≡ false ∷ bits 14 n = t.3 ∙ ap (λ (l : List Bool). l ++ t.2) (t.4.1 ∙ ap (bits 1) z ∙ bit-false) ∙ ap (λ (l : List Bool). false ∷ l) u.1.1 in
                (u.1.0, rw (le-ltb n 128 long) (s.3 ∙ ap (λ (l : List Bool). l ++ s.2) (s.4.1 ∙ ap (bits 1) o ∙ bit-true) ∙ ap (λ (l : List Bool). true ∷ l) middle))
            | inr w ↦ absurd (subst (λ l. AfterTwo l (at + length s.1 + length t.1) n t.2) w t.5)
          ]
    ]

length_back : (at n : ℕ) (run : List Bool) → LengthOctets at n run → Then (Bits 1) AfterOne at n run
unfolding length_octets
length_back at n run h =
    elim (cases_lt n 128) [
      | inl short ↦ (0, bits 1 0, bits 7 n, h.1 ∙ rw (lt-ltb n 128 short, bit-false) refl, (omega arith, refl), (short, refl))
      | inr long ↦ (
        1,
        bits 1 1,
        false ∷ bits 14 n,
        h.1 ∙ rw (le-ltb n 128 long, bit-true) refl,
        (omega arith, refl),
        (0, bits 1 0, bits 14 n, rw bit-false refl, (omega arith, refl), (lt-ltb 127 n (omega arith), (h.0, refl))),
      )
    ]

pub length_octets_exactly : IsExactly length_octets_in length_octets_at
unfolding length_pieces_in
length_octets_exactly = spelled_exactly LengthOctets length_pieces_in length_octets_at length_there length_back length_pieces_exactly

abbrev IsLength : ℕ → Type 0
IsLength n = n < 2 ^ 14

pub length_exactly : IsExactly length_in length_at
unfolding length_at length_run
length_exactly =
    spelled_exactly Length _ length_at
    (padded_there LengthOctets IsLength (λ n at. length_octets n) (λ at v run s. s))
    (padded_back LengthOctets IsLength (λ n at. length_octets n) (λ at v run s. s))
    (then_exactly padding_in padding_at (λ _. length_octets_in) (λ p j. length_octets_at j) padding_exactly (λ p. length_octets_exactly))

pub length_exact : IsExact Length length_at
length_exact = length_exactly.spells

-- ---- octets

octets_of-fit : (n : ℕ) (bs : List Bool) → 8 * n ≤ length bs → IsOctets (octets_of n bs)
unfolding octets_of
octets_of-fit zero bs h = tt
octets_of-fit (suc n) bs h = (number_of-take-lt 8 bs (omega arith), octets_of-fit n (drop 8 bs) (omega (arith, length-drop 8 bs)))

octets_of-again : (octets : List ℕ) (rest : List Bool) → IsOctets octets → octets_of (length octets) (bits_of octets ++ rest) ≡ octets
unfolding octets_of bits_of
octets_of-again [] rest fits = refl
octets_of-again (b ∷ bs) rest fits =
    let group : (bits 8 b ++ bits_of bs) ++ rest ≡ bits 8 b ++ (bits_of bs ++ rest) = append_assoc (bits 8 b) (bits_of bs) rest in
    rw (group, take_at (bits 8 b) (bits_of bs ++ rest) 8 (length-bits 8 b), drop_at (bits 8 b) (bits_of bs ++ rest) 8 (length-bits 8 b), number_of-bits 8 b, mod-eq_of_lt fits.0, octets_of-again bs rest fits.1) refl

octets_exact : (start : Input) (n : ℕ) → IsExact (OctetsOf n) (octets_at start n)
unfolding octets_at
octets_exact start n = record {
  found = λ i j v e.
      let g = refused_ok (ltb (length i.left) (8 * n)) (refusal reasons.Truncated start) (octets_of n i.left, forward (8 * n) i) (v, j) e in
      let long : 8 * n ≤ length i.left = ltb-false _ _ g.0 in
      let len : length (take (8 * n) i.left) ≡ 8 * n = omega (arith, length-take (8 * n) i.left) in
      let is : forward (8 * n) i ≡ j = ap (λ (x : List ℕ × Input). x.1) g.1 in
      let value : octets_of n i.left ≡ v = ap (λ (x : List ℕ × Input). x.0) g.1 in
      (take (8 * n) i.left, rw (← value) (length-octets_of n i.left, octets_of-fit n i.left long, sym (bits_of-octets_of n i.left long)), rw (← is) (sym (take-append-drop (8 * n) i.left)), rw (← is, len) refl);
  only = λ at v run rest p.
      let len : length run ≡ 8 * n = omega (arith, ap length p.2, length-bits_of v, p.0) in
      let long : ltb (length (run ++ rest)) (8 * n) ≡ false = le-ltb _ _ (omega (arith, len, length-append run rest)) in
      let is : octets_of n (run ++ rest) ≡ v = rw (p.2, ← p.0) (octets_of-again v rest p.1) in
      rw (long, is, drop_at run rest (8 * n) len, len) refl;
}

-- what does not fit, and nothing else, is refused
octets_short : (start : Input) (n : ℕ) (i : Input) (e : Refusal) → octets_at start n i ≡ Err e → (length i.left < 8 * n) × (e ≡ refusal reasons.Truncated start)
unfolding octets_at
octets_short start n i e h =
    let t = refused_err (ltb (length i.left) (8 * n)) (refusal reasons.Truncated start) e (octets_of n i.left, forward (8 * n) i) h in
    (ltb-true _ _ t.0, t.1)

octets_refused : (start : Input) (n : ℕ) (i : Input) → length i.left < 8 * n → octets_at start n i ≡ Err (refusal reasons.Truncated start)
unfolding octets_at
octets_refused start n i h = rw (lt-ltb _ _ h) refl

octets_exactly : (n : ℕ) → IsExactly (octets_in n) (λ i. octets_at i n i)
octets_exactly n = record {
  spells = record { found = λ i j v e. (octets_exact i n).found i j v e; only = λ at v run rest p. (octets_exact (record { offset = at; left = run ++ rest }) n).only at v run rest p };
  wrong = λ i e h. octets_short i n i e h;
  refused = λ i e h. octets_refused i n i h.0 ∙ ap (λ (d : Refusal). Err d) (sym h.1);
}

abbrev AreOctets : ℕ → List ℕ → Type 0
AreOctets n octets = (length octets ≡ n) × IsOctets octets

pub fixed_octets_exactly : (n : ℕ) → IsExactly (fixed_octets_in n) (fixed_octets_at n)
unfolding fixed_octets_at fixed_octets_run
fixed_octets_exactly n =
    spelled_exactly (FixedOctets n) _ (fixed_octets_at n)
    (padded_there (OctetsOf n) (AreOctets n) (λ octets at. bits_of octets) (λ at v run s. ((s.0, s.1), s.2)))
    (padded_back (OctetsOf n) (AreOctets n) (λ octets at. bits_of octets) (λ at v run s. (s.0.0, s.0.1, s.1)))
    (then_exactly padding_in padding_at (λ _. octets_in n) (λ p j. octets_at j n j) padding_exactly (λ p. octets_exactly n))

pub fixed_octets_exact : (n : ℕ) → IsExact (FixedOctets n) (fixed_octets_at n)
fixed_octets_exact n = (fixed_octets_exactly n).spells

-- ---- octet strings

abbrev most_in : ℕ → Format ℕ
most_in most = passing (λ n. leb n most) reasons.TooLong length_octets_in

abbrev most_at : ℕ → Input → Read ℕ
most_at most i = bind (length_octets_at i) (λ n. cond (leb n.0 most) (Ok n) (Err (refusal reasons.TooLong i)))

string_octets_exactly : (most : ℕ) → IsExactly (counting (most_in most) OctetsOf) (λ i. bind (length_octets_at i) (λ n. cond (ltb most n.0) (Err (refusal reasons.TooLong i)) (octets_at i n.0 n.1)))
string_octets_exactly most =
    along_exactly (counting (most_in most) OctetsOf) _ _ (λ i. checked_is (λ n. leb n most) (λ n. ltb most n) (λ n. leb-not_ltb most n) (length_octets_at i) (λ n. octets_at i n.0 n.1) (refusal reasons.TooLong i))
    (counting_exactly (most_in most) (most_at most) OctetsOf octets_at (passing_exactly (λ n. leb n most) reasons.TooLong length_octets_in length_octets_at length_octets_exactly) octets_exact octets_short octets_refused)

abbrev AreAtMost : ℕ → List ℕ → Type 0
AreAtMost most octets = (length octets ≤ most) × (length octets < 2 ^ 14) × IsOctets octets

string_there : (most at : ℕ) (v : List ℕ) (run : List Bool) → Then (most_in most).Spells OctetsOf at v run → Spelled (AreAtMost most) (λ octets at. length_octets (length octets) ++ bits_of octets) at v run
string_there most at v run s =
    let least = leb-true _ _ s.4.0 in
    ((omega (arith, s.5.0, least), omega (arith, s.5.0, s.4.1.0), s.5.1), s.3 ∙ ap (λ (l : List Bool). l ++ s.2) (s.4.1.1 ∙ ap length_octets (sym s.5.0)) ∙ ap (λ (l : List Bool). length_octets (length v) ++ l) s.5.2)

string_back : (most at : ℕ) (v : List ℕ) (run : List Bool) → Spelled (AreAtMost most) (λ octets at. length_octets (length octets) ++ bits_of octets) at v run → Then (most_in most).Spells OctetsOf at v run
string_back most at v run s = (length v, length_octets (length v), bits_of v, s.1, (le-leb _ _ s.0.0, (s.0.1, refl)), (refl, s.0.2, refl))

pub octet_string_exactly : (most : ℕ) → IsExactly (octet_string_in most) (octet_string_at most)
unfolding octet_string_at octet_string_run length_run
octet_string_exactly most =
    let string_of : List ℕ → Run = λ octets at. length_octets (length octets) ++ bits_of octets in
    spelled_exactly (OctetString most) _ (octet_string_at most)
    (λ at v run s. let h = padded_there (counting (most_in most) OctetsOf).Spells (AreAtMost most) string_of (string_there most) at v run s in (h.0, h.1 ∙ sym (append_assoc (zeros (gap at)) (length_octets (length v)) (bits_of v))))
    (λ at v run s. padded_back (counting (most_in most) OctetsOf).Spells (AreAtMost most) string_of (string_back most) at v run (s.0, s.1 ∙ append_assoc (zeros (gap at)) (length_octets (length v)) (bits_of v)))
    (then_exactly padding_in padding_at (λ _. counting (most_in most) OctetsOf) _ padding_exactly (λ p. string_octets_exactly most))

pub octet_string_exact : (most : ℕ) → IsExact (OctetString most) (octet_string_at most)
octet_string_exact most = (octet_string_exactly most).spells

-- ---- bit strings

abbrev InBits : ℕ → ℕ → Type 0
InBits n v = v < 2 ^ n

abbrev FixedParts : ℕ → Piece ℕ
FixedParts n at v run = MatchBool (ltb 16 n) (Then Padding (λ _. Bits n) at v run) (Bits n at v run)

fixed_bits_there : (n at v : ℕ) (run : List Bool) → FixedParts n at v run → FixedBits n at v run
unfolding fixed_bits_run
fixed_bits_there n at v run s =
    elim (cases_Bool (ltb 16 n)) [
      | inl t ↦ let h = rw t at s in rw t (padded_there (Bits n) (InBits n) (bits_run n) (λ at v run s. s) at v run h)
      | inr f ↦ let h = rw f at s in rw f h
    ]

fixed_bits_back : (n at v : ℕ) (run : List Bool) → FixedBits n at v run → FixedParts n at v run
unfolding fixed_bits_run
fixed_bits_back n at v run s =
    elim (cases_Bool (ltb 16 n)) [
      | inl t ↦ let h = rw t at s in rw t (padded_back (Bits n) (InBits n) (bits_run n) (λ at v run s. s) at v run h)
      | inr f ↦ let h = rw f at s in rw f h
    ]

pub fixed_bits_exactly : (n : ℕ) → IsExactly (fixed_bits_in n) (fixed_bits_at n)
unfolding fixed_bits_at
fixed_bits_exactly n =
    spelled_exactly (FixedBits n) _ (fixed_bits_at n) (fixed_bits_there n) (fixed_bits_back n)
    (either_exactly (ltb 16 n) _ (bits_in n) (λ i. bind (padding_at i) (λ p. bits_at n p.1)) (bits_at n)
    (then_exactly padding_in padding_at (λ _. bits_in n) (λ p j. bits_at n j) padding_exactly (λ p. bits_exactly n))
    (bits_exactly n))

pub fixed_bits_exact : (n : ℕ) → IsExact (FixedBits n) (fixed_bits_at n)
fixed_bits_exact n = (fixed_bits_exactly n).spells

-- ---- enumerations

abbrev value : Bool → ℕ → EnumValue
value extended index = record { extended = extended; index = index }

-- an index of six bits, beyond the roots
abbrev six_at : Input → Read EnumValue
six_at i = bind (bits_at 6 i) (λ index. Ok (value true index.0, index.1))

root_exactly : (roots : ℕ) → roots < 2 ^ 64 → IsExactly (root_in roots) (root_at roots)
root_exactly roots fits = mapped_exactly (value false) (number_in 0 (roots - 1)) (number_at 0 (roots - 1)) (number_exactly 0 (roots - 1) (omega arith))

extended_exactly : IsExactly extended_in extended_at
extended_exactly =
    along_exactly extended_in extended_at _ (λ i. checked_is (λ large. not (eqb large 1)) (λ large. eqb large 1) (λ large. refl) (bits_at 1 i) (λ large. six_at large.1) (refusal reasons.OutOfRange i))
    (then_exactly (passing (λ large. not (eqb large 1)) reasons.OutOfRange (bits_in 1)) _ _ (λ large j. six_at j)
    (passing_exactly (λ large. not (eqb large 1)) reasons.OutOfRange (bits_in 1) (bits_at 1) (bits_exactly 1))
    (λ large. mapped_exactly (value true) (bits_in 6) (bits_at 6) (bits_exactly 6)))

enumerated_pieces_exactly : (roots : ℕ) (extensible : Bool) → roots < 2 ^ 64 → IsExactly (enumerated_pieces_in roots extensible) (enumerated_at roots extensible)
unfolding enumerated_pieces_in enumerated_at
enumerated_pieces_exactly roots extensible fits =
    either_exactly extensible _ (root_in roots) (λ i. bind (bits_at 1 i) (λ bit. cond (eqb bit.0 0) (root_at roots bit.1) (extended_at bit.1))) (root_at roots)
    (then_exactly (bits_in 1) (bits_at 1) _ (λ bit j. cond (eqb bit 0) (root_at roots j) (extended_at j)) (bits_exactly 1)
    (λ bit. either_exactly (eqb bit 0) (root_in roots) extended_in (root_at roots) extended_at (root_exactly roots fits) extended_exactly))
    (root_exactly roots fits)

abbrev EnumParts : ℕ → Bool → Piece EnumValue
EnumParts roots extensible at v run = (enumerated_pieces_in roots extensible).Spells at v run

root_there : (roots at : ℕ) (v : EnumValue) (run : List Bool) → 1 ≤ roots → (root_in roots).Spells at v run → (v.extended ≡ false) × (v.index < roots) × (run ≡ number_run 0 (roots - 1) v.index at)
root_there roots at v run some s =
    let e : v.index ≡ s.0 = ap (λ w. w.index) s.1 in
    (ap (λ w. w.extended) s.1, omega (arith, e, s.2.0.1), s.2.1 ∙ ap (λ n. number_run 0 (roots - 1) n at) (sym e))

extended_there : (at : ℕ) (v : EnumValue) (run : List Bool) → extended_in.Spells at v run → (v.extended ≡ true) × (v.index < 64) × (run ≡ bits 1 0 ++ bits 6 v.index)
extended_there at v run s =
    let e : v.index ≡ s.5.0 = ap (λ w. w.index) s.5.1 in
    elim (bit_cases s.0 s.4.1.0) [
      | inl z ↦ (ap (λ w. w.extended) s.5.1, omega (arith, e, s.5.2.0), s.3 ∙ ap (λ (l : List Bool). l ++ s.2) (s.4.1.1 ∙ ap (bits 1) z) ∙ ap (λ (l : List Bool). bits 1 0 ++ l) (s.5.2.1 ∙ ap (bits 6) (sym e)))
      | inr o ↦ absurd (false≢true (subst (λ l. not (eqb l 1) ≡ true) o s.4.0))
    ]

enumerated_there : (roots : ℕ) (extensible : Bool) (at : ℕ) (v : EnumValue) (run : List Bool) → 1 ≤ roots → EnumParts roots extensible at v run → Enumerated roots extensible at v run
unfolding enumerated_pieces_in enumerated_run
enumerated_there roots false at v run some s =
    let r = root_there roots at v run some s in
    rw r.0 (r.1, r.2 ∙ ap (number_run 0 (roots - 1) v.index) (omega arith))
enumerated_there roots true at v run some s =
    elim (bit_cases s.0 s.4.0) [
      | inl z ↦
          let r = root_there roots (at + length s.1) v s.2 some (subst (λ l. MatchBool (eqb l 0) ((root_in roots).Spells (at + length s.1) v s.2) (extended_in.Spells (at + length s.1) v s.2)) z s.5) in
          let front : s.1 ≡ bits 1 0 = s.4.1 ∙ ap (bits 1) z in
          rw r.0 (r.1, s.3 ∙ ap (λ (l : List Bool). s.1 ++ l) r.2 ∙ ap (λ (l : List Bool). l ++ number_run 0 (roots - 1) v.index (at + length l)) front)
      | inr o ↦
          let r = extended_there (at + length s.1) v s.2 (subst (λ l. MatchBool (eqb l 0) ((root_in roots).Spells (at + length s.1) v s.2) (extended_in.Spells (at + length s.1) v s.2)) o s.5) in
          rw r.0 ((refl, r.1), s.3 ∙ ap (λ (l : List Bool). l ++ s.2) (s.4.1 ∙ ap (bits 1) o) ∙ ap (λ (l : List Bool). bits 1 1 ++ l) r.2)
    ]

enumerated_back_of : (roots : ℕ) (extensible extended : Bool) (at index : ℕ) (run : List Bool) → 1 ≤ roots → Enumerated roots extensible at (value extended index) run → EnumParts roots extensible at (value extended index) run
unfolding enumerated_pieces_in enumerated_run
enumerated_back_of roots false true at index run some s = absurd (false≢true s.0.0)
enumerated_back_of roots false false at index run some s = (index, refl, ((omega arith, omega (arith, s.0)), s.1 ∙ ap (number_run 0 (roots - 1) index) (omega arith)))
enumerated_back_of roots true false at index run some s = (0, bits 1 0, number_run 0 (roots - 1) index (at + length (bits 1 0)), s.1, (omega arith, refl), (index, refl, ((omega arith, omega (arith, s.0)), refl)))
enumerated_back_of roots true true at index run some s = (
  1,
  bits 1 1,
  bits 1 0 ++ bits 6 index,
  s.1,
  (omega arith, refl),
  (0, bits 1 0, bits 6 index, refl, (refl, (omega arith, refl)), (index, refl, (s.0.1, refl))),
)

enumerated_back : (roots : ℕ) (extensible : Bool) (at : ℕ) (v : EnumValue) (run : List Bool) → 1 ≤ roots → Enumerated roots extensible at v run → EnumParts roots extensible at v run
enumerated_back roots extensible at v run some s = enumerated_back_of roots extensible v.extended at v.index run some s

pub enumerated_exactly : (roots : ℕ) (extensible : Bool) → 1 ≤ roots → roots < 2 ^ 64 → IsExactly (enumerated_in roots extensible) (enumerated_at roots extensible)
enumerated_exactly roots extensible some fits = spelled_exactly (Enumerated roots extensible) (enumerated_pieces_in roots extensible) (enumerated_at roots extensible) (λ at v run. enumerated_there roots extensible at v run some) (λ at v run. enumerated_back roots extensible at v run some) (enumerated_pieces_exactly roots extensible fits)

pub enumerated_exact : (roots : ℕ) (extensible : Bool) → 1 ≤ roots → roots < 2 ^ 64 → IsExact (Enumerated roots extensible) (enumerated_at roots extensible)
enumerated_exact roots extensible some fits = (enumerated_exactly roots extensible some fits).spells
