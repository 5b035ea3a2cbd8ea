-- Whole numbers are read exactly, in each of their forms.
use Rattle.std.proofs.Common.{◌≡◌, ℕ, ◌+◌, ◌-◌, ◌*◌, ◌/◌, ◌^◌, ◌<◌, ◌≤◌, Bool, false, ◌&&◌, cond, ltb, leb, eqb, List, ◌++◌, length, take, drop, Ok, Err, refl, sym, ap, ◌∙◌, inl, inr, arith}
use Rattle.std.proofs.lemmas.Bool.{cases_Bool, ltb-false, ltb-true, le-ltb, le-leb, leb-true, eqb-true, eqb-false, eq-eqb}
use Rattle.std.proofs.lemmas.List.{length-drop}
use Rattle.std.proofs.lemmas.Nat.{shr_high}
use Rattle.std.specs.Int.{div_ceil}
use Rattle.echo_base.specs.declared.reason.Reason.TheVariants as reasons
use Rattle.aper_fields.specs.Bits.{bits, number_of, zeros, gap}
use Rattle.aper_fields.specs.Reading.{Input, Read, refusal, forward, bits_at, padding_at, within_at, counted_at, number_at, width}
use Rattle.aper_fields.specs.Run.{◌▸◌, Run, padding_run, bits_run, counted_run, number_run, octet_count}
use Rattle.aper_fields.specs.Spelling.{Piece, Then, Padding, Spelled, Number, IsExact}
use Rattle.aper_fields.specs.Format.{IsExactly, bits_in, padding_in, just, within_in, minimal_in, counted_in, number_pieces_in, number_in}
use Rattle.aper_fields.proofs.Steps.{number_of-more, number_of-take-lt}
use Rattle.aper_fields.proofs.Widths.{width_covers}
use Rattle.aper_fields.proofs.Counts.{octet_count_holds, octet_count_some, octet_count_few, octet_count_mono, width_octets_few, first_octet_test}
use Rattle.echo_base.proofs.Answers.{bind, ok_of, refused_ok, turned}
use Rattle.aper_fields.proofs.Exact.{bits_exact}
use Rattle.aper_fields.proofs.Formats.{bits_exactly, padding_exactly, then_exactly, then_where_exactly, just_exactly, either_exactly, passing_exactly, mapped_exactly, spelled_exactly, along_exactly, checked_is, leb-not_ltb}

-- ---- behind padding

pub padded_there : {A : Type 0} (Q : Piece A) (InRange : A → Type 0) (run_of : A → Run) → ((at : ℕ) (v : A) (run : List Bool) → Q at v run → Spelled InRange run_of at v run) → (at : ℕ) (v : A) (run : List Bool) → Then Padding (λ _. Q) at v run → Spelled InRange (λ v. padding_run ▸ run_of v) at v run
padded_there Q InRange run_of there at v run s =
    let back = there (at + length s.1) v s.2 s.5 in
    (back.0, s.3 ∙ ap (λ (l : List Bool). s.1 ++ l) back.1 ∙ ap (λ (l : List Bool). l ++ run_of v (at + length l)) s.4)

pub padded_back : {A : Type 0} (Q : Piece A) (InRange : A → Type 0) (run_of : A → Run) → ((at : ℕ) (v : A) (run : List Bool) → Spelled InRange run_of at v run → Q at v run) → (at : ℕ) (v : A) (run : List Bool) → Spelled InRange (λ v. padding_run ▸ run_of v) at v run → Then Padding (λ _. Q) at v run
padded_back Q InRange run_of back at v run s =
    let pad = zeros (gap at) in
    (tt, pad, run_of v (at + length pad), s.1, refl, back (at + length pad) v (run_of v (at + length pad)) (s.0, refl))

-- ---- a number that is at most top

abbrev InRange : ℕ → ℕ → ℕ → Type 0
InRange low top v = (low ≤ v) × (v ≤ low + top)

pub within_exactly : (low top n : ℕ) → IsExactly (within_in low top n) (within_at low top n)
unfolding within_at
within_exactly low top n =
    along_exactly (within_in low top n) _ _ (λ i. checked_is (λ v. leb v top) (λ v. ltb top v) (λ v. leb-not_ltb top v) (bits_at n i) (λ v. Ok (low + v.0, v.1)) (refusal reasons.OutOfRange i))
    (mapped_exactly (λ v. low + v) _ _ (passing_exactly (λ v. leb v top) reasons.OutOfRange (bits_in n) (bits_at n) (bits_exactly n)))

within_there : (low top n at v : ℕ) (run : List Bool) → (within_in low top n).Spells at v run → Spelled (InRange low top) (λ v. bits_run n (v - low)) at v run
within_there low top n at v run s =
    let most = leb-true _ _ s.2.0 in
    let e : s.0 ≡ v - low = omega (arith, s.1) in
    ((omega (arith, s.1), omega (arith, s.1, most)), s.2.1.1 ∙ ap (bits n) e)

within_back : (low top n at v : ℕ) (run : List Bool) → top < 2 ^ n → Spelled (InRange low top) (λ v. bits_run n (v - low)) at v run → (within_in low top n).Spells at v run
within_back low top n at v run fits s = (v - low, omega (arith, s.0.0), (le-leb _ _ (omega (arith, s.0.0, s.0.1)), (omega (arith, s.0.0, s.0.1, fits), s.1)))

-- ---- a number in its least number of octets

-- the first of the octets that were read
first_octet : (c : ℕ) (i : Input) (v : ℕ) (j : Input) → 1 ≤ c → bits_at (8 * c) i ≡ Ok (v, j) → (k : Input) × (bits_at 8 i ≡ Ok (v / 2 ^ (8 * (c - 1)), k))
unfolding bits_at
first_octet c i v j some e =
    let m = 8 * (c - 1) in
    let bs = i.left in
    let g = refused_ok (ltb (length bs) (8 * c)) (refusal reasons.Truncated i) (number_of (take (8 * c) bs), forward (8 * c) i) (v, j) e in
    let long : 8 * c ≤ length bs = ltb-false _ _ g.0 in
    let value : number_of (take (8 * c) bs) ≡ v = ap (λ (x : ℕ × Input). x.0) g.1 in
    let parts : 8 * c ≡ 8 + m = omega arith in
    let low : number_of (take m (drop 8 bs)) < 2 ^ m = number_of-take-lt m (drop 8 bs) (omega (arith, length-drop 8 bs)) in
    let is : v / 2 ^ m ≡ number_of (take 8 bs) = ap (λ n. n / 2 ^ m) (sym value ∙ ap (λ n. number_of (take n bs)) parts ∙ number_of-more 8 m bs (omega (arith, long))) ∙ shr_high (number_of (take 8 bs)) m (number_of (take m (drop 8 bs))) low in
    let here : ltb (length bs) 8 ≡ false = le-ltb _ _ (omega (arith, long)) in
    (forward 8 i, rw here (ap (λ n. ok_of (n, forward 8 i)) (sym is)))

-- a number in c octets, behind the tests
abbrev at_most : ℕ → ℕ → Input → ℕ × Input → Read ℕ
at_most low top i x = cond (ltb top x.0) (Err (refusal reasons.OutOfRange i)) (Ok (low + x.0, x.1))

abbrev first_tested : ℕ → ℕ → ℕ → Input → ℕ × Input → Read ℕ
first_tested low top c i x = bind (bits_at 8 i) (λ first. cond (ltb 1 c && eqb first.0 0) (Err (refusal reasons.NotMinimal i)) (at_most low top i x))

abbrev needed : ℕ → Input → Read ℕ → Read ℕ
needed c i r = bind r (λ x. cond (eqb (octet_count x.0) c) (Ok x) (Err (refusal reasons.NotMinimal i)))

minimal_is : (low top c : ℕ) (i : Input) (r : Read ℕ) → 1 ≤ c → c ≤ 8 → bits_at (8 * c) i ≡ r → bind r (first_tested low top c i) ≡ bind (needed c i r) (at_most low top i)
minimal_is low top c i (Err d) some few e = refl
minimal_is low top c i (Ok x) some few e =
    let first = first_octet c i x.0 x.1 some e in
    let here = (bits_exact (8 * c)).found i x.1 x.0 e in
    rw (first.1, first_octet_test x.0 c some few here.1.0) (turned (ltb 1 c && eqb (x.0 / 2 ^ (8 * (c - 1))) 0) x (refusal reasons.NotMinimal i) (at_most low top i))

abbrev minimal_at : ℕ → ℕ → ℕ → Input → Read ℕ
minimal_at low top c i = bind (bits_at (8 * c) i) (first_tested low top c i)

pub minimal_exactly : (low top c : ℕ) → 1 ≤ c → c ≤ 8 → IsExactly (minimal_in low top c) (minimal_at low top c)
minimal_exactly low top c some few =
    along_exactly (minimal_in low top c) (minimal_at low top c) _
    (λ i. minimal_is low top c i (bits_at (8 * c) i) some few refl ∙ checked_is (λ v. leb v top) (λ v. ltb top v) (λ v. leb-not_ltb top v) (needed c i (bits_at (8 * c) i)) (λ v. Ok (low + v.0, v.1)) (refusal reasons.OutOfRange i))
    (mapped_exactly (λ v. low + v) _ _
    (passing_exactly (λ v. leb v top) reasons.OutOfRange _ _
    (passing_exactly (λ v. eqb (octet_count v) c) reasons.NotMinimal (bits_in (8 * c)) (bits_at (8 * c)) (bits_exactly (8 * c)))))

-- ---- a number with a count of octets

pub counted_exactly : (low top most : ℕ) → most ≤ 8 → IsExactly (counted_in low top most) (counted_at low top most)
unfolding counted_in counted_at
counted_exactly low top most few =
    then_where_exactly (within_in 1 (most - 1) (width (most - 1))) (within_at 1 (most - 1) (width (most - 1))) _ (λ c i. bind (padding_at i) (λ p. minimal_at low top c p.1)) (within_exactly 1 (most - 1) (width (most - 1)))
    (λ at c run s. then_exactly padding_in padding_at _ (λ p j. minimal_at low top c j) padding_exactly (λ p. minimal_exactly low top c (omega (arith, s.1)) (let le = leb-true _ _ s.2.0 in omega (arith, s.1, le))))

counted_shape : (at : ℕ) (run front back pad rest first last : List Bool) → run ≡ front ++ back → back ≡ pad ++ rest → pad ≡ zeros (gap (at + length front)) → front ≡ first → rest ≡ last → run ≡ first ++ (zeros (gap (at + length first)) ++ last)
counted_shape at run front back pad rest first last whole behind padding is_first is_last = rw (whole, behind, padding, is_first, is_last) refl

counted_there : (low top most at v : ℕ) (run : List Bool) → most ≡ octet_count top → (counted_in low top most).Spells at v run → Spelled (InRange low top) (λ v. counted_run top (v - low)) at v run
unfolding counted_in
counted_there low top most at v run count s =
    let counts = s.4 in
    let number = s.5.5 in
    let n = number.0 in
    let tested = number.2 in
    let least = leb-true _ _ tested.0 in
    let e : n ≡ v - low = omega (arith, number.1) in
    let all : s.0 ≡ octet_count n = sym (eqb-true _ _ tested.1.0) in
    let more : counts.0 ≡ octet_count (v - low) - 1 = omega (arith, counts.1, all, ap octet_count e) in
    let first_is = counts.2.1.1 in
    let last_is = tested.1.1.1 in (
      (omega (arith, number.1), omega (arith, number.1, least)),
      counted_shape at run s.1 s.2 s.5.1 s.5.2 _ _ s.3 s.5.3 s.5.4
          (first_is ∙ ap (λ m. bits (width (m - 1)) counts.0) count ∙ ap (bits (width (octet_count top - 1))) more)
          (last_is ∙ ap (λ c. bits (8 * c) n) all ∙ ap (λ k. bits (8 * octet_count k) k) e),
    )

counted_back : (low top most at v : ℕ) (run : List Bool) → most ≡ octet_count top → 255 < top → top < 2 ^ 64 → Spelled (InRange low top) (λ v. counted_run top (v - low)) at v run → (counted_in low top most).Spells at v run
unfolding counted_in
counted_back low top most at v run count long fits s =
    let n = v - low in
    let c = octet_count n in
    let w = width (octet_count top - 1) in
    let small : n ≤ top = omega (arith, s.0.0, s.0.1) in
    let low_fits : n < 2 ^ 64 = omega (arith, small, fits) in
    let some = octet_count_some n low_fits in
    let le : c - 1 ≤ octet_count top - 1 = omega (arith, octet_count_mono n top small fits) in
    let holds : c - 1 < 2 ^ w = width_covers (octet_count top - 1) (c - 1) (omega (arith, octet_count_few top fits)) le in
    let pad = zeros (gap (at + length (bits w (c - 1)))) in
    rw count (
      c,
      bits w (c - 1),
      pad ++ bits (8 * c) n,
      s.1,
      (c - 1, omega (arith, some), (le-leb _ _ le, (holds, refl))),
      (tt, pad, bits (8 * c) n, refl, refl, (n, omega (arith, s.0.0), (le-leb _ _ small, (eq-eqb _ _ refl, (octet_count_holds n low_fits, refl))))),
    )

-- ---- all forms

number_pieces_exactly : (low top : ℕ) → IsExactly (number_pieces_in low top) (number_at low top)
unfolding number_pieces_in number_at
number_pieces_exactly low top =
    either_exactly (eqb top 0) (just low) _ (λ i. Ok (low, i)) _ (just_exactly low)
    (either_exactly (ltb top 255) (within_in low top (width top)) _ (within_at low top (width top)) _ (within_exactly low top (width top))
    (either_exactly (ltb top 65536) _ (counted_in low top (div_ceil (width top) 8)) (λ i. bind (padding_at i) (λ p. within_at low top (cond (eqb top 255) 8 16) p.1)) (counted_at low top (div_ceil (width top) 8))
    (then_exactly padding_in padding_at _ (λ p j. within_at low top (cond (eqb top 255) 8 16) j) padding_exactly (λ p. within_exactly low top (cond (eqb top 255) 8 16)))
    (counted_exactly low top (div_ceil (width top) 8) (width_octets_few top))))

octets_hold : (top : ℕ) → top < 65536 → top < 2 ^ (cond (eqb top 255) 8 16)
octets_hold top small =
    elim (cases_Bool (eqb top 255)) [
      | inl t ↦ rw t (omega (arith, eqb-true _ _ t))
      | inr f ↦ rw f small
    ]

number_there : (low top at v : ℕ) (run : List Bool) → (number_pieces_in low top).Spells at v run → Number low top at v run
unfolding number_pieces_in number_run
number_there low top at v run s =
    elim (cases_Bool (eqb top 0)) [
      | inl t ↦ let h = rw t at s in rw t ((omega (arith, h.0), omega (arith, h.0)), h.1)
      | inr f ↦
          let above = rw f at s in
          rw f (elim (cases_Bool (ltb top 255)) [
            | inl t ↦ let h = rw t at above in rw t (within_there low top (width top) at v run h)
            | inr g ↦
                let more = rw g at above in
                rw g (elim (cases_Bool (ltb top 65536)) [
                  | inl t ↦
                      let h = rw t at more in
                      let n : ℕ = cond (eqb top 255) 8 16 in
                      rw t (padded_there (within_in low top n).Spells (InRange low top) (λ v. bits_run n (v - low)) (within_there low top n) at v run h)
                  | inr h ↦ let last = rw h at more in rw h (rw f at (counted_there low top (div_ceil (width top) 8) at v run (rw f refl) last))
                ])
          ])
    ]

number_back : (low top at v : ℕ) (run : List Bool) → top < 2 ^ 64 → Number low top at v run → (number_pieces_in low top).Spells at v run
unfolding number_pieces_in number_run
number_back low top at v run fits s =
    elim (cases_Bool (eqb top 0)) [
      | inl t ↦ let z = eqb-true top 0 t in rw t (omega (arith, s.0.0, s.0.1, z), rw t at s.1)
      | inr f ↦
          let some : 0 < top = omega (arith, eqb-false top 0 f) in
          rw f (elim (cases_Bool (ltb top 255)) [
            | inl t ↦ let h = rw (f, t) at s in rw t (within_back low top (width top) at v run (width_covers top top fits (omega arith)) h)
            | inr g ↦
                rw g (elim (cases_Bool (ltb top 65536)) [
                  | inl t ↦
                      let h = rw (f, g, t) at s in
                      let n : ℕ = cond (eqb top 255) 8 16 in
                      rw t (padded_back (within_in low top n).Spells (InRange low top) (λ v. bits_run n (v - low)) (λ at v run. within_back low top n at v run (octets_hold top (ltb-true _ _ t))) at v run h)
                  | inr k ↦
                      let is : number_run low top v at ≡ counted_run top (v - low) at = rw (f, g, k) refl in
                      rw k (counted_back low top (div_ceil (width top) 8) at v run (rw f refl) (omega (arith, ltb-false _ _ k)) fits (s.0, s.1 ∙ is))
                ])
          ])
    ]

pub number_exactly : (low top : ℕ) → top < 2 ^ 64 → IsExactly (number_in low top) (number_at low top)
number_exactly low top fits = spelled_exactly (Number low top) (number_pieces_in low top) (number_at low top) (number_there low top) (λ at v run. number_back low top at v run fits) (number_pieces_exactly low top)

pub number_exact : (low top : ℕ) → top < 2 ^ 64 → IsExact (Number low top) (number_at low top)
number_exact low top fits = (number_exactly low top fits).spells
