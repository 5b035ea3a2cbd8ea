-- Reading is exact: piece by piece, and one behind another.
use Rattle.std.proofs.Common.{◌≡◌, ℕ, ◌+◌, ◌/◌, ◌≤◌, Bool, true, false, cond, ltb, eqb, List, [], ◌++◌, length, take, Ok, Err, refl, sym, ap, ◌∙◌, subst, append_assoc, arith}
use Rattle.std.proofs.Math.Nat.{mod-eq_of_lt}
use Rattle.std.proofs.lemmas.Bool.{ltb-false, le-ltb, eqb-true, eqb-false}
use Rattle.std.proofs.lemmas.Nat.{pow_pos}
use Rattle.std.proofs.lemmas.List.{append-nil, take_at, drop_at, take-append-drop, length-append, length-take}
use Rattle.echo_base.specs.declared.reason.Reason.TheVariants as reasons
use Rattle.echo_base.specs.declared.refusal.Refusal.{Refusal}
pub use Rattle.echo_base.proofs.Answers.{bind_ok}
use Rattle.echo_base.proofs.Answers.{refused_ok}
use Rattle.aper_fields.specs.Bits.{bits, number_of, gap}
use Rattle.aper_fields.specs.Reading.{Input, Read, ◌>>=◌, refuse, forward, bits_at, padding_at}
use Rattle.aper_fields.specs.Spelling.{Then, Just, Bits, Padding, IsExact}
use Rattle.aper_fields.proofs.BitLaws.{length-bits, number_of-bits, bits-number_of, bits-zero}
use Rattle.aper_fields.proofs.Octet.{input}
use Rattle.aper_fields.proofs.Steps.{number_of-take-lt}

-- ---- a run of bits

pub bits_exact : (n : ℕ) → IsExact (Bits n) (bits_at n)
unfolding bits_at
bits_exact n = record {
  found = λ i j v e.
      let g = refused_ok (ltb (length i.left) n) (record { reason = reasons.Truncated; place = i.offset / 8 }) (number_of (take n i.left), forward n i) (v, j) e in
      let long : n ≤ length i.left = ltb-false _ _ g.0 in
      let len : length (take n i.left) ≡ n = omega (arith, length-take n i.left) in
      let is : forward n i ≡ j = ap (λ (x : ℕ × Input). x.1) g.1 in
      let value : number_of (take n i.left) ≡ v = ap (λ (x : ℕ × Input). x.0) g.1 in
      let spelt : take n i.left ≡ bits n v = sym (bits-number_of (take n i.left)) ∙ ap (λ k. bits k (number_of (take n i.left))) len ∙ ap (bits n) value in
      (take n i.left, (rw (← value) (number_of-take-lt n i.left long), spelt), rw (← is) (sym (take-append-drop n i.left)), rw (← is, len) refl);
  only = λ at v run rest p.
      let len : length run ≡ n = ap length p.1 ∙ length-bits n v in
      let value : number_of run ≡ v = ap number_of p.1 ∙ number_of-bits n v ∙ mod-eq_of_lt p.0 in
      let long : ltb (length (run ++ rest)) n ≡ false = le-ltb _ _ (omega (arith, len, length-append run rest)) in
      rw (long, take_at run rest n len, drop_at run rest n len, value, len) refl;
}

-- ---- one behind another

-- the second has to be exact only behind what the first spells
pub then_where_exact : {A B : Type 0} (P : ℕ → A → List Bool → Type 0) (f : Input → Read A) (Q : A → ℕ → B → List Bool → Type 0) (g : Input → A → Input → Read B) → IsExact P f → ((i : Input) (at : ℕ) (a : A) (run : List Bool) → P at a run → IsExact (Q a) (g i a)) → IsExact (Then P Q) (λ i. f i >>= λ x. g i x.0 x.1)
then_where_exact P f Q g p q = record {
  found = λ i j b e.
      let x = bind_ok (f i) (λ x. g i x.0 x.1) (b, j) e in
      let a = x.0.0 in
      let k = x.0.1 in
      let front = p.found i k a x.1 in
      let back = (q i i.offset a front.0 front.1).found k j b x.2 in (
        front.0 ++ back.0,
        (a, front.0, back.0, refl, front.1, subst (λ (o : ℕ). Q a o b back.0) front.3 back.1),
        front.2 ∙ ap (λ (l : List Bool). front.0 ++ l) back.2 ∙ sym (append_assoc front.0 back.0 j.left),
        omega (arith, front.3, back.3, length-append front.0 back.0),
      );
  only = λ at b run rest s.
      let a = s.0 in
      let front = s.1 in
      let back = s.2 in
      let regroup : run ++ rest ≡ front ++ (back ++ rest) = ap (λ (l : List Bool). l ++ rest) s.3 ∙ append_assoc front back rest in
      let first = p.only at a front (back ++ rest) s.4 in
      let second = (q (input at (front ++ (back ++ rest))) at a front s.4).only (at + length front) b back rest s.5 in
      let len : at + length front + length back ≡ at + length run = omega (arith, ap length s.3, length-append front back) in
      rw (regroup, first, second, len) refl;
}

pub then_exact : {A B : Type 0} (P : ℕ → A → List Bool → Type 0) (f : Input → Read A) (Q : A → ℕ → B → List Bool → Type 0) (g : Input → A → Input → Read B) → IsExact P f → ((i : Input) (a : A) → IsExact (Q a) (g i a)) → IsExact (Then P Q) (λ i. f i >>= λ x. g i x.0 x.1)
then_exact P f Q g p q = then_where_exact P f Q g p (λ i at a run s. q i a)

-- nothing more
pub done_exact : {A : Type 0} (a : A) → IsExact (λ at v run. (v ≡ a) × (run ≡ [])) (λ i. Ok (a, i))
done_exact a = record {
  found = λ i j v e.
      let g : (a, i) ≡ (v, j) = cc in
      ([], (sym (ap (λ (x : _ × Input). x.0) g), refl), ap (λ (x : _ × Input). x.1.left) g, ap (λ (x : _ × Input). x.1.offset) (sym g) ∙ omega arith);
  only = λ at v run rest p. rw (p.0, p.1) (ap (λ o. Ok (a, input o rest)) (omega arith));
}

pub fail_exact : {A : Type 0} (P : ℕ → A → List Bool → Type 0) (e : Refusal) → ((at : ℕ) (v : A) (run : List Bool) → P at v run → ⊥) → IsExact P (λ i. Err e)
fail_exact P e none = record {
  found = λ i j v h. absurd cc;
  only = λ at v run rest p. absurd (none at v run p);
}

-- the same runs in other words
pub same_exact : {A : Type 0} (P Q : ℕ → A → List Bool → Type 0) (f : Input → Read A) → ((at : ℕ) (v : A) (run : List Bool) → P at v run → Q at v run) → ((at : ℕ) (v : A) (run : List Bool) → Q at v run → P at v run) → IsExact P f → IsExact Q f
same_exact P Q f there back p = record {
  found = λ i j v e. let x = p.found i j v e in (x.0, there i.offset v x.0 x.1, x.2, x.3);
  only = λ at v run rest q. p.only at v run rest (back at v run q);
}

-- whichever way a test went
pub if_exact : {A : Type 0} (b : Bool) (P : ℕ → A → List Bool → Type 0) (f g : Input → Read A) → (b ≡ true → IsExact P f) → (b ≡ false → IsExact P g) → IsExact P (λ i. cond b (f i) (g i))
if_exact true P f g yes_f no_g = yes_f refl
if_exact false P f g yes_f no_g = no_g refl

-- a value that is changed when it was read
pub map_exact : {A B : Type 0} (h : A → B) (P : ℕ → A → List Bool → Type 0) (f : Input → Read A) → IsExact P f → IsExact (λ at b run. (a : A) × (b ≡ h a) × P at a run) (λ i. f i >>= λ x. Ok (h x.0, x.1))
map_exact h P f p =
    same_exact (Then P (λ a. Just (h a))) _ _
    (λ at b run s. (s.0, s.5.0, subst (λ (l : List Bool). P at s.0 l) (sym (s.3 ∙ ap (λ (l : List Bool). s.1 ++ l) s.5.1 ∙ append-nil s.1)) s.4))
    (λ at b run s. (s.0, run, [], sym (append-nil run), s.2, (s.1, refl)))
    (then_exact P f (λ a. Just (h a)) (λ i a j. Ok (h a, j)) p (λ i a. done_exact (h a)))

-- ---- padding

-- the padding and nothing else
gap_exact : IsExact (λ at v run. Bits (gap at) at v run) (λ i. bits_at (gap i.offset) i)
gap_exact = record { found = λ i j v e. (bits_exact (gap i.offset)).found i j v e; only = λ at v run rest p. (bits_exact (gap at)).only at v run rest p }

abbrev IsZero : ℕ → ℕ → Unit {0} → List Bool → Type 0
IsZero p at v run = (p ≡ 0) × (run ≡ [])

zero_exact : (p : ℕ) (e : Refusal) → IsExact (IsZero p) (λ k. cond (eqb p 0) (Ok (tt, k)) (Err e))
zero_exact p e =
    if_exact (eqb p 0) (IsZero p) (λ k. Ok (tt, k)) (λ k. Err e)
    (λ t. same_exact (λ at v run. (v ≡ tt) × (run ≡ [])) (IsZero p) (λ k. Ok (tt, k)) (λ at v run h. (eqb-true p 0 t, h.1)) (λ at v run h. (refl, h.1)) (done_exact tt))
    (λ f. fail_exact (IsZero p) e (λ at v run h. eqb-false p 0 f h.0))

pub padding_exact : IsExact Padding padding_at
unfolding padding_at
padding_exact =
    let P : ℕ → ℕ → List Bool → Type 0 = λ at v run. Bits (gap at) at v run in
    same_exact (Then P IsZero) Padding _
    (λ at v run s. s.3 ∙ ap (λ (l : List Bool). s.1 ++ l) s.5.1 ∙ append-nil s.1 ∙ s.4.1 ∙ ap (bits (gap at)) s.5.0 ∙ bits-zero (gap at))
    (λ at v run e. (0, run, [], sym (append-nil run), (pow_pos (gap at), e ∙ sym (bits-zero (gap at))), (refl, refl)))
    (then_exact P (λ i. bits_at (gap i.offset) i) IsZero (λ i p k. cond (eqb p 0) (Ok (tt, k)) (refuse reasons.NonZeroPadding i)) gap_exact (λ i p. zero_exact p (record { reason = reasons.NonZeroPadding; place = i.offset / 8 })))
