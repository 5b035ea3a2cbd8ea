-- Reading is exact for a format, its refusals too.
use Rattle.std.proofs.Common.{◌≡◌, ℕ, ◌+◌, ◌*◌, ◌^◌, ◌<◌, Bool, true, false, not, cond, ltb, leb, eqb, List, ◌++◌, length, Result, Ok, Err, IsOkAnd, refl, sym, ap, ◌∙◌, subst, inl, inr}
use Rattle.std.proofs.lemmas.Bool.{cases_Bool, cases_lt, ltb-true, lt-ltb, le-ltb, lt-leb, le-leb, eqb-false, ne_eqb}
use Rattle.echo_base.specs.declared.reason.Reason.{Reason}
use Rattle.echo_base.specs.declared.reason.Reason.TheVariants as reasons
use Rattle.echo_base.specs.declared.refusal.Refusal.{Refusal}
pub use Rattle.echo_base.proofs.Answers.{bind, bind_err, ok_of, err_of, ok_err, err_is, turned}
use Rattle.echo_base.proofs.Answers.{ok_is, passed_ok, passed_err}
use Rattle.std.proofs.Math.Nat.{mod-eq_of_lt}
use Rattle.std.proofs.lemmas.Nat.{pow_pos}
use Rattle.aper_fields.specs.Bits.{bits, number_of, zeros, gap}
use Rattle.aper_fields.proofs.BitLaws.{length-bits, number_of-bits, bits-number_of, number_of-lt, bits-zero}
use Rattle.aper_fields.specs.Reading.{Input, Read, refusal, bits_at, padding_at, Gives, GivesBy}
use Rattle.aper_fields.specs.Spelling.{Piece, IsExact}
use Rattle.aper_fields.specs.Format.{Format, Stands, bits_in, just, refuse_here, ◌>>=◌, passing, mapped, counting, spelled_as, either, padding_in, Reads, ReadsBy, ReadsExactly, ReadsExactlyBy, IsExactly, HasOneReading}
use Rattle.aper_fields.proofs.Octet.{input, same_input}
use Rattle.aper_fields.proofs.Exact.{bind_ok, bits_exact, padding_exact, then_exact, then_where_exact, done_exact, map_exact, same_exact}

pub bits_exactly : (n : ℕ) → IsExactly (bits_in n) (bits_at n)
unfolding bits_at
bits_exactly n = record {
  spells = bits_exact n;
  wrong = λ i e h.
      elim (cases_Bool (ltb (length i.left) n)) [
        | inl t ↦ (ltb-true _ _ t, sym (err_is _ e (rw t at h)))
        | inr f ↦ absurd (ok_err _ e (rw f at h))
      ];
  refused = λ i e h. rw (lt-ltb (length i.left) n h.0, h.1) refl;
}

-- where a run stands, it is read
pub stands_read : {A : Type 0} (F : Format A) (f : Input → Read A) → IsExact F.Spells f → (i : Input) (a : A) (j : Input) → Stands F i a j → f i ≡ Ok (a, j)
stands_read F f p i a j s =
    let here : i ≡ input i.offset (s.0 ++ j.left) = same_input _ _ _ _ refl s.2 in
    let there : input (i.offset + length s.0) j.left ≡ j = same_input _ _ _ _ (sym s.3) refl in
    ap f here ∙ p.only i.offset a s.0 j.left s.1 ∙ ap (λ (k : Input). ok_of (a, k)) there

-- the second has to be exact only behind what the first spells
pub then_where_exactly : {A B : Type 0} (F : Format A) (f : Input → Read A) (G : A → Format B) (g : A → Input → Read B) → IsExactly F f → ((at : ℕ) (a : A) (run : List Bool) → F.Spells at a run → IsExactly (G a) (g a)) → IsExactly (F >>= G) (λ i. bind (f i) (λ x. g x.0 x.1))
then_where_exactly F f G g p q = record {
  spells = then_where_exact F.Spells f (λ a. (G a).Spells) (λ i a j. g a j) p.spells (λ i at a run s. (q at a run s).spells);
  wrong = λ i e h.
      elim (bind_err (f i) (λ x. g x.0 x.1) e h) [
        | inl first ↦ inl (p.wrong i e first)
        | inr x ↦
            let here = p.spells.found i x.0.1 x.0.0 x.1 in
            inr (x.0.0, x.0.1, here, (q i.offset x.0.0 here.0 here.1).wrong x.0.1 e x.2)
      ];
  refused = λ i e h.
      elim h [
        | inl first ↦ rw (p.refused i e first) refl
        | inr x ↦ rw (stands_read F f p.spells i x.0 x.1 x.2) ((q i.offset x.0 x.2.0 x.2.1).refused x.1 e x.3)
      ];
}

pub then_exactly : {A B : Type 0} (F : Format A) (f : Input → Read A) (G : A → Format B) (g : A → Input → Read B) → IsExactly F f → ((a : A) → IsExactly (G a) (g a)) → IsExactly (F >>= G) (λ i. bind (f i) (λ x. g x.0 x.1))
then_exactly F f G g p q = then_where_exactly F f G g p (λ at a run s. q a)

pub just_exactly : {A : Type 0} (a : A) → IsExactly (just a) (λ i. Ok (a, i))
just_exactly a = record { spells = done_exact a; wrong = λ i e h. absurd (ok_err _ e h); refused = λ i e h. absurd h }

pub refuse_exactly : {A : Type 0} (reason : Reason) → IsExactly {A = A} (refuse_here reason) (λ i. Err (refusal reason i))
refuse_exactly reason = record {
  spells = record { found = λ i j v h. absurd (ok_err _ _ (sym h)); only = λ at v run rest h. absurd h };
  wrong = λ i e h. sym (err_is _ e h);
  refused = λ i e h. rw h refl;
}

pub either_exactly : {A : Type 0} (b : Bool) (F G : Format A) (f g : Input → Read A) → IsExactly F f → IsExactly G g → IsExactly (either b F G) (λ i. cond b (f i) (g i))
either_exactly true F G f g p q = record { spells = p.spells; wrong = p.wrong; refused = p.refused }
either_exactly false F G f g p q = record { spells = q.spells; wrong = q.wrong; refused = q.refused }

pub passing_exactly : {A : Type 0} (test : A → Bool) (reason : Reason) (F : Format A) (f : Input → Read A) → IsExactly F f → IsExactly (passing test reason F) (λ i. bind (f i) (λ x. cond (test x.0) (Ok x) (Err (refusal reason i))))
passing_exactly test reason F f p = record {
  spells = record {
    found = λ i j v h.
        let x = bind_ok (f i) (λ x. cond (test x.0) (Ok x) (Err (refusal reason i))) (v, j) h in
        let t = passed_ok (test x.0.0) (refusal reason i) x.0 (v, j) x.2 in
        let r = p.spells.found i j v (x.1 ∙ ap ok_of t.1) in
        (r.0, (ap test (sym (ap (λ (y : _ × Input). y.0) t.1)) ∙ t.0, r.1), r.2, r.3);
    only = λ at v run rest h. rw (p.spells.only at v run rest h.1, h.0) refl;
  };
  wrong = λ i e h.
      elim (bind_err (f i) (λ x. cond (test x.0) (Ok x) (Err (refusal reason i))) e h) [
        | inl first ↦ inl (p.wrong i e first)
        | inr x ↦ let t = passed_err (test x.0.0) (refusal reason i) e x.0 x.2 in inr (x.0.0, x.0.1, p.spells.found i x.0.1 x.0.0 x.1, t.0, t.1)
      ];
  refused = λ i e h.
      elim h [
        | inl first ↦ rw (p.refused i e first) refl
        | inr x ↦ rw (stands_read F f p.spells i x.0 x.1 x.2, x.3, x.4) refl
      ];
}

pub mapped_exactly : {A B : Type 0} (h : A → B) (F : Format A) (f : Input → Read A) → IsExactly F f → IsExactly (mapped h F) (λ i. bind (f i) (λ x. Ok (h x.0, x.1)))
mapped_exactly h F f p = record {
  spells = map_exact h F.Spells f p.spells;
  wrong = λ i e w. elim (bind_err (f i) (λ x. Ok (h x.0, x.1)) e w) [ inl first ↦ p.wrong i e first | inr x ↦ absurd (ok_err _ e x.2) ];
  refused = λ i e w. rw (p.refused i e w) refl;
}

-- the same runs in other words
pub spelled_exactly : {A : Type 0} (P : Piece A) (F : Format A) (f : Input → Read A) → ((at : ℕ) (v : A) (run : List Bool) → F.Spells at v run → P at v run) → ((at : ℕ) (v : A) (run : List Bool) → P at v run → F.Spells at v run) → IsExactly F f → IsExactly (spelled_as P F) f
spelled_exactly P F f there back p = record { spells = same_exact F.Spells P f there back p.spells; wrong = p.wrong; refused = p.refused }

-- the same reading in other words
pub along_exactly : {A : Type 0} (F : Format A) (f g : Input → Read A) → ((i : Input) → f i ≡ g i) → IsExactly F g → IsExactly F f
along_exactly F f g same p = record {
  spells = record {
    found = λ i j v h. p.spells.found i j v (sym (same i) ∙ h);
    only = λ at v run rest s. same (input at (run ++ rest)) ∙ p.spells.only at v run rest s;
  };
  wrong = λ i e h. p.wrong i e (sym (same i) ∙ h);
  refused = λ i e h. same i ∙ p.refused i e h;
}

-- a reading that goes on unless a value fails a test
pub checked_is : {A B : Type 0} (good bad : A → Bool) → ((a : A) → good a ≡ not (bad a)) → (r : Read A) (k : A × Input → Result B Refusal) (e : Refusal) → bind r (λ x. cond (bad x.0) (Err e) (k x)) ≡ bind (bind r (λ x. cond (good x.0) (Ok x) (Err e))) k
checked_is good bad opposite (Err d) k e = refl
checked_is good bad opposite (Ok x) k e = rw (opposite x.0) (turned (bad x.0) x e k)

pub leb-not_ltb : (top v : ℕ) → leb v top ≡ not (ltb top v)
leb-not_ltb top v =
    elim (cases_lt top v) [
      | inl above ↦ rw (lt-ltb top v above, lt-leb v top above) refl
      | inr most ↦ rw (le-ltb top v most, le-leb v top most) refl
    ]

-- a length, and what it counts
pub counting_exactly : {A : Type 0} (L : Format ℕ) (l : Input → Read ℕ) (P : ℕ → Piece A) (read : Input → ℕ → Input → Read A) → IsExactly L l → ((start : Input) (n : ℕ) → IsExact (P n) (read start n)) → ((start : Input) (n : ℕ) (i : Input) (e : Refusal) → read start n i ≡ Err e → (length i.left < 8 * n) × (e ≡ refusal reasons.Truncated start)) → ((start : Input) (n : ℕ) (i : Input) → length i.left < 8 * n → read start n i ≡ Err (refusal reasons.Truncated start)) → IsExactly (counting L P) (λ i. bind (l i) (λ n. read i n.0 n.1))
counting_exactly L l P read p exact short fits = record {
  spells = then_exact L.Spells l P read p.spells exact;
  wrong = λ i e h.
      elim (bind_err (l i) (λ n. read i n.0 n.1) e h) [
        | inl first ↦ inl (p.wrong i e first)
        | inr x ↦ let t = short i x.0.0 x.0.1 e x.2 in inr (x.0.0, x.0.1, p.spells.found i x.0.1 x.0.0 x.1, t.0, t.1)
      ];
  refused = λ i e h.
      elim h [
        | inl first ↦ rw (p.refused i e first) refl
        | inr x ↦ rw (stands_read L l p.spells i x.0 x.1 x.2, fits i x.0 x.1 x.3, x.4) refl
      ];
}

-- ---- padding

zero_value : (n v : ℕ) → v < 2 ^ n → bits n v ≡ zeros n → v ≡ 0
zero_value n v h e = sym (mod-eq_of_lt h) ∙ sym (number_of-bits n v) ∙ ap number_of (e ∙ sym (bits-zero n)) ∙ number_of-bits n 0 ∙ mod-eq_of_lt (pow_pos n)

pub padding_exactly : IsExactly padding_in padding_at
unfolding padding_at
padding_exactly = record {
  spells = padding_exact;
  wrong = λ i e h.
      elim (bind_err (bits_at (gap i.offset) i) (λ p. cond (eqb p.0 0) (Ok (tt, p.1)) (Err (refusal reasons.NonZeroPadding i))) e h) [
        | inl first ↦ inl ((bits_exactly (gap i.offset)).wrong i e first)
        | inr x ↦
            let t = passed_err (eqb x.0.0 0) (refusal reasons.NonZeroPadding i) e (tt, x.0.1) x.2 in
            let r = (bits_exactly (gap i.offset)).spells.found i x.0.1 x.0.0 x.1 in
            inr (r.0, x.0.1.left, r.2, ap length r.1.1 ∙ length-bits (gap i.offset) x.0.0, (λ z. eqb-false _ _ t.0 (zero_value (gap i.offset) x.0.0 r.1.0 (sym r.1.1 ∙ z))), t.1)
      ];
  refused = λ i e h.
      elim h [
        | inl first ↦ rw ((bits_exactly (gap i.offset)).refused i e first) refl
        | inr x ↦
            let n = number_of x.0 in
            let run : x.0 ≡ bits (gap i.offset) n = sym (bits-number_of x.0) ∙ ap (λ k. bits k n) x.3 in
            let small : n < 2 ^ gap i.offset = subst (λ k. n < 2 ^ k) x.3 (number_of-lt x.0) in
            let read = stands_read (bits_in (gap i.offset)) (bits_at (gap i.offset)) (bits_exact (gap i.offset)) i n (input (i.offset + length x.0) x.1) (x.0, (small, run), x.2, refl) in
            let ne : eqb n 0 ≡ false = ne_eqb n 0 (λ z. x.4 (run ∙ ap (bits (gap i.offset)) z ∙ bits-zero (gap i.offset))) in
            rw (read, ne, x.5) refl
      ];
}

-- ---- what a reader of the code says

gives_reads : {A : Type 0} (F : Format A) (f : Input → Read A) (r : Result A Refusal) (old new : Input) → IsExactly F f → Gives r old new (f old) → Reads F r old new
gives_reads F f (Ok v) old new p g = p.spells.found old new v g
gives_reads F f (Err e) old new p g = (p.wrong old e g.0, g.1)

gives_reads_by : {X A : Type 0} (view : X → A) (F : Format A) (f : Input → Read A) (r : Result X Refusal) (old new : Input) → IsExactly F f → GivesBy view r old new (f old) → ReadsBy view F r old new
gives_reads_by view F f (Ok x) old new p g = p.spells.found old new (view x) g
gives_reads_by view F f (Err e) old new p g = (p.wrong old e g.0, g.1)

-- what stands here is what was given
gives_standing : {X A : Type 0} (view : X → A) (F : Format A) (f : Input → Read A) (r : Result X Refusal) (old new : Input) → IsExactly F f → GivesBy view r old new (f old) → (v : A) (j : Input) → Stands F old v j → IsOkAnd r (λ x. view x ≡ v) × (new ≡ j)
gives_standing view F f (Ok x) old new p g v j h =
    let e : (view x, new) ≡ (v, j) = ok_is _ _ (sym g ∙ stands_read F f p.spells old v j h) in
    (ap (λ (z : _ × Input). z.0) e, ap (λ (z : _ × Input). z.1) e)
gives_standing view F f (Err d) old new p g v j h = absurd (ok_err _ _ (sym (stands_read F f p.spells old v j h) ∙ g.0))

-- a refusal that is due here was given
gives_refusal : {X A : Type 0} (view : X → A) (F : Format A) (f : Input → Read A) (r : Result X Refusal) (old new : Input) → IsExactly F f → GivesBy view r old new (f old) → (e : Refusal) → F.Refuses old e → (r ≡ Err e) × (new ≡ old)
gives_refusal view F f (Ok x) old new p g e h = absurd (ok_err _ _ (sym g ∙ p.refused old e h))
gives_refusal view F f (Err d) old new p g e h = (ap err_of (err_is d e (sym g.0 ∙ p.refused old e h)), g.1)

pub gives_exactly_by : {X A : Type 0} (view : X → A) (F : Format A) (f : Input → Read A) (r : Result X Refusal) (old new : Input) → IsExactly F f → GivesBy view r old new (f old) → ReadsExactlyBy view F r old new
gives_exactly_by view F f r old new p g = (gives_reads_by view F f r old new p g, gives_standing view F f r old new p g, gives_refusal view F f r old new p g)

gives_value : {A : Type 0} (r : Result A Refusal) (v : A) → IsOkAnd r (λ x. x ≡ v) → r ≡ Ok v
gives_value (Ok x) v h = ap ok_of h
gives_value (Err e) v h = absurd h

gives_plain : {A : Type 0} (r : Result A Refusal) (old new : Input) (read : Read A) → Gives r old new read → GivesBy (λ x. x) r old new read
gives_plain (Ok x) old new read g = g
gives_plain (Err e) old new read g = g

pub gives_exactly : {A : Type 0} (F : Format A) (f : Input → Read A) (r : Result A Refusal) (old new : Input) → IsExactly F f → Gives r old new (f old) → ReadsExactly F r old new
gives_exactly F f r old new p g =
    let h = gives_plain r old new (f old) g in
    (gives_reads F f r old new p g, λ v j s. (let x = gives_standing (λ x. x) F f r old new p h v j s in (gives_value r v x.0, x.1)), gives_refusal (λ x. x) F f r old new p h)

-- what two readers gave is the same
pub one_reading_lem : {A : Type 0} (F : Format A) (f : Input → Read A) → IsExactly F f → HasOneReading F
one_reading_lem F f p (Ok v) (Ok w) old new at x y =
    let e : (v, new) ≡ (w, at) = ok_is _ _ (sym (stands_read F f p.spells old v new x) ∙ stands_read F f p.spells old w at y) in
    (ap (λ (z : _ × Input). ok_of z.0) e, ap (λ (z : _ × Input). z.1) e)
one_reading_lem F f p (Ok v) (Err d) old new at x y = absurd (ok_err _ _ (sym (stands_read F f p.spells old v new x) ∙ p.refused old d y.0))
one_reading_lem F f p (Err e) (Ok w) old new at x y = absurd (ok_err _ _ (sym (stands_read F f p.spells old w at y) ∙ p.refused old e x.0))
one_reading_lem F f p (Err e) (Err d) old new at x y = (ap err_of (err_is e d (sym (p.refused old e x.0) ∙ p.refused old d y.0)), x.1 ∙ sym y.1)
