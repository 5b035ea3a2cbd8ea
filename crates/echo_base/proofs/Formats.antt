-- Reading is exact for a format, its errors too; and what follows of what a format says.
use Rattle.std.proofs.Common.{◌⊎◌, ◌≡◌, Option, Some, None, Ok, Err, refl, sym, ap, ◌∙◌, subst, inl, inr}
use Rattle.std.proofs.lemmas.Option.{same_Some}
use Rattle.echo_base.specs.Format.{Format, just, ◌>>=◌, meant, IsExactly, Decides}
use Rattle.echo_base.specs.Reading as readings
use Rattle.echo_base.specs.Reading.{Read, Reader, done, known, value_of}
use Rattle.echo_base.proofs.Answers.{ok_of, err_of, ok_err, ok_is, ok_parts, err_is, bind_ok, bind_err}

-- ---- formats out of formats

pub just_exactly : {S E A : Type 0} (v : A) → IsExactly {S = S} {E = E} (just v) (done v)
just_exactly v = record {
  found = λ s w t h. (let e = ok_parts v w s t h in (sym e.0, e.1));
  only = λ s w t h. rw (h.0, h.1) refl;
  wrong = λ s e h. absurd (ok_err (v, s) e h);
  refused = λ s e h. absurd h;
}

-- one behind another
pub behind : {S E A B : Type 0} (F : Format S E A) (f : Reader S E A) (G : A → Format S E B) (g : A → Reader S E B) → IsExactly F f → ((v : A) → IsExactly (G v) (g v)) → IsExactly (F >>= G) (readings.◌>>=◌ f g)
behind F f G g p q = record {
  found = λ s w u h.
      let x = bind_ok (f s) (λ x. g x.0 x.1) (w, u) h in
      (x.0.0, x.0.1, p.found s x.0.0 x.0.1 x.1, (q x.0.0).found x.0.1 w u x.2);
  only = λ s w u h. rw (p.only s h.0 h.1 h.2) ((q h.0).only h.1 w u h.3);
  wrong = λ s e h.
      elim (bind_err (f s) (λ x. g x.0 x.1) e h) [
        | inl first ↦ inl (p.wrong s e first)
        | inr x ↦ inr (x.0.0, x.0.1, p.found s x.0.0 x.0.1 x.1, (q x.0.0).wrong x.0.1 e x.2)
      ];
  refused = λ s e h.
      elim h [
        | inl first ↦ rw (p.refused s e first) refl
        | inr x ↦ rw (p.only s x.0 x.1 x.2) ((q x.0).refused x.1 e x.3)
      ];
}

-- a value that is there
pub known_ok : {S E B : Type 0} (o : Option B) (e : E) (s : S) (w : B) (t : S) → known o e s ≡ Ok (w, t) → (o ≡ Some w) × (s ≡ t)
known_ok (Some v) e s w t h = (let p = ok_parts v w s t h in (ap Some p.0, p.1))
known_ok None e s w t h = absurd (ok_err (w, t) e (sym h))

-- a meaning that is decided
pub known_exactly : {S E B : Type 0} (o : Option B) (P : B → Type 0) (due : E) → Decides o P → IsExactly {S = S} (meant P due) (known o due)
known_exactly (Some v) P due d = record {
  found = λ s w t h. (let e = ok_parts v w s t h in (subst P e.0 (d.found v refl), e.1));
  only = λ s w t h. rw (same_Some v w (d.only w h.0), h.1) refl;
  wrong = λ s e h. absurd (ok_err (v, s) e h);
  refused = λ s e h. absurd (h.0 v (d.found v refl));
}
known_exactly None P due d = record {
  found = λ s w t h. absurd (ok_err (w, t) due (sym h));
  only = λ s w t h. absurd (let e = d.only w h.0 in cc);
  wrong = λ s e h. (λ w p. (let n = d.only w p in cc), sym (err_is due e h));
  refused = λ s e h. ap err_of (sym h.1);
}

-- ---- what a format says of one place

pub one_value : {S E A : Type 0} (F : Format S E A) (f : Reader S E A) → IsExactly F f → (s : S) (v : A) (t : S) (w : A) (u : S) → F.Stands s v t → F.Stands s w u → v ≡ w
one_value F f p s v t w u x y = (ok_parts v w t u (sym (p.only s v t x) ∙ p.only s w u y)).0

pub one_error : {S E A : Type 0} (F : Format S E A) (f : Reader S E A) → IsExactly F f → (s : S) (d e : E) → F.Refuses s d → F.Refuses s e → d ≡ e
one_error {S} {E} {A} F f p s d e x y = err_is {A = A × S} d e (sym (p.refused s d x) ∙ p.refused s e y)

pub not_both : {S E A : Type 0} (F : Format S E A) (f : Reader S E A) → IsExactly F f → (s : S) (v : A) (t : S) (e : E) → F.Stands s v t → F.Refuses s e → ⊥
not_both F f p s v t e x y = ok_err (v, t) e (sym (p.only s v t x) ∙ p.refused s e y)

pub either : {S E A : Type 0} (F : Format S E A) (f : Reader S E A) → IsExactly F f → (s : S) → ((v : A) × ((t : S) × F.Stands s v t)) ⊎ ((e : E) × F.Refuses s e)
either {S} {E} {A} F f p s = by (f s) refl
  where
    by : (r : Read S E A) → f s ≡ r → ((v : A) × ((t : S) × F.Stands s v t)) ⊎ ((e : E) × F.Refuses s e)
    by (Ok x) h = inl (x.0, (x.1, p.found s x.0 x.1 h))
    by (Err e) h = inr (e, p.wrong s e h)

-- ---- the value of a reading, without what is left

pub value_ok : {S E A : Type 0} (r : Read S E A) (v : A) → value_of r ≡ Ok v → (t : S) × (r ≡ Ok (v, t))
value_ok (Ok x) v h = (x.1, ap (λ w. ok_of (w, x.1)) (ok_is x.0 v h))
value_ok (Err e) v h = absurd (ok_err v e (sym h))

pub value_err : {S E A : Type 0} (r : Read S E A) (e : E) → value_of r ≡ Err e → r ≡ Err e
value_err (Ok x) e h = absurd (ok_err x.0 e h)
value_err (Err d) e h = ap err_of (err_is d e h)
