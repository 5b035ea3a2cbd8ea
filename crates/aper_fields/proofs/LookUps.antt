-- Look-ups are read exactly.
use Rattle.std.proofs.Common.{◌≡◌, ◌++◌, Result, Ok, Err, refl, sym, ap, ◌∙◌, inl, inr}
use Rattle.echo_base.specs.declared.reason.Reason.{Reason}
use Rattle.echo_base.specs.declared.refusal.Refusal.{Refusal}
use Rattle.aper_fields.specs.Reading.{Input, refusal}
use Rattle.aper_fields.specs.Format.{Format, IsExactly}
use Rattle.echo_base.proofs.Answers.{bind_ok, bind_err, ok_err, ok_is, err_is}
use Rattle.aper_fields.proofs.Formats.{stands_read}
use Rattle.aper_fields.specs.SequenceReading.{Reader}
use Rattle.aper_fields.specs.Many.{looked_up, looked_up_at, answer}

answered : {B : Type 0} (r : Result B Reason) (i j k : Input) (v : B) → answer r i j ≡ Ok (v, k) → (r ≡ Ok v) × (j ≡ k)
answered (Ok w) i j k v e =
    let g : (w, j) ≡ (v, k) = ok_is _ _ e in
    (ap Ok (ap (λ (y : _ × Input). y.0) g), ap (λ (y : _ × Input). y.1) g)
answered (Err reason) i j k v e = absurd (ok_err _ _ (sym e))

denied : {B : Type 0} (r : Result B Reason) (i j : Input) (e : Refusal) → answer r i j ≡ Err e → (reason : Reason) × (r ≡ Err reason) × (e ≡ refusal reason i)
denied (Ok w) i j e h = absurd (ok_err _ _ h)
denied (Err reason) i j e h = (reason, refl, sym (err_is _ e h))

pub looked_up_exactly : {A B : Type 0} (look : A → Result B Reason) (F : Format A) (f : Reader A) → IsExactly F f → IsExactly (looked_up look F) (looked_up_at look f)
looked_up_exactly look F f p = record {
  spells = record {
    found = λ i j v h.
        let x = bind_ok (f i) (λ x. answer (look x.0) i x.1) (v, j) h in
        let t = answered (look x.0.0) i x.0.1 j v x.2 in
        let r = p.spells.found i x.0.1 x.0.0 x.1 in
        (r.0, (x.0.0, t.0, r.1), r.2 ∙ ap (λ (k : Input). r.0 ++ k.left) t.1, sym (ap (λ (k : Input). k.offset) t.1) ∙ r.3);
    only = λ at v run rest h. rw (p.spells.only at h.0 run rest h.2, h.1) refl;
  };
  wrong = λ i e h.
      elim (bind_err (f i) (λ x. answer (look x.0) i x.1) e h) [
        | inl first ↦ inl (p.wrong i e first)
        | inr x ↦ let t = denied (look x.0.0) i x.0.1 e x.2 in inr (x.0.0, x.0.1, p.spells.found i x.0.1 x.0.0 x.1, t.0, t.1, t.2)
      ];
  refused = λ i e h.
      elim h [
        | inl first ↦ rw (p.refused i e first) refl
        | inr x ↦ rw (stands_read F f p.spells i x.0 x.1 x.2, x.4, x.5) refl
      ];
}
