-- Containers are read exactly.
use Rattle.std.proofs.Common.{◌≡◌, [], Ok, ap, ◌∙◌, sym, inl, inr, refl, arith}
use Rattle.aper_fields.specs.Reading.{Input, whole_at}
use Rattle.aper_fields.specs.Format.{Format, IsExactly}
use Rattle.aper_fields.proofs.Octet.{input}
use Rattle.echo_base.proofs.Answers.{bind_ok, bind_err, ok_err, ok_is, ok_of}
use Rattle.aper_fields.proofs.Containers.{whole_found, whole_only, whole_wrong, whole_refused}
use Rattle.aper_fields.specs.SequenceReading.{Reader}
use Rattle.aper_fields.specs.Many.{inside, inside_at}

pub inside_exactly : {A : Type 0} (content : Input) (F : Format A) (f : Reader A) → IsExactly F f → IsExactly (inside content F) (inside_at content f)
inside_exactly content F f p = record {
  spells = record {
    found = λ i j v h.
        let x = bind_ok (whole_at f content) (λ v. Ok (v, i)) (v, j) h in
        let g : (x.0, i) ≡ (v, j) = ok_is _ _ x.2 in
        ([], (whole_found F.Spells f p.spells content v (x.1 ∙ ap Ok (ap (λ (y : _ × Input). y.0) g)), refl), ap (λ (y : _ × Input). y.1.left) g, ap (λ (y : _ × Input). y.1.offset) (sym g) ∙ omega arith);
    only = λ at v run rest h.
        let none : run ≡ [] = h.1 in
        rw (whole_only F.Spells f p.spells content v h.0, none) (ap (λ o. ok_of (v, input o rest)) (omega arith));
  };
  wrong = λ i e h.
      elim (bind_err (whole_at f content) (λ v. Ok (v, i)) e h) [
        | inl first ↦ whole_wrong F f p content e first
        | inr x ↦ absurd (ok_err _ e x.2)
      ];
  refused = λ i e h. rw (whole_refused F f p content e h) refl;
}
