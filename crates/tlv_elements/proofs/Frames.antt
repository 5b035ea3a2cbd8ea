-- Where reading stands, and how much is left.
use Rattle.std.proofs.Common.{ℕ, ◌-◌, ltb, List, length, refl, sym, ap}
use Rattle.std.proofs.lemmas.Bool.{ltb-true, ltb-false, lt-ltb, le-ltb}
use Rattle.echo_base.specs.Format.{IsExactly}
use Rattle.echo_base.proofs.Answers.{ok_err, ok_parts, refused_ok, refused_err}
use Rattle.tlv_elements.specs.Element.{here_at, here_in, room_at, room_in}

pub here_exactly : {E : Type 0} (end : ℕ) → IsExactly (here_in {E = E} end) (here_at end)
here_exactly end = record {
  found = λ s v t h. (let e = ok_parts (end - length s) v s t h in (sym e.0, e.1));
  only = λ s v t h. rw (h.0, h.1) refl;
  wrong = λ s e h. absurd (ok_err (end - length s, s) e h);
  refused = λ s e h. absurd h;
}

pub room_exactly : {E : Type 0} (short : E) (count : ℕ) → IsExactly (room_in short count) (room_at short count)
room_exactly short count = record {
  found = λ s v t h. (let x = refused_ok (ltb (length s) count) short (tt, s) (v, t) h in (ltb-false (length s) count x.0, ap (λ (x : Unit {0} × List ℕ). x.1) x.1));
  only = λ s v t h. rw (le-ltb (length s) count h.0, h.1) refl;
  wrong = λ s e h. (let x = refused_err (ltb (length s) count) short e (tt, s) h in (ltb-true (length s) count x.0, x.1));
  refused = λ s e h. rw (lt-ltb (length s) count h.0, h.1) refl;
}
