use Rattle.std.proofs.Common.{refl, arith, ◌∙◌}
use Rattle.std.proofs.lemmas.Nat.{and_mask}
use Rattle.nas_kinds.proofs.Digits.{number_fits, number_more, decimal_at}
use Rattle.nas_kinds.proofs.identity.with_digits.Goals as goal

pub overflow_mul-number : goal.overflow_mul-number
overflow_mul-number c = omega (arith, number_fits c.loop-octet.octet-index c.loop-octet.number (omega arith) c.loop-octet.invariant.1)

pub overflow_add-number : goal.overflow_add-number
overflow_add-number c = omega (arith, number_fits c.loop-octet.octet-index c.loop-octet.number (omega arith) c.loop-octet.invariant.1)

pub overflow_add-number-in-loop-octet : goal.overflow_add-number-in-loop-octet
overflow_add-number-in-loop-octet c = omega (arith, number_fits c.loop-octet.octet-index c.loop-octet.number (omega arith) c.loop-octet.invariant.1)

pub loop-octet-preserved : goal.loop-octet-preserved
loop-octet-preserved c =
    let l = c.loop-octet in
    (decimal_at l.octet-index l.number c.from.result c.from-in-loop-octet.result _ c.args.octets.now c.loop-octet-test.true refl (c.from.ensures ∙ and_mask _ 4) c.from-in-loop-octet.ensures (omega arith) (omega arith) ∙ l.invariant.0, number_more l.octet-index l.number c.from.result c.from-in-loop-octet.result l.invariant.1 (omega arith) (omega arith))
