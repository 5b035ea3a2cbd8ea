use Rattle.std.proofs.Common.{length, sym, ◌∙◌, arith}
use Rattle.tlv_elements.proofs.Digits.{number_fits, number_more, digit_at, no_digit, number_end}
use Rattle.tlv_elements.proofs.digit.number_of.Goals as goal

pub returns-in_err-digit-clause-value : goal.returns-in_err-digit-clause-value
returns-in_err-digit-clause-value g c = c.from_residual.ensures ∙ sym (no_digit g.D.Digit.digit g.D.Digit.base c.loop-octet.number c.loop-octet.octet-index c.args.octets.now c.loop-octet-test.true (sym c.read.ensures.value ∙ c.in_err-digit.was)) ∙ c.loop-octet.invariant.same

pub overflow_mul-number : goal.overflow_mul-number
overflow_mul-number g c = rw c.base.ensures (omega (arith, number_fits g.D.Digit.base (length c.args.octets.now) c.loop-octet.octet-index c.loop-octet.number c.in_ok-digit.digit c.requires c.loop-octet-test.true c.loop-octet.invariant.few c.in_ok-digit.ensures.range))

pub overflow_add-number : goal.overflow_add-number
overflow_add-number g c = rw (c.base.ensures, c.from.ensures) (omega (arith, number_fits g.D.Digit.base (length c.args.octets.now) c.loop-octet.octet-index c.loop-octet.number c.in_ok-digit.digit c.requires c.loop-octet-test.true c.loop-octet.invariant.few c.in_ok-digit.ensures.range))

pub loop-octet-preserved : goal.loop-octet-preserved
loop-octet-preserved g c = rw (c.base.ensures, c.from.ensures) (record {
  same = digit_at g.D.Digit.digit g.D.Digit.base c.loop-octet.number c.loop-octet.octet-index c.in_ok-digit.digit c.args.octets.now c.loop-octet-test.true (sym c.in_ok-digit.ensures.value) ∙ c.loop-octet.invariant.same;
  few = number_more g.D.Digit.base c.loop-octet.octet-index c.loop-octet.number c.in_ok-digit.digit c.loop-octet.invariant.few c.in_ok-digit.ensures.range;
})

pub returns-clause-value : goal.returns-clause-value
returns-clause-value g c = sym (number_end g.D.Digit.digit g.D.Digit.base c.loop-octet.number c.loop-octet.octet-index c.args.octets.now c.loop-octet-test.false) ∙ c.loop-octet.invariant.same
