use Rattle.std.proofs.Common.{◌+◌, ◌-◌, ◌*◌, drop, get_or, sym, ◌∙◌, arith}
use Rattle.case_form.proofs.NumberLaws.{numeral_parts, digit_more, too_large}
use Rattle.case_form.proofs.number.number_of.Goals as goal

pub returns-then-number-from-clause-value : goal.returns-then-number-from-clause-value
returns-then-number-from-clause-value c =
    let l = c.loop-digit in
    let word = c.args.word.now in
    let rest = drop (l.digit-index + 1) word in
    let next = 10 * l.number + (get_or word l.digit-index 0 - 48) in
    let numeral = sym c.if-not-is_numeral.ensures in
    let same = digit_more word l.digit-index l.number c.loop-digit-test.true (numeral_parts word numeral).1 ∙ l.invariant.0 in
    too_large c.args.most next word rest numeral same (omega (arith, c.from.ensures, c.from-in-loop-digit.ensures, c.if-number-from.true))
