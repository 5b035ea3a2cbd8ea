use Rattle.subs_table.proofs.TextLaws.{number_parsed, small_parsed}
use Rattle.subs_table.proofs.columns.fifteen_digits.Goals as goal

pub returns-clause-number : goal.returns-clause-number
returns-clause-number c = number_parsed c.args.text.now c.parse.result c.ok.result c.parse.ensures.value.0 c.ok.ensures.value c.if-text-ne15.false (c.is_decimal.ensures) c.if-not-is_decimal.false

pub returns-clause-range : goal.returns-clause-range
returns-clause-range c = small_parsed c.args.text.now c.parse.result c.ok.result c.parse.ensures.value.0 c.ok.ensures.value c.if-text-ne15.false (c.is_decimal.ensures) c.if-not-is_decimal.false
