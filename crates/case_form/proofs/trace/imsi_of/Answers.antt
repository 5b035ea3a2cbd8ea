use Rattle.std.proofs.Common.{sym}
use Rattle.case_form.proofs.NumberLaws.{digits_are_text, no_digits}
use Rattle.case_form.proofs.trace.imsi_of.Goals as goal

-- digits are text, so no word of digits is refused as none
pub returns-in_default : goal.returns-in_default
returns-in_default c = absurd (c.in_default.ensures.cases.0 (digits_are_text _ (sym c.if-not-are_digits.ensures)))

pub returns-then-not-are_digits : goal.returns-then-not-are_digits
returns-then-not-are_digits c = sym (no_digits 15 _ (sym c.if-not-are_digits.ensures))
