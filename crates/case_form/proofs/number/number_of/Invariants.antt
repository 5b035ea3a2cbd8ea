use Rattle.std.proofs.Common.{◌≡◌, ◌≤◌, drop}
use Rattle.std.specs.Str.Parse.{digits_value, digits_value_after}
use Rattle.case_form.proofs.number.number_of.Given as goal

-- what is read is the number so far, and with the digits that are left it is that of the word
abbrev pub invariant-loop-digit : goal.invariant-loop-digit
invariant-loop-digit l = (digits_value_after 10 l.number (drop l.digit-index l.word) ≡ digits_value 10 l.word) × (l.number ≤ l.most)
