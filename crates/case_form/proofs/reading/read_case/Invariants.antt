use Rattle.case_form.specs.State.{seen_of}
use Rattle.case_form.proofs.CaseLaws.{IsReadTo}
use Rattle.case_form.proofs.reading.read_case.Given as goal

abbrev pub invariant-loop-line : goal.invariant-loop-line
invariant-loop-line l = IsReadTo l.fn.bytes l.line-iterator (seen_of l.reading)
