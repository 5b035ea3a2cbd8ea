use Rattle.case_form.proofs.EventLaws.{event_found, event_only}
use Rattle.case_form.proofs.laws.events_are_exact.Goals as goal

pub returns : goal.returns
returns c = λ rows line e small. (event_found rows line e small, λ is. event_only rows line e small is.0 is.1)
