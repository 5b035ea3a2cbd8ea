use Rattle.session_form.proofs.Sessions.{one_session, one_place, not_both, either_holds}
use Rattle.session_form.proofs.laws.one_answer.Goals as goal

pub returns-clause-session : goal.returns-clause-session
returns-clause-session c = one_session

pub returns-clause-place : goal.returns-clause-place
returns-clause-place c = one_place

pub returns-clause-not_both : goal.returns-clause-not_both
returns-clause-not_both c = not_both

pub returns-clause-either : goal.returns-clause-either
returns-clause-either c = either_holds
