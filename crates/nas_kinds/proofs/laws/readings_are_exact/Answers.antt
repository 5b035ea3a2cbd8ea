use Rattle.nas_kinds.proofs.Exact.{message_exact, refusal_exact}
use Rattle.nas_kinds.proofs.laws.readings_are_exact.Goals as goal

pub returns-clause-message : goal.returns-clause-message
returns-clause-message c = message_exact

pub returns-clause-refusal : goal.returns-clause-refusal
returns-clause-refusal c = refusal_exact
