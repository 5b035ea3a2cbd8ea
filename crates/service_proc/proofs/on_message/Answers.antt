-- What holds of each side of a second bearer holds of the one that came.
use Rattle.service_proc.proofs.on_message.Goals as goal

pub returns-in-ContextDone : goal.returns-in-ContextDone
returns-in-ContextDone c = rw c.in-ContextDone.is (c.context_done.ensures c.in-ContextDone.second)
