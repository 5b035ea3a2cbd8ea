use Rattle.replica_worker.proofs.May.{may_still}
use Rattle.replica_worker.proofs.laws.more_known_keeps.Goals as goal

pub returns : goal.returns
returns c = λ charter devices known more b m. may_still charter devices known more c.args._hand.now b m
