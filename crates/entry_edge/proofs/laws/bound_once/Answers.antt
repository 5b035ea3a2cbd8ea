use Rattle.entry_edge.proofs.BoundLaws.{bound_to}
use Rattle.entry_edge.proofs.StepLaws.{one_place}
use Rattle.entry_edge.proofs.laws.bound_once.Goals as goal

pub returns-clause-device : goal.returns-clause-device
returns-clause-device c = λ H pair d e one other. let at = bound_to pair d H one in let to = bound_to pair e H other in cc

pub returns-clause-pair : goal.returns-clause-pair
returns-clause-pair c = λ H p q d one other. one_place H p q d (bound_to p d H one) (bound_to q d H other)
