use Rattle.std.proofs.Common.{vec_len}
use Rattle.front_lock.proofs.Columns.{Filling}
use Rattle.front_lock.proofs.fronts.add_fronts.Given as goal

abbrev pub invariant-loop-value : goal.invariant-loop-value
invariant-loop-value g l = Filling g.T.Held.basis g.T.Held.turns l.fn.values.items l.seats l.values.items l.fronts.items l.made.items

abbrev pub decreases-loop-value : goal.decreases-loop-value
decreases-loop-value g l = vec_len l.values
