use Rattle.std.proofs.Common.{◌≡◌}
use Rattle.front_lock.specs.Front.{IsSeatOf}
use Rattle.front_cases.proofs.threads.add_below.Given as goal

abbrev pub invariant-loop-amount : goal.invariant-loop-amount
invariant-loop-amount g l = IsSeatOf (λ t. t.most) l.front l.seat
