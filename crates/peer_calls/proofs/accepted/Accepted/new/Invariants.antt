use Rattle.std.proofs.Common.{◌≡◌, [], replicate}
use Rattle.peer_calls.proofs.accepted.Accepted.new.Given as goal

abbrev pub invariant-loop-i : goal.invariant-loop-i
invariant-loop-i g l = l.lists.items ≡ replicate l._i []
