use Rattle.std.proofs.Common.{◌≡◌, map, take}
use Rattle.peer_gateway.specs.Counted.{call_in}
use Rattle.peer_gateway.proofs.gateway.Gateway.calls.Given as goal

abbrev pub invariant-loop-counted : goal.invariant-loop-counted
invariant-loop-counted l = l.calls ≡ map call_in (take l.counted-index l.counted-items)
