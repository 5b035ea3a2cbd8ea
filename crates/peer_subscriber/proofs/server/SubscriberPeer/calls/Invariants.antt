use Rattle.std.proofs.Common.{◌≡◌, take}
use Rattle.peer_subscriber.proofs.server.SubscriberPeer.calls.Given as goal

abbrev pub invariant-loop-call : goal.invariant-loop-call
invariant-loop-call l = l.calls ≡ take l.call-index l.call-items
