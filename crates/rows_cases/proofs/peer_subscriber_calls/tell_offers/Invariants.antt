use Rattle.std.proofs.Common.{◌≡◌, length}
use Rattle.rows_cases.proofs.peer_subscriber_calls.tell_offers.Given as goal

abbrev pub invariant-loop-offer : goal.invariant-loop-offer
invariant-loop-offer l = length l.peer ≡ 2
