use Rattle.std.proofs.Common.{subst, arith}
use Rattle.front_lock.specs.FrontRow.{SpeaksOnAll}
use Rattle.shared_cases.proofs.Seats.{two_speak}
use Rattle.shared_cases.proofs.offer_turns.closed.Goals as goal

pub close-requires-clause-all : goal.close-requires-clause-all
close-requires-clause-all c =
    two_speak (λ n. SpeaksOnAll n c.join.new.into.seats.items) c.args.peers.seats (omega (arith, c.seats.ensures, c.if-seats-ne2.false))
    (c.join.ensures.keeps 0 (subst (λ n. SpeaksOnAll n c.args.into.seats.items) (omega (arith, c.if-number-ne0.false)) c.number.ensures.speaks))
    (c.join.ensures.gains 1 (subst (λ n. SpeaksOnAll n c.args.from.seats.items) (omega (arith, c.if-number-ne1.false)) c.number-else-number-ne0.ensures.speaks))
