use Rattle.std.proofs.Common.{arith}
use Rattle.std.proofs.lemmas.Grind.{common_steps}
use Rattle.trace_gen.specs.Made.{ended}
use Rattle.trace_gen.specs.Subscribers.{subscriber_line}
use Rattle.trace_gen.proofs.Ranges.{from_one}
use Rattle.trace_gen.proofs.subscribers.put_subscribers.Goals as goal

pub loop-before-preserved : goal.loop-before-preserved
loop-before-preserved c = rw (from_one (λ device. ended (subscriber_line device)) c.loop-before.before) (grind (arith, common_steps))
