use Rattle.std.proofs.Common.{◌≡◌, ◌++◌, drop, map}
use Rattle.trace_gen.specs.Trace.{sent_in}
use Rattle.trace_gen.proofs.trace.put_script.Given as goal

abbrev pub invariant-loop-sending : goal.invariant-loop-sending
invariant-loop-sending l = l.sent.items ++ map (λ sending. record { device = l.device; sending = sending }) (drop l.sending-index l.sending-items) ≡ l.initial.sent.items ++ sent_in l.device l.fn.script
