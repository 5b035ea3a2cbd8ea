use Rattle.std.proofs.Common.{◌≡◌, ◌-◌}
use Rattle.std.specs.List.{flat_map, range_with_len}
use Rattle.trace_gen.specs.Draws.{state_after}
use Rattle.trace_gen.specs.Trace.{sent_at}
use Rattle.trace_gen.proofs.trace.made_trace.Given as goal

abbrev pub invariant-loop-visit : goal.invariant-loop-visit
invariant-loop-visit l = record {
  sent : l.sent.items ≡ flat_map (sent_at l.initial.draws.state l.devices) (range_with_len 0 l.visit);
  state : l.draws.state ≡ state_after l.initial.draws.state (l.visit - l.devices);
}
