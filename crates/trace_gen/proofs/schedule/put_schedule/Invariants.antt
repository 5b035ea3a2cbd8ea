use Rattle.std.proofs.Common.{◌≡◌, [], ◌++◌, take, drop}
use Rattle.std.specs.Prelude.{string_bytes}
use Rattle.trace_gen.specs.Draws.{state_after}
use Rattle.trace_gen.specs.Made.{events_text}
use Rattle.trace_gen.specs.Schedule.{schedule_behind}
use Rattle.trace_gen.specs.State.{AreCounts}
use Rattle.trace_gen.proofs.schedule.put_schedule.Given as goal

abbrev pub invariant-loop-sent : goal.invariant-loop-sent
invariant-loop-sent l = record {
  text : string_bytes l.text ++ events_text (schedule_behind l.initial.draws.state (take l.sent-index l.trace) (drop l.sent-index l.trace)) ≡ string_bytes l.initial.text ++ events_text (schedule_behind l.initial.draws.state [] l.trace);
  state : l.draws.state ≡ state_after l.initial.draws.state l.sent-index;
  counts : AreCounts l.devices (take l.sent-index l.trace) l.counts;
}
