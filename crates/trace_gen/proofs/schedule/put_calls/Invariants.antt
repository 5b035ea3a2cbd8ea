use Rattle.std.proofs.Common.{◌≡◌, ◌+◌, ◌^◌, ◌<◌, ◌++◌, length, drop}
use Rattle.std.specs.Prelude.{string_bytes, fold}
use Rattle.trace_gen.specs.Made.{events_text}
use Rattle.trace_gen.specs.Schedule.{with_call, calls_events}
use Rattle.trace_gen.proofs.schedule.put_calls.Given as goal

abbrev pub invariant-loop-call : goal.invariant-loop-call
invariant-loop-call l = record {
  text : string_bytes l.text ++ events_text (calls_events l.r l.d l.counts (drop l.call-index l.calls)) ≡ string_bytes l.initial.text ++ events_text (calls_events l.r l.d l.initial.counts l.calls);
  counts : fold with_call l.counts (drop l.call-index l.calls) ≡ fold with_call l.initial.counts l.calls;
  gateway : l.counts.gateway + length (drop l.call-index l.calls) < 2 ^ 64;
  subscriber : l.counts.subscriber + length (drop l.call-index l.calls) < 2 ^ 64;
}
