use Rattle.std.proofs.Common.{◌≡◌, ◌++◌, drop}
use Rattle.std.specs.Prelude.{string_bytes}
use Rattle.trace_gen.specs.Made.{events_text}
use Rattle.trace_gen.proofs.events.put_events.Given as goal

abbrev pub invariant-loop-event : goal.invariant-loop-event
invariant-loop-event l = string_bytes l.text ++ events_text (drop l.event-index l.events) ≡ string_bytes l.initial.text ++ events_text l.events
