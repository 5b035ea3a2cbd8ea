use Rattle.std.proofs.Common.{◌≡◌, ◌++◌, drop}
use Rattle.std.specs.Prelude.{string_bytes}
use Rattle.std.specs.List.{flat_map}
use Rattle.trace_gen.specs.Made.{ended}
use Rattle.trace_gen.specs.Messages.{trace_line}
use Rattle.trace_gen.proofs.made.put_trace.Given as goal

abbrev pub invariant-loop-sent : goal.invariant-loop-sent
invariant-loop-sent l = string_bytes l.text ++ flat_map (λ sent. ended (trace_line sent)) (drop l.sent-index l.trace) ≡ string_bytes l.initial.text ++ flat_map (λ sent. ended (trace_line sent)) l.trace
