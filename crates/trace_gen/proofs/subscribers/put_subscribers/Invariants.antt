use Rattle.std.proofs.Common.{◌≡◌, ◌++◌}
use Rattle.std.specs.Prelude.{string_bytes}
use Rattle.std.specs.List.{flat_map, range_with_len}
use Rattle.trace_gen.specs.Made.{ended}
use Rattle.trace_gen.specs.Subscribers.{subscriber_line}
use Rattle.trace_gen.proofs.subscribers.put_subscribers.Given as goal

abbrev pub invariant-loop-before : goal.invariant-loop-before
invariant-loop-before l = string_bytes l.text ≡ string_bytes l.initial.text ++ flat_map (λ device. ended (subscriber_line device)) (range_with_len 1 l.before)
