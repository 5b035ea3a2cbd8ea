use Rattle.std.proofs.Common.{◌≡◌}
use Rattle.std.specs.Prelude.{All}
use Rattle.epoch_cases.proofs.epoch_agents_calls.world_of.Given as goal

abbrev pub invariant-loop-label : goal.invariant-loop-label
invariant-loop-label l = All (λ stream. stream.line.acked ≡ 0) l.streams.items
