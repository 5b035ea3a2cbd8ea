use Rattle.std.specs.Prelude.{◌≡◌, length}
use Rattle.device_types.specs.Line.{IsLine}
use Rattle.pool_cases.proofs.long.services.Given as goal

abbrev pub invariant-loop-index : goal.invariant-loop-index
invariant-loop-index l = (length l.line ≡ l.index) × IsLine l.line
