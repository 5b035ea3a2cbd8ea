use Rattle.std.proofs.Common.{◌≡◌, drop}
use Rattle.std.specs.Prelude.{slice_get}
use Rattle.device_types.specs.Journal.{effects_of}
use Rattle.pool_ends.proofs.lanes.effect_of.Given as goal

abbrev pub invariant-loop-entry : goal.invariant-loop-entry
invariant-loop-entry l = slice_get (effects_of l.lane (drop l.entry-index l.journal)) l.left ≡ slice_get (effects_of l.lane l.journal) l.at
