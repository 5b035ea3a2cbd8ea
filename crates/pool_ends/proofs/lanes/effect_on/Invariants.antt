use Rattle.std.proofs.Common.{◌≡◌, drop}
use Rattle.std.specs.Prelude.{slice_get}
use Rattle.device_types.specs.Journal.{effects_on}
use Rattle.pool_ends.proofs.lanes.effect_on.Given as goal

abbrev pub invariant-loop-effect : goal.invariant-loop-effect
invariant-loop-effect l = slice_get (effects_on l.lane (drop l.effect-index l.effects)) l.left ≡ slice_get (effects_on l.lane l.effects) l.at
