use Rattle.std.proofs.Common.{◌≡◌, drop}
use Rattle.std.specs.Prelude.{fold}
use Rattle.pool_ends.specs.Ends.{with_effect}
use Rattle.pool_ends.proofs.ends.put_effects.Given as goal

abbrev pub invariant-loop-effect : goal.invariant-loop-effect
invariant-loop-effect l = fold with_effect l.end (drop l.effect-index l.effects) ≡ fold with_effect l.initial.end l.effects
