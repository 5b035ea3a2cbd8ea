use Rattle.std.proofs.Common.{◌≡◌}
use Rattle.std.specs.Prelude.{fold}
use Rattle.std.specs.Vec.Iter.{into_iter_items}
use Rattle.device_machine.specs.Ends.{with_effect}
use Rattle.device_machine.proofs.ends.Lanes.put_all.Given as goal

abbrev pub invariant-loop-effect : goal.invariant-loop-effect
invariant-loop-effect l = fold with_effect l.self (into_iter_items l.effect-iterator) ≡ fold with_effect l.initial.self l.fn.effects
