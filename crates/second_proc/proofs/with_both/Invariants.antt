use Rattle.std.proofs.Common.{◌≡◌, ◌++◌}
use Rattle.std.specs.Prelude.{map}
use Rattle.std.specs.Vec.Iter.{into_iter_items}
use Rattle.device_types.specs.Second.{with_both}
use Rattle.second_proc.proofs.with_both.Given as goal

abbrev pub invariant-loop-effect : goal.invariant-loop-effect
invariant-loop-effect l = l.both ++ map (with_both l.fn.session) (into_iter_items l.effect-iterator) ≡ map (with_both l.fn.session) l.fn.effects
