use Rattle.std.proofs.Common.{◌≡◌}
use Rattle.std.specs.Prelude.{map}
use Rattle.std.specs.List.{range_with_len}
use Rattle.link_schedule.specs.Finals.{end_in}
use Rattle.link_schedule.proofs.world.World.finals.Given as goal

abbrev pub invariant-loop-index : goal.invariant-loop-index
invariant-loop-index l = l.finals ≡ map (end_in l.self) (range_with_len 1 l.index)
