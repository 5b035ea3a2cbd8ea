use Rattle.std.proofs.Common.{◌≡◌, take, map}
use Rattle.std.specs.Arc.{arc_value}
use Rattle.link_schedule.specs.World.{fresh_window}
use Rattle.link_schedule.proofs.opening.agents_of.Given as goal

abbrev pub invariant-loop-line : goal.invariant-loop-line
invariant-loop-line l = l.agents.items ≡ map fresh_window (map arc_value (take l.line-index l.lines))
