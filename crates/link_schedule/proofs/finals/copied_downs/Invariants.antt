use Rattle.std.proofs.Common.{◌≡◌, take}
use Rattle.link_schedule.proofs.finals.copied_downs.Given as goal

abbrev pub invariant-loop-down : goal.invariant-loop-down
invariant-loop-down l = l.copies ≡ take l.down-index l.downs
