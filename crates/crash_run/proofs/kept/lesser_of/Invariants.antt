use Rattle.std.proofs.Common.{◌≡◌, ◌-◌, take}
use Rattle.crash_run.specs.Text.{total_of}
use Rattle.crash_run.proofs.kept.lesser_of.Given as goal

abbrev pub invariant-loop-count : goal.invariant-loop-count
invariant-loop-count l = l.left ≡ l.number - total_of (take l.count-index l.counts)
