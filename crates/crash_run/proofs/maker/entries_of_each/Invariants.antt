use Rattle.std.proofs.Common.{◌≡◌, take}
use Rattle.crash_run.specs.Made.{alone_each}
use Rattle.crash_run.proofs.maker.entries_of_each.Given as goal

abbrev pub invariant-loop-index : goal.invariant-loop-index
invariant-loop-index l = l.entries.items ≡ take l.index (alone_each l.table l.book)
