use Rattle.std.proofs.Common.{◌≡◌, length, map, take}
use Rattle.crash_run.specs.Made.{alone_each}
use Rattle.crash_run.proofs.maker.AloneMaker.counts.Given as goal

abbrev pub invariant-loop-index : goal.invariant-loop-index
invariant-loop-index l = l.counts.items ≡ map length (take l.index (alone_each l.self.rows l.self.lines))
