use Rattle.std.proofs.Common.{◌≡◌, ◌++◌, drop}
use Rattle.crash_run.specs.Text.{shares_of}
use Rattle.crash_run.proofs.kept.shares_of.Given as goal

abbrev pub invariant-loop-count : goal.invariant-loop-count
invariant-loop-count l = l.shares.items ++ shares_of l.left (drop l.count-index l.counts) ≡ shares_of l.first l.counts
