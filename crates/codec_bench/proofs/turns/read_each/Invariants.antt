use Rattle.std.proofs.Common.{◌≡◌}
use Rattle.codec_bench.proofs.turns.read_each.Given as goal

abbrev pub invariant-loop-sample : goal.invariant-loop-sample
invariant-loop-sample l = l.count ≡ l.sample-index
