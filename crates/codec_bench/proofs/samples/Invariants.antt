use Rattle.std.proofs.Common.{All}
use Rattle.codec_bench.specs.Sample.{IsSample}
use Rattle.codec_bench.proofs.samples.Given as goal

abbrev pub invariant-loop-line : goal.invariant-loop-line
invariant-loop-line l = All IsSample l.samples.items
