use Rattle.std.proofs.Common.{◌≡◌, count_by, take}
use Rattle.codec_bench.specs.Sample.{is_as_written}
use Rattle.codec_bench.proofs.turns.count_as_written.Given as goal

abbrev pub invariant-loop-sample : goal.invariant-loop-sample
invariant-loop-sample l = l.count ≡ count_by is_as_written (take l.sample-index l.samples)
