use Rattle.std.proofs.Common.{◌≡◌, ◌*◌, length}
use Rattle.codec_bench.proofs.turns.read_turns.Given as goal

abbrev pub invariant-loop : goal.invariant-loop
invariant-loop l = l.count ≡ l.counter * length l.samples
