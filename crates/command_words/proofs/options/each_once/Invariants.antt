use Rattle.std.proofs.Common.{◌≡◌, map, string_bytes, length}
use Rattle.command_words.specs.Options.{each_once}
use Rattle.command_words.proofs.options.each_once.Given as goal

abbrev pub invariant-loop-left : goal.invariant-loop-left
invariant-loop-left l = each_once (map string_bytes l.left) ≡ each_once (map string_bytes l.words)

abbrev pub decreases-loop-left : goal.decreases-loop-left
decreases-loop-left l = length l.left
