use Rattle.std.proofs.Common.{◌≡◌, None, map, drop, string_bytes}
use Rattle.command_words.specs.Options.{all_fit}
use Rattle.command_words.proofs.options.all_fit.Given as goal

abbrev pub invariant-loop-word : goal.invariant-loop-word
invariant-loop-word l = all_fit l.options l.waiting (map string_bytes (drop l.word-index l.words)) ≡ all_fit l.options None (map string_bytes l.words)
