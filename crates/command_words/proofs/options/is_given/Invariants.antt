use Rattle.std.proofs.Common.{◌≡◌, map, drop, string_bytes}
use Rattle.command_words.specs.Options.{is_given}
use Rattle.command_words.proofs.options.is_given.Given as goal

abbrev pub invariant-loop-word : goal.invariant-loop-word
invariant-loop-word l = is_given (map string_bytes (drop l.word-index l.words)) l.name ≡ is_given (map string_bytes l.words) l.name
