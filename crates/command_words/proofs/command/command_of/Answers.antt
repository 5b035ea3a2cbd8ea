use Rattle.std.proofs.Common.{map, string_bytes}
use Rattle.command_words.specs.Command.{command_of}
use Rattle.command_words.proofs.Own.{none_of_replay}
use Rattle.command_words.proofs.command.command_of.Goals as goal

pub returns-in_err-command-clause-usage : goal.returns-in_err-command-clause-usage
unfolding command_of
returns-in_err-command-clause-usage c = λ none. let never = c.in_err-command.ensures.usage (none_of_replay (map string_bytes c.args.words.now) none) in cc
