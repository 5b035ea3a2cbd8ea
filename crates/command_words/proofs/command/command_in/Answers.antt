use Rattle.std.proofs.Common.{sym, subst, rules}
use Rattle.command_words.specs.Command.{IsAnyInLimits}
use Rattle.command_words.proofs.Words.{in_limits}
use Rattle.command_words.proofs.command.command_in.Goals as goal

pub returns-clause-limits : goal.returns-clause-limits
returns-clause-limits c = subst IsAnyInLimits (sym c.in_ok-command.ensures) (in_limits c.in-Some.word _ (search rules))
