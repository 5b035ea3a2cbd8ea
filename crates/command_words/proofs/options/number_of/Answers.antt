use Rattle.std.proofs.Common.{sym, arith}
use Rattle.command_words.proofs.Words.{value_is_text, too_large}
use Rattle.command_words.proofs.options.number_of.Goals as goal

pub returns-in_default-clause-value : goal.returns-in_default-clause-value
returns-in_default-clause-value c = absurd (c.in_default.ensures.cases.0 (value_is_text _ (sym c.if-not-is_value.ensures)))

pub returns-in_default-parse-clause-value : goal.returns-in_default-parse-clause-value
returns-in_default-parse-clause-value c =
    too_large c.args.least c.args.most _ c.args.text.now _ _ (omega arith) (sym c.if-not-is_value.ensures) c.in-Ok.ensures.cases.0 c.parse.ensures.value.0 c.in_default-parse.is
