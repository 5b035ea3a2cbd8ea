use Rattle.std.proofs.Common.{length, sym, ap, ◌∙◌}
use Rattle.echo_run.proofs.answer.crash.Goals as goal

pub crash_text-requires-clause-lines : goal.crash_text-requires-clause-lines
crash_text-requires-clause-lines c = c.in_ok-admitted.ensures.each ∙ ap length (sym c.table.ensures.value)

pub crash_text-requires-clause-short : goal.crash_text-requires-clause-short
crash_text-requires-clause-short c = c.in_ok-admitted.ensures.short
