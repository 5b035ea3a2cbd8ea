use Rattle.std.proofs.Common.{sym, subst}
use Rattle.std.specs.Prelude.{All}
use Rattle.device_types.specs.Subscriber.{IsSubscriber}
use Rattle.echo_run.proofs.answer.epochs.Goals as goal

pub device_text-requires-clause-rows : goal.device_text-requires-clause-rows
device_text-requires-clause-rows c = subst (All IsSubscriber) (sym c.rows.ensures.rows) c.rows.ensures.table.ranges

pub device_text-requires-clause-lines : goal.device_text-requires-clause-lines
device_text-requires-clause-lines c = c.in_ok-admitted.ensures.short
