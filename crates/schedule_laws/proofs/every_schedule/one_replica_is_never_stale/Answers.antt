use Rattle.std.proofs.Common.{lit≤}
use Rattle.schedule_laws.specs.Answer.{history}
use Rattle.schedule_laws.specs.Promise.{setting}
use Rattle.schedule_laws.proofs.Promises.{lawful, never_stale}
use Rattle.schedule_laws.proofs.every_schedule.one_replica_is_never_stale.Goals as goal

pub returns : goal.returns
returns c =
    let s = setting c.args._rows.now c.args._book.now 1 in
    let L = lawful s c.args._events.now c.requires in
    let H = history s c.args._events.now in
    λ r v w low. never_stale s H r v w L (lit≤ tt) low
