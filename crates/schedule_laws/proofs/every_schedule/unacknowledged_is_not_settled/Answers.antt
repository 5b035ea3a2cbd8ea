use Rattle.schedule_laws.specs.Answer.{history}
use Rattle.schedule_laws.specs.Promise.{setting}
use Rattle.schedule_laws.proofs.Promises.{lawful, never_settled}
use Rattle.schedule_laws.proofs.every_schedule.unacknowledged_is_not_settled.Goals as goal

pub returns : goal.returns
returns c =
    let s = setting c.args._rows.now c.args._book.now c.args._replicas in
    let L = lawful s c.args._events.now c.requires in
    let H = history s c.args._events.now in
    λ r d n i more. never_settled s H r d n L i more
