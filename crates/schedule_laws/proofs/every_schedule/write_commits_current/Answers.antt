use Rattle.schedule_laws.specs.Answer.{history}
use Rattle.schedule_laws.specs.Promise.{setting}
use Rattle.schedule_laws.proofs.Promises.{lawful, step_is_next}
use Rattle.schedule_laws.proofs.every_schedule.write_commits_current.Goals as goal

pub returns-clause-step : goal.returns-clause-step
returns-clause-step c =
    let s = setting c.args._rows.now c.args._book.now c.args._replicas in
    let L = lawful s c.args._events.now c.requires in
    let H = history s c.args._events.now in
    λ r d v what h. step_is_next s H r d v what L h
