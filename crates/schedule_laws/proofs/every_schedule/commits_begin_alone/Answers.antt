use Rattle.schedule_laws.specs.Answer.{history}
use Rattle.schedule_laws.specs.Promise.{setting}
use Rattle.schedule_laws.proofs.Laws.{version_is}
use Rattle.schedule_laws.proofs.Promises.{lawful, journal_alone}
use Rattle.schedule_laws.proofs.every_schedule.commits_begin_alone.Goals as goal

pub returns-clause-version : goal.returns-clause-version
returns-clause-version c =
    let s = setting c.args._rows.now c.args._book.now c.args._replicas in
    let L = lawful s c.args._events.now c.requires in
    let H = history s c.args._events.now in
    λ d. version_is s d H L

pub returns-clause-steps : goal.returns-clause-steps
returns-clause-steps c =
    let s = setting c.args._rows.now c.args._book.now c.args._replicas in
    let L = lawful s c.args._events.now c.requires in
    let H = history s c.args._events.now in
    λ d. journal_alone s d H L
