use Rattle.schedule_laws.specs.Answer.{history}
use Rattle.schedule_laws.specs.Promise.{setting}
use Rattle.schedule_laws.specs.Answer.{answer}
use Rattle.schedule_laws.proofs.Promises.{lawful, void_stays}
use Rattle.std.proofs.Common.{refl}
use Rattle.schedule_laws.proofs.every_schedule.void_changes_nothing.Goals as goal

pub returns : goal.returns
returns c =
    let s = setting c.args._rows.now c.args._book.now c.args._replicas in
    let L = lawful s c.args._events.now c.requires in
    let H = history s c.args._events.now in
    λ e v. void_stays s H e (answer s H e) L refl v
