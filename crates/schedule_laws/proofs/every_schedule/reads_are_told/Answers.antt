use Rattle.schedule_laws.specs.Answer.{history}
use Rattle.schedule_laws.specs.Promise.{setting}
use Rattle.schedule_laws.proofs.Promises.{lawful}
use Rattle.schedule_laws.proofs.Told.{read_of_message, read_of_answer}
use Rattle.schedule_laws.proofs.every_schedule.reads_are_told.Goals as goal

pub returns-clause-messages : goal.returns-clause-messages
returns-clause-messages c =
    let s = setting c.args._rows.now c.args._book.now c.args._replicas in
    let H = history s c.args._events.now in
    λ r d n a low i. read_of_message s H r d n a low i

pub returns-clause-answers : goal.returns-clause-answers
returns-clause-answers c =
    let s = setting c.args._rows.now c.args._book.now c.args._replicas in
    let L = lawful s c.args._events.now c.requires in
    let H = history s c.args._events.now in
    λ r d l k a low i. read_of_answer s H r d l k a L low i
