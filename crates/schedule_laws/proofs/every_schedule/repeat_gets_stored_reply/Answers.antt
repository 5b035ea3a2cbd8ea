use Rattle.schedule_laws.specs.Answer.{history}
use Rattle.schedule_laws.specs.Promise.{setting}
use Rattle.schedule_laws.proofs.Promises.{lawful, reply_there, reply_alone, repeat_carried}
use Rattle.schedule_laws.proofs.every_schedule.repeat_gets_stored_reply.Goals as goal

pub returns-clause-stored : goal.returns-clause-stored
returns-clause-stored c =
    let s = setting c.args._rows.now c.args._book.now c.args._replicas in
    let L = lawful s c.args._events.now c.requires in
    let H = history s c.args._events.now in
    λ d n low high. reply_there s d n H low high

pub returns-clause-reply : goal.returns-clause-reply
returns-clause-reply c =
    let s = setting c.args._rows.now c.args._book.now c.args._replicas in
    let L = lawful s c.args._events.now c.requires in
    let H = history s c.args._events.now in
    λ d n low high. reply_alone s d n H low high

pub returns-clause-gets : goal.returns-clause-gets
returns-clause-gets c =
    let s = setting c.args._rows.now c.args._book.now c.args._replicas in
    let L = lawful s c.args._events.now c.requires in
    let H = history s c.args._events.now in
    λ r d n i a. repeat_carried s H r d n L i a
