use Rattle.schedule_laws.specs.Answer.{history}
use Rattle.schedule_laws.specs.Promise.{setting}
use Rattle.schedule_laws.proofs.Laws.{accepted_bound, settled_bound}
use Rattle.schedule_laws.proofs.Promises.{lawful, accepted_alone, received_where}
use Rattle.schedule_laws.proofs.every_schedule.accepts_begin_alone.Goals as goal

pub returns-clause-made : goal.returns-clause-made
returns-clause-made c =
    let s = setting c.args._rows.now c.args._book.now c.args._replicas in
    let L = lawful s c.args._events.now c.requires in
    let H = history s c.args._events.now in
    λ d l. accepted_bound s d l H L

pub returns-clause-effects : goal.returns-clause-effects
returns-clause-effects c =
    let s = setting c.args._rows.now c.args._book.now c.args._replicas in
    let L = lawful s c.args._events.now c.requires in
    let H = history s c.args._events.now in
    λ d l. accepted_alone s d l H L

pub returns-clause-received : goal.returns-clause-received
returns-clause-received c =
    let s = setting c.args._rows.now c.args._book.now c.args._replicas in
    let L = lawful s c.args._events.now c.requires in
    let H = history s c.args._events.now in
    λ d l k low. received_where s d l k H L low

pub returns-clause-settled : goal.returns-clause-settled
returns-clause-settled c =
    let s = setting c.args._rows.now c.args._book.now c.args._replicas in
    let L = lawful s c.args._events.now c.requires in
    let H = history s c.args._events.now in
    λ d l. settled_bound s d l H L
