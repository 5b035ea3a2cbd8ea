use Rattle.schedule_laws.specs.Answer.{history}
use Rattle.schedule_laws.specs.Promise.{setting}
use Rattle.schedule_laws.proofs.Promises.{lawful, message_carried, effect_carried, reply_carried, answer_carried}
use Rattle.schedule_laws.proofs.every_schedule.links_carry_contents.Goals as goal

pub returns-clause-messages : goal.returns-clause-messages
returns-clause-messages c =
    let s = setting c.args._rows.now c.args._book.now c.args._replicas in
    let L = lawful s c.args._events.now c.requires in
    let H = history s c.args._events.now in
    λ d n h. message_carried s d n H L h

pub returns-clause-replies : goal.returns-clause-replies
returns-clause-replies c =
    let s = setting c.args._rows.now c.args._book.now c.args._replicas in
    let L = lawful s c.args._events.now c.requires in
    let H = history s c.args._events.now in
    λ d n low h. reply_carried s d n H L low h

pub returns-clause-effects : goal.returns-clause-effects
returns-clause-effects c =
    let s = setting c.args._rows.now c.args._book.now c.args._replicas in
    let L = lawful s c.args._events.now c.requires in
    let H = history s c.args._events.now in
    λ d l k h. effect_carried s d l k H L h

pub returns-clause-answers : goal.returns-clause-answers
returns-clause-answers c =
    let s = setting c.args._rows.now c.args._book.now c.args._replicas in
    let L = lawful s c.args._events.now c.requires in
    let H = history s c.args._events.now in
    λ d l k low h. answer_carried s d l k H L low h
