use Rattle.schedule_laws.specs.Answer.{answer, history}
use Rattle.schedule_laws.specs.Promise.{setting}
use Rattle.schedule_laws.proofs.Laws.{journal_more, sent_more, received_more}
use Rattle.schedule_laws.proofs.Promises.{acked_more, accepted_more, settled_more, reply_more, pushed_more}
use Rattle.schedule_laws.proofs.every_schedule.nothing_is_taken_back.Goals as goal

pub returns-clause-journal : goal.returns-clause-journal
returns-clause-journal c =
    let s = setting c.args._rows.now c.args._book.now c.args._replicas in
    let H = history s c.args._events.now in
    λ d e. journal_more s d (e, answer s H e) H

pub returns-clause-acked : goal.returns-clause-acked
returns-clause-acked c =
    let s = setting c.args._rows.now c.args._book.now c.args._replicas in
    let H = history s c.args._events.now in
    λ d e. acked_more d (e, answer s H e) H

pub returns-clause-accepted : goal.returns-clause-accepted
returns-clause-accepted c =
    let s = setting c.args._rows.now c.args._book.now c.args._replicas in
    let H = history s c.args._events.now in
    λ d l e. accepted_more d l (e, answer s H e) H

pub returns-clause-settled : goal.returns-clause-settled
returns-clause-settled c =
    let s = setting c.args._rows.now c.args._book.now c.args._replicas in
    let H = history s c.args._events.now in
    λ d l e. settled_more d l (e, answer s H e) H

pub returns-clause-messages : goal.returns-clause-messages
returns-clause-messages c =
    let s = setting c.args._rows.now c.args._book.now c.args._replicas in
    let H = history s c.args._events.now in
    λ d n e h. sent_more d n (e, answer s H e) H h

pub returns-clause-replies : goal.returns-clause-replies
returns-clause-replies c =
    let s = setting c.args._rows.now c.args._book.now c.args._replicas in
    let H = history s c.args._events.now in
    λ d n e h. reply_more d n (e, answer s H e) H h

pub returns-clause-effects : goal.returns-clause-effects
returns-clause-effects c =
    let s = setting c.args._rows.now c.args._book.now c.args._replicas in
    let H = history s c.args._events.now in
    λ d l k e h. pushed_more d l k (e, answer s H e) H h

pub returns-clause-answers : goal.returns-clause-answers
returns-clause-answers c =
    let s = setting c.args._rows.now c.args._book.now c.args._replicas in
    let H = history s c.args._events.now in
    λ d l k e h. received_more d l k (e, answer s H e) H h
