use Rattle.schedule_laws.specs.Answer.{history}
use Rattle.schedule_laws.specs.Promise.{setting}
use Rattle.schedule_laws.proofs.Laws.{sent_bound, acked_bound, taken_bound}
use Rattle.schedule_laws.proofs.Promises.{lawful, reply_where}
use Rattle.schedule_laws.proofs.every_schedule.window_holds.Goals as goal

pub returns-clause-sent : goal.returns-clause-sent
returns-clause-sent c =
    let s = setting c.args._rows.now c.args._book.now c.args._replicas in
    let L = lawful s c.args._events.now c.requires in
    let H = history s c.args._events.now in
    λ d n h. let b = sent_bound s d n H L h in (b.1, b.2, b.3)

pub returns-clause-acked : goal.returns-clause-acked
returns-clause-acked c =
    let s = setting c.args._rows.now c.args._book.now c.args._replicas in
    let L = lawful s c.args._events.now c.requires in
    let H = history s c.args._events.now in
    λ d. acked_bound s d H L

pub returns-clause-taken : goal.returns-clause-taken
returns-clause-taken c =
    let s = setting c.args._rows.now c.args._book.now c.args._replicas in
    let L = lawful s c.args._events.now c.requires in
    let H = history s c.args._events.now in
    λ d. taken_bound s d H L

pub returns-clause-replies : goal.returns-clause-replies
returns-clause-replies c =
    let s = setting c.args._rows.now c.args._book.now c.args._replicas in
    let L = lawful s c.args._events.now c.requires in
    let H = history s c.args._events.now in
    λ d n low. reply_where s d n H L low
