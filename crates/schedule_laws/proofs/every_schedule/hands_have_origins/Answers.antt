use Rattle.schedule_laws.specs.Answer.{answer, history}
use Rattle.schedule_laws.specs.Counts.{hand}
use Rattle.schedule_laws.specs.Promise.{setting}
use Rattle.schedule_laws.proofs.Origins.{held_is, ready_is, nothing_is, ended}
use Rattle.schedule_laws.proofs.every_schedule.hands_have_origins.Goals as goal

pub returns-clause-held : goal.returns-clause-held
returns-clause-held c =
    let s = setting c.args._rows.now c.args._book.now c.args._replicas in
    let H = history s c.args._events.now in
    λ r d what. held_is r d what H

pub returns-clause-ready : goal.returns-clause-ready
returns-clause-ready c =
    let s = setting c.args._rows.now c.args._book.now c.args._replicas in
    let H = history s c.args._events.now in
    λ r d v what. ready_is r d what v H

pub returns-clause-nothing : goal.returns-clause-nothing
returns-clause-nothing c =
    let s = setting c.args._rows.now c.args._book.now c.args._replicas in
    let H = history s c.args._events.now in
    λ r. nothing_is r H

pub returns-clause-ended : goal.returns-clause-ended
returns-clause-ended c =
    let s = setting c.args._rows.now c.args._book.now c.args._replicas in
    let H = history s c.args._events.now in
    λ r e is. ended r (e, answer s H e) (hand r H) is
