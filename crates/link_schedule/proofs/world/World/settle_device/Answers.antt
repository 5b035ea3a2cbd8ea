use Rattle.std.proofs.Common.{◌≡◌, arith}
use Rattle.schedule_laws.specs.Setting.{entries_of}
use Rattle.link_schedule.specs.Settled.{journal_in}
use Rattle.link_schedule.proofs.Goes.{done_of, done_stays, lane_clear, pays_trans, spent_grows}
use Rattle.link_schedule.proofs.world.World.settle_device.Goals as goal

pub returns-clause-ok : goal.returns-clause-ok
returns-clause-ok c =
    let d = c.args.d.0 in
    let a = c.advance.new.self in
    let b = c.deliver_all.new.self in
    let e = c.clear_all.new.self in
    let all : journal_in a d ≡ entries_of a.setting d = rw c.if-branch.false at c.in_ok-advance.ensures.ok in
    let done = done_of a b d c.in_ok-deliver_all.ensures.goes_on all c.in_ok-deliver_all.ensures.down c.in_ok-deliver_all.ensures.gateway c.in_ok-deliver_all.ensures.subscriber in
    done_stays b e d c.clear_all.ensures.goes_on c.recall.ensures done

pub returns-clause-clear : goal.returns-clause-clear
returns-clause-clear c =
    let d = c.args.d.0 in
    let a = c.advance.new.self in
    let b = c.deliver_all.new.self in
    let e = c.clear_all.new.self in
    let all : journal_in a d ≡ entries_of a.setting d = rw c.if-branch.false at c.in_ok-advance.ensures.ok in
    let done = done_of a b d c.in_ok-deliver_all.ensures.goes_on all c.in_ok-deliver_all.ensures.down c.in_ok-deliver_all.ensures.gateway c.in_ok-deliver_all.ensures.subscriber in
    let still = done_stays b e d c.clear_all.ensures.goes_on c.recall.ensures done in
    λ l. lane_clear b e d l c.clear_all.ensures.goes_on c.recall.ensures done still (c.clear_all.ensures.clear l)

pub returns-clause-pays : goal.returns-clause-pays
returns-clause-pays c =
    let d = c.args.d.0 in
    let a = c.advance.new.self in
    let b = c.deliver_all.new.self in
    let e = c.clear_all.new.self in
    let paid = pays_trans c.args.self.now a b d (pays_trans c.args.self.now c.loop.self a d c.loop.invariant.pays c.in_ok-advance.ensures.pays) c.in_ok-deliver_all.ensures.pays in
    let more = spent_grows b e d c.clear_all.ensures.goes_on in
    let three = c.clear_all.ensures.few in
    omega arith
