use Rattle.std.proofs.lemmas.Result.{on_ok_weaker}
use Rattle.link_schedule.specs.Settled.{IsSettled}
use Rattle.link_schedule.proofs.Ends.{ends_on}
use Rattle.link_schedule.proofs.Grows.{given_grows}
use Rattle.link_schedule.proofs.own_floor.OwnFloorFloor.settle_all.Goals as goal

pub returns-clause-given : goal.returns-clause-given
returns-clause-given c = rw c.in-Some.is (given_grows c.in-Some.world c.settle_all.new.self c.settle_all.ensures.goes_on)

pub returns-clause-ends : goal.returns-clause-ends
returns-clause-ends c =
    let w = c.settle_all.new.self in
    on_ok_weaker c.settle_all.result (λ (settled : IsSettled w). ends_on w c.settle_all.ensures.world settled) c.settle_all.ensures.ok
