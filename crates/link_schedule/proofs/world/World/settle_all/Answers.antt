use Rattle.std.proofs.lemmas.Result.{on_ok_weaker}
use Rattle.link_schedule.specs.Settled.{IsSettled}
use Rattle.link_schedule.proofs.Ends.{finals_settled}
use Rattle.link_schedule.proofs.world.World.settle_all.Goals as goal

pub returns-clause-ends : goal.returns-clause-ends
returns-clause-ends c =
    let w = c.settle_each-settled.new.self in
    on_ok_weaker c.settle_each-settled.result (λ (settled : IsSettled w). finals_settled w c.recall.ensures settled) c.settle_each-settled.ensures.ok
