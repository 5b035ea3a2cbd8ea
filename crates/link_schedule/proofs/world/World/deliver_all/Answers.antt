use Rattle.std.proofs.Common.{◌∙◌}
use Rattle.device_types.specs.declared.event.Lane.TheVariants.{Down, Gateway}
use Rattle.link_schedule.proofs.Goes.{goes_trans, lane_kept}
use Rattle.link_schedule.proofs.world.World.deliver_all.Goals as goal

pub returns-clause-down : goal.returns-clause-down
returns-clause-down c =
    let a = c.deliver.new.self in
    let b = c.deliver-2.new.self in
    let e = c.deliver-3.new.self in
    let g = goes_trans a b e c.in_ok-deliver-2.ensures.goes_on c.in_ok-deliver-3.ensures.goes_on in
    lane_kept a e c.args.d.0 Down g c.recall.ensures (c.in_ok-deliver-3.ensures.journal ∙ c.in_ok-deliver-2.ensures.journal) c.in_ok-deliver.ensures.ok

pub returns-clause-gateway : goal.returns-clause-gateway
returns-clause-gateway c =
    lane_kept c.deliver-2.new.self c.deliver-3.new.self c.args.d.0 Gateway c.in_ok-deliver-3.ensures.goes_on c.recall.ensures c.in_ok-deliver-3.ensures.journal c.in_ok-deliver-2.ensures.ok
