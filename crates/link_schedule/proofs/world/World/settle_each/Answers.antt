use Rattle.link_schedule.proofs.Goes.{goes_trans, cost_more, done_more, clear_more}
use Rattle.link_schedule.proofs.world.World.settle_each.Goals as goal

pub loop-index-preserved : goal.loop-index-preserved
loop-index-preserved c =
    let a = c.args.self.now in
    let b = c.loop-index.self in
    let e = c.settle_device.new.self in
    let i = c.loop-index.index in
    let g = c.loop-index.invariant.goes_on in
    let h = c.in_ok-settle_device.ensures.goes_on in
    let is = c.recall.ensures in
    let done = done_more b e i h is c.loop-index.invariant.done c.in_ok-settle_device.ensures.ok in
    record {
      goes_on = goes_trans a b e g h;
      few = cost_more a b e i g h is c.in_ok-settle_device.ensures.pays c.loop-index.invariant.few;
      done = done;
      clear = clear_more b e i h is done c.loop-index.invariant.clear c.in_ok-settle_device.ensures.clear;
    }
