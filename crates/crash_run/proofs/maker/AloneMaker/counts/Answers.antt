use Rattle.std.proofs.Common.{length, map, ap, ◌∙◌, arith}
use Rattle.crash_run.proofs.Made.{one_counted, all_held}
use Rattle.crash_run.proofs.maker.AloneMaker.counts.Goals as goal

pub loop-index-preserved : goal.loop-index-preserved
loop-index-preserved c =
    one_counted c.args.self.now c.loop-index.index c.count.result c.loop-index.counts.items c.push.new.self.items c.devices-index-end.ensures.charter.each (omega (arith, c.loop-index-test.true, c.devices-index-end.ensures.count)) c.loop-index.invariant c.count.ensures c.in_ok-push.ensures.items

pub returns : goal.returns
returns c = c.loop-index.invariant ∙ ap (map length) (all_held c.args.self.now.rows c.args.self.now.lines c.loop-index.index c.devices-index-end.ensures.charter.each (omega (arith, c.devices-index-end.ensures.count)))
