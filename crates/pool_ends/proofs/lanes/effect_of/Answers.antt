use Rattle.std.proofs.Common.{◌∙◌, arith}
use Rattle.pool_ends.proofs.Calls.{found_behind, found_here}
use Rattle.pool_ends.proofs.lanes.effect_of.Goals as goal

pub returns-then-left-count : goal.returns-then-left-count
returns-then-left-count c =
    let count = c.count_on-count.ensures in
    let few = c.if-left-count.true in
    c.effect_on.ensures
    ∙ (found_here c.args.lane c.args.journal.now c.loop-entry.entry-index c.entry-item.result c.loop-entry-test.true c.entry-item.is c.items-effects.result.now c.items-effects.ensures c.loop-entry.left (omega (arith, count, few))
    ∙ c.loop-entry.invariant)

pub loop-entry-preserved : goal.loop-entry-preserved
loop-entry-preserved c =
    found_behind c.args.lane c.args.journal.now c.loop-entry.entry-index c.entry-item.result c.loop-entry-test.true c.entry-item.is c.items-effects.result.now c.items-effects.ensures c.loop-entry.left c.count_on-count.result c.count_on-count.ensures c.if-left-count.false
    ∙ c.loop-entry.invariant
