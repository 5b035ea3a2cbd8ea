use Rattle.pool_cases.proofs.Lines.{counted_more}
use Rattle.pool_cases.proofs.long.services.Goals as goal

pub loop-index-preserved : goal.loop-index-preserved
loop-index-preserved c =
    counted_more _ _ _ _ c.in_ok-push.ensures.ok c.loop-index.invariant.0 c.loop-index.invariant.1 c.message.ensures.message c.message.ensures.number
