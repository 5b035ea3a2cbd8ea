use Rattle.codec_bench.proofs.Written.{still_samples}
use Rattle.codec_bench.proofs.add.Goals as goal

pub returns-clause-more : goal.returns-clause-more
returns-clause-more c = (_, c.in_ok-sample.ensures.ok, c.in_ok-push.ensures.items)

pub returns-clause-all : goal.returns-clause-all
returns-clause-all c = still_samples _ _ _ c.requires (_, c.in_ok-sample.ensures.ok, c.in_ok-push.ensures.items)
