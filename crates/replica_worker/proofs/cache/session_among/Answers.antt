use Rattle.std.proofs.Common.{Some, ap, sym, ◌∙◌}
use Rattle.replica_worker.proofs.Cached.{first_found, none_more}
use Rattle.replica_worker.proofs.cache.session_among.Goals as goal

pub returns-then-is_of : goal.returns-then-is_of
returns-then-is_of c = ap Some c.get.ensures ∙ first_found c.args.sessions.now c.loop-cached.cached-index c.cached-item.result c.args.d c.args.version c.loop-cached.invariant c.loop-cached-test.true c.cached-item.is (sym c.is_of.ensures ∙ c.if-is_of.true)

pub loop-cached-preserved : goal.loop-cached-preserved
loop-cached-preserved c = none_more c.args.sessions.now c.loop-cached.cached-index c.cached-item.result c.args.d c.args.version c.loop-cached.invariant c.loop-cached-test.true c.cached-item.is (sym c.is_of.ensures ∙ c.if-is_of.false)
