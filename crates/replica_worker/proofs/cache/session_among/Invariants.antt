use Rattle.std.proofs.Common.{◌≡◌, take, None}
use Rattle.replica_worker.specs.Cache.{session_in}
use Rattle.replica_worker.proofs.cache.session_among.Given as goal

abbrev pub invariant-loop-cached : goal.invariant-loop-cached
invariant-loop-cached l = session_in (take l.cached-index l.sessions) l.d l.version ≡ None
