use Rattle.std.proofs.Common.{◌∙◌}
use Rattle.std.specs.Option.{option_copied}
use Rattle.replica_worker.proofs.Cached.{in_older, in_newer}
use Rattle.replica_worker.proofs.cache.Cache.session.Goals as goal

pub returns-in-Some : goal.returns-in-Some
returns-in-Some c = in_older c.args.self.now c.as_slices.result.0.now c.as_slices.result.1.now c.args.d c.args.version c.in-Some.session.now (c.as_slices.ensures ∙ c.self.view_is) c.in-Some.ensures

pub returns-in-None : goal.returns-in-None
returns-in-None c =
    in_newer c.args.self.now c.as_slices.result.0.now c.as_slices.result.1.now c.args.d c.args.version (option_copied c.session_among-in-None.result) (c.as_slices.ensures ∙ c.self.view_is) c.in-None.ensures c.session_among-in-None.ensures
