-- The end of a container is exact: refused for its padding, or for octets behind that, else found where only the padding is left.
use Rattle.std.proofs.Common.{Ok, Err, rules}
use Rattle.aper_fields.specs.Reading.{end_at}
use Rattle.aper_fields.proofs.Containers.{end_reads}
use Rattle.aper_fields.proofs.reading.end.Goals as goal

pub returns-in_err-align-clause-exact : goal.returns-in_err-align-clause-exact
unfolding end_at
returns-in_err-align-clause-exact c = end_reads c.from_residual.result c.args.r.now (search rules)

pub returns-then-not-is_empty-clause-exact : goal.returns-then-not-is_empty-clause-exact
unfolding end_at
returns-then-not-is_empty-clause-exact c = end_reads (Err c.refusal.result) c.args.r.now (search rules)

pub returns-clause-exact : goal.returns-clause-exact
unfolding end_at
returns-clause-exact c = end_reads (Ok tt) c.args.r.now (search rules)
