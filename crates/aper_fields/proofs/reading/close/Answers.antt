-- A container is closed exactly: where nothing was read of it, by an octet of zeros and the end behind it, else by the end alone.
use Rattle.std.proofs.Common.{Ok, rules}
use Rattle.aper_fields.specs.Reading.{close_at}
use Rattle.aper_fields.proofs.Containers.{close_reads}
use Rattle.aper_fields.proofs.reading.close.Goals as goal

pub returns-in_err-skip_empty-clause-exact : goal.returns-in_err-skip_empty-clause-exact
unfolding close_at
returns-in_err-skip_empty-clause-exact c = close_reads c.from_residual.result c.args.content.now c.args.r.now (search rules)

pub returns-in_err-end-clause-exact : goal.returns-in_err-end-clause-exact
unfolding close_at
returns-in_err-end-clause-exact c = close_reads c.from_residual-in_err-end.result c.args.content.now c.args.r.now (search rules)

pub returns-then-is_at-clause-exact : goal.returns-then-is_at-clause-exact
unfolding close_at
returns-then-is_at-clause-exact c = close_reads (Ok tt) c.args.content.now c.args.r.now (search rules)

pub returns-in_err-end-2-clause-exact : goal.returns-in_err-end-2-clause-exact
unfolding close_at
returns-in_err-end-2-clause-exact c = close_reads c.from_residual-in_err-end-2.result c.args.content.now c.args.r.now (search rules)
