-- An open type is read exactly: refused for its padding, its length or octets that are not there, else given as a container of its own.
use Rattle.std.proofs.Common.{Ok, Err, rules}
use Rattle.aper_fields.specs.Reading.{content_at, open_at}
use Rattle.aper_fields.specs.Format.{open_in}
use Rattle.aper_fields.proofs.Formats.{gives_exactly}
use Rattle.aper_fields.proofs.Containers.{open_exactly}
use Rattle.aper_fields.proofs.reading.read_open.Goals as goal

pub returns-in_err-align-clause-exact : goal.returns-in_err-align-clause-exact
unfolding open_at content_at
returns-in_err-align-clause-exact c = gives_exactly open_in open_at c.from_residual.result c.args.r.now c.args.r.now open_exactly (search rules)

pub returns-in_err-length-clause-exact : goal.returns-in_err-length-clause-exact
unfolding open_at content_at
returns-in_err-length-clause-exact c = gives_exactly open_in open_at c.from_residual-in_err-length.result c.args.r.now c.args.r.now open_exactly (search rules)

pub returns-then-not-has_octets-clause-exact : goal.returns-then-not-has_octets-clause-exact
unfolding open_at content_at
returns-then-not-has_octets-clause-exact c = gives_exactly open_in open_at (Err c.refusal.result) c.args.r.now c.args.r.now open_exactly (search rules)

pub returns-clause-exact : goal.returns-clause-exact
unfolding open_at content_at
returns-clause-exact c = gives_exactly open_in open_at (Ok c.split-inside.result) c.args.r.now c.split-inside.new.self open_exactly (search rules)
