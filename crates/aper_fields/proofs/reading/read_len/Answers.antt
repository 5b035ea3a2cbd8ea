-- A general length is read exactly: refused for its padding, or as the octets behind that are, else given.
use Rattle.std.proofs.Common.{Ok, rules}
use Rattle.aper_fields.specs.Reading.{length_at}
use Rattle.aper_fields.specs.Format.{length_in}
use Rattle.aper_fields.proofs.Formats.{gives_exactly}
use Rattle.aper_fields.proofs.ExactPieces.{length_exactly}
use Rattle.aper_fields.proofs.reading.read_len.Goals as goal

pub returns-in_err-align-clause-exact : goal.returns-in_err-align-clause-exact
unfolding length_at
returns-in_err-align-clause-exact c = gives_exactly length_in length_at c.from_residual.result c.args.r.now c.args.r.now length_exactly (search rules)

pub returns-in_err-length-clause-exact : goal.returns-in_err-length-clause-exact
unfolding length_at
returns-in_err-length-clause-exact c = gives_exactly length_in length_at c.from_residual-in_err-length.result c.args.r.now c.args.r.now length_exactly (search rules)

pub returns-clause-exact : goal.returns-clause-exact
unfolding length_at
returns-clause-exact c = gives_exactly length_in length_at (Ok c.in_ok-length.length) c.args.r.now c.length_octets.new.r length_exactly (search rules)
