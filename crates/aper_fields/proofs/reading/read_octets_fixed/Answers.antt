-- An octet string of a fixed size is read exactly: refused for its padding or for octets that are not there, else given.
use Rattle.std.proofs.Common.{Ok, rules}
use Rattle.aper_fields.specs.Reading.{fixed_octets_at}
use Rattle.aper_fields.specs.Format.{fixed_octets_in}
use Rattle.aper_fields.proofs.Formats.{gives_exactly_by}
use Rattle.aper_fields.proofs.ExactPieces.{fixed_octets_exactly}
use Rattle.aper_fields.proofs.reading.read_octets_fixed.Goals as goal

pub returns-in_err-align-clause-exact : goal.returns-in_err-align-clause-exact
unfolding fixed_octets_at
returns-in_err-align-clause-exact c = gives_exactly_by (λ x. x.now) (fixed_octets_in c.args.n) (fixed_octets_at c.args.n) c.from_residual.result c.args.r.now c.args.r.now (fixed_octets_exactly c.args.n) (search rules)

pub returns-in_err-octets-clause-exact : goal.returns-in_err-octets-clause-exact
unfolding fixed_octets_at
returns-in_err-octets-clause-exact c = gives_exactly_by (λ x. x.now) (fixed_octets_in c.args.n) (fixed_octets_at c.args.n) c.from_residual-in_err-octets.result c.args.r.now c.args.r.now (fixed_octets_exactly c.args.n) (search rules)

pub returns-clause-exact : goal.returns-clause-exact
unfolding fixed_octets_at
returns-clause-exact c = gives_exactly_by (λ x. x.now) (fixed_octets_in c.args.n) (fixed_octets_at c.args.n) (Ok c.in_ok-octets.octets) c.args.r.now c.read_octets.new.self (fixed_octets_exactly c.args.n) (search rules)
