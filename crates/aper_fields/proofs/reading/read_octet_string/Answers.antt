-- An octet string of free size is read exactly: refused for its padding, its length, a length above the most or octets that are not there, else given.
use Rattle.std.proofs.Common.{Ok, Err, rules}
use Rattle.aper_fields.specs.Reading.{octet_string_at}
use Rattle.aper_fields.specs.Format.{octet_string_in}
use Rattle.aper_fields.proofs.Formats.{gives_exactly_by}
use Rattle.aper_fields.proofs.ExactPieces.{octet_string_exactly}
use Rattle.aper_fields.proofs.reading.read_octet_string.Goals as goal

pub returns-in_err-align-clause-exact : goal.returns-in_err-align-clause-exact
unfolding octet_string_at
returns-in_err-align-clause-exact c = gives_exactly_by (λ x. x.now) (octet_string_in c.args.most) (octet_string_at c.args.most) c.from_residual.result c.args.r.now c.args.r.now (octet_string_exactly c.args.most) (search rules)

pub returns-in_err-length-clause-exact : goal.returns-in_err-length-clause-exact
unfolding octet_string_at
returns-in_err-length-clause-exact c = gives_exactly_by (λ x. x.now) (octet_string_in c.args.most) (octet_string_at c.args.most) c.from_residual-in_err-length.result c.args.r.now c.args.r.now (octet_string_exactly c.args.most) (search rules)

pub returns-then-length-most-clause-exact : goal.returns-then-length-most-clause-exact
unfolding octet_string_at
returns-then-length-most-clause-exact c = gives_exactly_by (λ x. x.now) (octet_string_in c.args.most) (octet_string_at c.args.most) (Err c.refusal.result) c.args.r.now c.args.r.now (octet_string_exactly c.args.most) (search rules)

pub returns-in_err-octets-clause-exact : goal.returns-in_err-octets-clause-exact
unfolding octet_string_at
returns-in_err-octets-clause-exact c = gives_exactly_by (λ x. x.now) (octet_string_in c.args.most) (octet_string_at c.args.most) c.from_residual-in_err-octets.result c.args.r.now c.args.r.now (octet_string_exactly c.args.most) (search rules)

pub returns-clause-exact : goal.returns-clause-exact
unfolding octet_string_at
returns-clause-exact c = gives_exactly_by (λ x. x.now) (octet_string_in c.args.most) (octet_string_at c.args.most) (Ok c.in_ok-octets.octets) c.args.r.now c.read_octets.new.self (octet_string_exactly c.args.most) (search rules)
