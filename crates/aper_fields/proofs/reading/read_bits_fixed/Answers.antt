-- A bit string of a fixed size is read exactly: up to 16 bits where the reader stands, more bits behind padding.
use Rattle.std.proofs.Common.{Ok, rules}
use Rattle.aper_fields.specs.Reading.{fixed_bits_at}
use Rattle.aper_fields.specs.Format.{fixed_bits_in}
use Rattle.aper_fields.proofs.Formats.{gives_exactly}
use Rattle.aper_fields.proofs.ExactPieces.{fixed_bits_exactly}
use Rattle.aper_fields.proofs.reading.read_bits_fixed.Goals as goal

pub returns-then-n-le16-clause-exact : goal.returns-then-n-le16-clause-exact
unfolding fixed_bits_at
returns-then-n-le16-clause-exact c = gives_exactly (fixed_bits_in c.args.n) (fixed_bits_at c.args.n) c.read_bits.result c.args.r.now c.read_bits.new.self (fixed_bits_exactly c.args.n) (search rules)

pub returns-in_err-align-clause-exact : goal.returns-in_err-align-clause-exact
unfolding fixed_bits_at
returns-in_err-align-clause-exact c = gives_exactly (fixed_bits_in c.args.n) (fixed_bits_at c.args.n) c.from_residual.result c.args.r.now c.args.r.now (fixed_bits_exactly c.args.n) (search rules)

pub returns-in_err-value-clause-exact : goal.returns-in_err-value-clause-exact
unfolding fixed_bits_at
returns-in_err-value-clause-exact c = gives_exactly (fixed_bits_in c.args.n) (fixed_bits_at c.args.n) c.from_residual-in_err-value.result c.args.r.now c.args.r.now (fixed_bits_exactly c.args.n) (search rules)

pub returns-clause-exact : goal.returns-clause-exact
unfolding fixed_bits_at
returns-clause-exact c = gives_exactly (fixed_bits_in c.args.n) (fixed_bits_at c.args.n) (Ok c.in_ok-value.value) c.args.r.now c.read_bits-2.new.self (fixed_bits_exactly c.args.n) (search rules)
