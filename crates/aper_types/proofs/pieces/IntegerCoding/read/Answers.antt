-- A number is read as its bounds say.
use Rattle.std.proofs.Common.{rules}
use Rattle.aper_types.proofs.Sequences.{number_reading}
use Rattle.aper_types.proofs.pieces.IntegerCoding.read.Goals as goal

pub returns-clause-read : goal.returns-clause-read
returns-clause-read g c = rw (number_reading g.row.LOW g.row.HIGH c.requires.0 c.requires.1 c.args.r.now) (c.read.ensures.read)
