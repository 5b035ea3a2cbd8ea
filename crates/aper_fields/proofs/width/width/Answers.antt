-- A number below 2^64 fits in the bits that it takes.
use Rattle.std.proofs.Common.{arith}
use Rattle.aper_fields.proofs.Widths.{width_holds}
use Rattle.aper_fields.proofs.width.width.Goals as goal

pub returns-clause-holds : goal.returns-clause-holds
returns-clause-holds c = width_holds c.args.number (omega arith)
