-- A number that is not 0 fits in the octets that its bits take.
use Rattle.std.proofs.Common.{arith}
use Rattle.aper_fields.proofs.Widths.{octets_hold}
use Rattle.aper_fields.proofs.width.octet_count.Goals as goal

pub returns-else-number-eq0-clause-holds : goal.returns-else-number-eq0-clause-holds
returns-else-number-eq0-clause-holds c = rw (c.div_ceil.ensures, c.width.ensures.value) (octets_hold c.args.number (omega arith))
