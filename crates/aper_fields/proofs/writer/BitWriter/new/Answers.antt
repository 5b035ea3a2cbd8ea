-- Of no octets and no free bits all holds that has to hold of a writer.
use Rattle.std.proofs.Common.{arith}
use Rattle.aper_fields.proofs.Fill.{free_none}
use Rattle.aper_fields.proofs.writer.BitWriter.new.Goals as goal

pub invariant_of-result : goal.invariant_of-result
invariant_of-result c = rw c.new.ensures.items (omega arith, omega arith, free_none)
