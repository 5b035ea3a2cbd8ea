-- A mark is how many bits were written: eight for each octet, less those that are free.
use Rattle.std.proofs.Common.{arith}
use Rattle.aper_fields.specs.Buffer.{before_free}
use Rattle.aper_fields.proofs.Fill.{length-run}
use Rattle.aper_fields.proofs.writer.BitWriter.mark.Goals as goal

pub returns : goal.returns
returns c = rw (← c.self.view_is) (omega (arith, length-run (before_free c.self.inside.bytes.items c.self.inside.free) c.self.inside.bytes.items c.self.inside.free c.self.invariant.2))
