-- The octets that are lent are those that hold what was written, and their bits are what was written, filled up with zeros.
use Rattle.std.proofs.Common.{ap, ◌∙◌}
use Rattle.aper_fields.specs.Bits.{bits_of}
use Rattle.aper_fields.specs.Buffer.{before_free}
use Rattle.aper_fields.proofs.Fill.{filled-is}
use Rattle.aper_fields.proofs.Packed.{packed-of, bits_of-packed}
use Rattle.aper_fields.proofs.writer.BitWriter.bytes.Goals as goal

pub returns-clause-octets : goal.returns-clause-octets
returns-clause-octets c =
    let w = c.self.inside in
    let run = before_free w.bytes.items w.free in
    rw (c.deref-2.ensures.value, ← c.self.view_is) (rw c.deref.ensures.value at c.recall.ensures ∙ packed-of w.bytes.items run (filled-is run w.bytes.items w.free c.self.invariant.0 c.self.invariant.2))

pub returns-clause-bits : goal.returns-clause-bits
returns-clause-bits c =
    let w = c.self.inside in
    let run = before_free w.bytes.items w.free in
    let full = filled-is run w.bytes.items w.free c.self.invariant.0 c.self.invariant.2 in
    rw (c.deref-2.ensures.value, ← c.self.view_is) (ap bits_of (rw c.deref.ensures.value at c.recall.ensures ∙ packed-of w.bytes.items run full) ∙ bits_of-packed run)
