-- The octets of a writer that is used up are those that hold the bits that were written, the last one filled up with zeros.
use Rattle.aper_fields.specs.Buffer.{before_free}
use Rattle.std.proofs.Common.{◌∙◌}
use Rattle.aper_fields.proofs.Fill.{filled-is}
use Rattle.aper_fields.proofs.Packed.{packed-of}
use Rattle.aper_fields.proofs.writer.BitWriter.into_bytes.Goals as goal

pub returns : goal.returns
returns c =
    let w = c.self.inside in
    let run = before_free w.bytes.items w.free in
    let full = filled-is run w.bytes.items w.free c.self.invariant.0 c.self.invariant.2 in
    rw (← c.self.view_is) (rw c.deref.ensures.value at c.recall.ensures ∙ packed-of w.bytes.items run full)
