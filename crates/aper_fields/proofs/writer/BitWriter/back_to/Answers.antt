-- The octets that are cut at a mark hold the bits that were written before it, and all holds of them that has to hold of a writer.
use Rattle.std.proofs.Common.{◌≡◌, ◌≤◌, ◌-◌, ◌*◌, length, refl, ◌∙◌, arith}
use Rattle.aper_fields.specs.Buffer.{before_free}
use Rattle.aper_fields.proofs.Fill.{length-run, before_free-is, take_before}
use Rattle.aper_fields.proofs.writer.BitWriter.back_to.Goals as goal

pub invariant_of-self : goal.invariant_of-self
invariant_of-self c =
    let full = c.cut_octets.ensures in
    (c.mark.invariant.0, omega (arith, length-run _ _ _ full), rw (before_free-is _ _ _ full) full)

pub returns : goal.returns
returns c =
    let w = c.self.inside in
    let n = 8 * c.mark.inside.octets - c.mark.inside.free in
    let here : n ≡ c.args.mark = c.mark.view_is in
    let h : n ≤ length (before_free w.bytes.items w.free) = rw (c.self.view_is, here) c.requires in
    before_free-is _ _ _ c.cut_octets.ensures ∙ take_before w.bytes.items w.free n h ∙ rw (here, c.self.view_is) refl
