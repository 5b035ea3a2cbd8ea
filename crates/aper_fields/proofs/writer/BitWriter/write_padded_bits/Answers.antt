-- A number that is put as if no bit were free stands behind padding, and all holds that has to hold of a writer.
use Rattle.std.proofs.Common.{◌∙◌, arith}
use Rattle.aper_fields.specs.Bits.{bits}
use Rattle.aper_fields.proofs.Fill.{length-run, before_free-is, padded_run}
use Rattle.aper_fields.proofs.writer.BitWriter.write_padded_bits.Goals as goal

pub invariant_of-self-2 : goal.invariant_of-self-2
invariant_of-self-2 c =
    let full = c.in_ok-self-inside.ensures.full in
    (c.in_ok-self-inside.ensures.free, omega (arith, length-run _ _ _ full), rw (before_free-is _ _ _ full) full)

pub returns-clause-ok : goal.returns-clause-ok
returns-clause-ok c =
    let w = c.self.inside in
    rw (← c.self.view_is) (before_free-is _ _ _ c.in_ok-self-inside.ensures.full ∙ padded_run w.bytes.items w.free (bits c.args.count c.args.value) c.self.invariant.0 c.self.invariant.2)
