-- The bits of the number stand right behind what was written before, and all holds that has to hold of a writer.
use Rattle.std.proofs.Common.{◌∙◌, ◌++◌, List, Bool, ap, arith}
use Rattle.aper_fields.specs.Bits.{bits}
use Rattle.aper_fields.proofs.Fill.{length-run, before_free-is}
use Rattle.aper_fields.proofs.writer.BitWriter.write_bits.Goals as goal

pub invariant_of-self-2 : goal.invariant_of-self-2
invariant_of-self-2 c =
    let full = c.in_ok-self-inside.ensures.full in
    (c.in_ok-self-inside.ensures.free, omega (arith, length-run _ _ _ full), rw (before_free-is _ _ _ full) full)

pub returns-clause-ok : goal.returns-clause-ok
returns-clause-ok c = before_free-is _ _ _ c.in_ok-self-inside.ensures.full ∙ ap (λ (run : List Bool). run ++ bits c.args.count c.args.value) c.self.view_is
