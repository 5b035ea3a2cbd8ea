-- Octets put behind those that were written stand behind padding, as the bits that were free are zeros; no bit is free then.
use Rattle.std.proofs.Common.{◌∙◌, ℕ, ◌++◌, List, Bool, sym, ap, arith}
use Rattle.aper_fields.specs.Bits.{bits_of}
use Rattle.aper_fields.specs.Run.{fixed_octets_run}
use Rattle.aper_fields.proofs.BitLaws.{bits_of-append}
use Rattle.aper_fields.proofs.Fill.{free_whole, before_free-whole, padded_run}
use Rattle.aper_fields.proofs.writer.BitWriter.write_padded_octets.Goals as goal

pub invariant_of-self-2 : goal.invariant_of-self-2
invariant_of-self-2 c = (omega arith, omega arith, free_whole c.extend_from_slice.new.self.items)

pub returns-clause-ok : goal.returns-clause-ok
unfolding fixed_octets_run
returns-clause-ok c =
    let w = c.self.inside in
    let octets = c.args.octets.now in
    let old = sym (before_free-whole w.bytes.items) in
    rw (← c.self.view_is) (before_free-whole c.extend_from_slice.new.self.items ∙ ap bits_of (c.in_ok-extend_from_slice.ensures.items ∙ ap (λ (l : List ℕ). l ++ octets) c.begin.ensures) ∙ bits_of-append w.bytes.items octets
    ∙ ap (λ (run : List Bool). run ++ bits_of octets) old ∙ padded_run w.bytes.items w.free (bits_of octets) c.self.invariant.0 c.self.invariant.2)
