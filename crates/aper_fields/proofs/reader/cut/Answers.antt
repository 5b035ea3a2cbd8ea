-- The first octets of a slice are the first that its bits spell, as each octet is below 256.
use Rattle.std.proofs.Common.{sym, ◌∙◌, arith}
use Rattle.aper_fields.proofs.Packed.{octets_of-bits_of}
use Rattle.aper_fields.proofs.reader.cut.Goals as goal

pub returns-clause-front : goal.returns-clause-front
returns-clause-front c = c.split_at.ensures.front ∙ sym (octets_of-bits_of c.args.count c.args.octets.now c.requires (λ i. omega (arith, c.type_inv.octets i)))
