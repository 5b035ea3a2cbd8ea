-- All octets of a slice are those that its bits spell, as each octet is below 256.
use Rattle.std.proofs.Common.{sym, arith}
use Rattle.aper_fields.proofs.Packed.{octets_of-all}
use Rattle.aper_fields.proofs.writer.recall.Goals as goal

pub returns : goal.returns
returns c = sym (octets_of-all c.args.octets.now (λ i. omega (arith, c.type_inv.octets i)))
