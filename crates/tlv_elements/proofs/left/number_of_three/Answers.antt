use Rattle.std.proofs.Common.{arith}
use Rattle.byteorder.specs.Numbers.{big_from-lt}
use Rattle.tlv_elements.proofs.left.number_of_three.Goals as goal

pub returns-clause-range : goal.returns-clause-range
returns-clause-range c = rw c.read_u24.ensures (big_from-lt 0 3 c.args.octets.now (λ k. omega (arith, c.type_inv.octets k)))
