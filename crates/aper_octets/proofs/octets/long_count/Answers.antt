-- Two octets below 192 * 256 tell a length that one would not hold; no others tell a length of two octets.
use Rattle.std.proofs.Common.{arith}
use Rattle.aper_octets.proofs.Lengths.{long_count}
use Rattle.aper_octets.proofs.Only.{long_told}
use Rattle.aper_octets.proofs.octets.long_count.Goals as goal
use Rattle.aper_octets.proofs.octets.long_count.Goals.{then-a-ge192-via-then-a-ge192, then-a-ge192-via-else-a-ge192+then-from-lt32896}

pub returns-clause-octets : goal.returns-clause-octets
returns-clause-octets c = rw (c.from-2.ensures, c.from-3.ensures) (long_count c.args.a c.args.b c.if-a-ge192.false (omega (arith, c.ranges.b)) (omega (arith, c.if-from-lt32896.false, c.from.ensures, c.from-else-a-ge192.ensures)))

pub returns-then-a-ge192-clause-none : goal.returns-then-a-ge192-clause-none
returns-then-a-ge192-clause-none c =
    elim c.then-a-ge192.branch [
      | then-a-ge192-via-then-a-ge192 w ↦ λ n few e. absurd (omega (arith, w.if-a-ge192, (long_told c.args.a c.args.b n few e).0))
      | then-a-ge192-via-else-a-ge192+then-from-lt32896 w ↦ λ n few e. absurd (omega (arith, w.from.ensures, w.from-else-a-ge192.ensures, w.if-from-lt32896, (long_told c.args.a c.args.b n few e).1))
    ]
