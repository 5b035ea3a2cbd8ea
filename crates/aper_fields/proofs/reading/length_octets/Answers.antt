-- A length that begins where an octet begins ends where one ends: it takes 1 and 7 bits, or 1, 1 and 14.
use Rattle.std.proofs.Common.{ap, arith}
use Rattle.aper_fields.proofs.Steps.{bits_at-offset}
use Rattle.aper_fields.proofs.reading.length_octets.Goals as goal

pub returns-then-branch-eq0-clause-aligned : goal.returns-then-branch-eq0-clause-aligned
returns-then-branch-eq0-clause-aligned c = λ h. omega (arith, ap (λ i. i.offset) c.ahead-ahead.ensures, bits_at-offset 1 _ _ _ c.in_ok-read_bits.ensures.read, bits_at-offset 7 _ _ _ c.in_ok-length.ensures.read)

pub returns-clause-aligned : goal.returns-clause-aligned
returns-clause-aligned c = λ h. omega (arith, ap (λ i. i.offset) c.ahead-ahead.ensures, bits_at-offset 1 _ _ _ c.in_ok-read_bits.ensures.read, bits_at-offset 1 _ _ _ c.in_ok-read_bits-2.ensures.read, bits_at-offset 14 _ _ _ c.in_ok-length-2.ensures.read)
