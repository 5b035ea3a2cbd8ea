-- Behind the padding an octet begins, as just the bits that lead to it were read; where an octet begins already, there is no padding.
use Rattle.std.proofs.Common.{ap, arith}
use Rattle.aper_fields.proofs.Steps.{bits_at-offset, padding_none}
use Rattle.aper_fields.proofs.reader.BitReader.align.Goals as goal

pub returns-clause-aligned : goal.returns-clause-aligned
returns-clause-aligned c = omega (arith, ap (λ i. i.offset) c.ahead-ahead.ensures, c.gap.ensures, bits_at-offset _ _ _ _ c.in_ok-read_bits.ensures.read)

pub returns-then-gap-eq0-clause-read : goal.returns-then-gap-eq0-clause-read
returns-then-gap-eq0-clause-read c = padding_none c.args.self.now (omega (arith, c.gap.ensures))
