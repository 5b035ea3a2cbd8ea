-- The count of a number's octets less one fits in the bits that are kept for the count of the greatest number.
use Rattle.std.proofs.Common.{arith}
use Rattle.aper_fields.proofs.Widths.{count_fits}
use Rattle.aper_fields.proofs.writing.put_counted.Goals as goal

pub write_bits-requires-clause-fits : goal.write_bits-requires-clause-fits
write_bits-requires-clause-fits c = rw (c.from-2.ensures, c.octet_count-count.ensures.value, c.width-count_width.ensures.value, c.from.ensures, c.octet_count.ensures.value) (count_fits c.args.n c.args.top c.requires (omega arith))
