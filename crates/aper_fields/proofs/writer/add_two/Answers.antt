-- The quotient and the remainder of a number below 2^16 by 256 are two more octets that hold its sixteen bits, with no bit free.
use Rattle.std.proofs.Common.{◌≡◌, ◌%◌, ◌^◌}
use Rattle.std.specs.Prelude.{bit_and}
use Rattle.std.proofs.lemmas.Nat.{and_mask}
use Rattle.aper_fields.proofs.Fill.{two_more}
use Rattle.aper_fields.proofs.writer.add_two.Goals as goal

pub returns-clause-ok : goal.returns-clause-ok
returns-clause-ok c =
    let low : bit_and c.args.value 255 ≡ c.args.value % 2 ^ 8 = and_mask c.args.value 8 in
    rw (c.in_ok-extend_from_slice.ensures.items, low) (two_more c.args.bytes.now.items c.args.value)
