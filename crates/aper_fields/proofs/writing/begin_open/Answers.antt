-- Behind the length 0 an octet begins, and at least one octet stands before that place.
use Rattle.std.proofs.Common.{arith}
use Rattle.aper_fields.proofs.Counted.{begun_whole, begun_room}
use Rattle.aper_fields.proofs.writing.begin_open.Goals as goal

pub returns-clause-whole : goal.returns-clause-whole
returns-clause-whole c = omega (arith, c.mark.ensures, begun_whole c.args.w.now c.write_len.new.w c.in_ok-write_len.ensures.ok)

pub returns-clause-room : goal.returns-clause-room
returns-clause-room c = omega (arith, c.mark.ensures, begun_room c.args.w.now c.write_len.new.w c.in_ok-write_len.ensures.ok)
