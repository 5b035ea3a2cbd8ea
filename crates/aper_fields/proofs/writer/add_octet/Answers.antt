-- The octet that is put behind the others has the bits of the number in front, and its other bits are free.
use Rattle.aper_fields.proofs.Fill.{octet_more}
use Rattle.aper_fields.proofs.writer.add_octet.Goals as goal

pub returns-clause-ok : goal.returns-clause-ok
returns-clause-ok c = rw c.in_ok-push.ensures.items (octet_more c.args.bytes.now.items c.put_in_octet.result c.args.count c.args.value c.put_in_octet.ensures)
