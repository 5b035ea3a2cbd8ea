-- Octets in which room was made end with the bits that are free, so the number may be put there, and stands right behind the run.
use Rattle.std.proofs.Common.{arith}
use Rattle.std.proofs.lemmas.List.{with_items_is}
use Rattle.aper_fields.proofs.Fill.{length-run, before_free-is}
use Rattle.aper_fields.proofs.writer.append_bits.Goals as goal

pub put_bits-requires-clause-room : goal.put_bits-requires-clause-room
put_bits-requires-clause-room c = rw c.deref_mut.ensures.value (omega (arith, length-run _ _ _ c.in_ok-free.ensures.full))

pub put_bits-requires-clause-filled : goal.put_bits-requires-clause-filled
put_bits-requires-clause-filled c = rw (c.deref_mut.ensures.value, before_free-is _ _ _ c.in_ok-free.ensures.full) c.in_ok-free.ensures.full

pub returns-clause-full : goal.returns-clause-full
returns-clause-full c =
    let ws = c.put_bits.new.octets in
    let items = with_items_is c.make_room.new.bytes ws (omega arith) in
    let old = before_free-is _ _ _ c.in_ok-free.ensures.full in
    let full = rw (c.deref_mut.ensures.value, old) at c.put_bits.ensures in
    rw (items, ← c.begin.ensures) full
