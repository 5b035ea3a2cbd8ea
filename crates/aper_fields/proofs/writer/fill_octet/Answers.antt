-- Where bits are free there is a last octet, whose free bits are zeros; the number that is put into them stands right behind the run.
use Rattle.std.proofs.Common.{◌-◌, ◌<◌, length, arith}
use Rattle.std.proofs.lemmas.List.{get_or_read}
use Rattle.aper_fields.specs.Bits.{bits}
use Rattle.aper_fields.specs.Buffer.{before_free}
use Rattle.aper_fields.proofs.Fill.{put_at, low_at, length-run}
use Rattle.aper_fields.proofs.writer.fill_octet.Goals as goal

pub overflow_sub-last : goal.overflow_sub-last
overflow_sub-last c = omega (arith, length-run _ _ _ c.requires.full)

pub index-requires : goal.index-requires
index-requires c = omega (arith, length-run _ _ _ c.requires.full)

pub index_mut-requires : goal.index_mut-requires
index_mut-requires c = omega (arith, length-run _ _ _ c.requires.full)

pub put_in_octet-requires-clause-low : goal.put_in_octet-requires-clause-low
put_in_octet-requires-clause-low c =
    let items = c.args.bytes.now.items in
    let len = length-run _ _ _ c.requires.full in
    let last = c.len-last.result - 1 in
    let here : last < length items = omega (arith, len) in
    rw (get_or_read items last c.index.result.now here c.index.ensures 0) (low_at items (before_free items c.args.free) last c.args.free c.args.free here (omega arith) (omega arith) (omega (arith, len)) c.requires.full)

pub returns : goal.returns
returns c =
    let items = c.args.bytes.now.items in
    let len = length-run _ _ _ c.requires.full in
    let last = c.len-last.result - 1 in
    let here : last < length items = omega (arith, len) in
    let octet = rw (get_or_read items last c.index.result.now here c.index.ensures 0) at c.put_in_octet.ensures in
    put_at items (before_free items c.args.free) (bits c.args.count c.args.value) last c.put_in_octet.result c.args.free c.args.free c.args.count here (omega arith) (omega arith) (omega arith) (omega (arith, len)) c.requires.full octet
