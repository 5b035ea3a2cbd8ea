-- With octets of zeros put behind it the run is as it was, and eight more bits are free for each of them.
use Rattle.std.proofs.Common.{◌≡◌, ◌+◌, ◌-◌, vec_len, arith}
use Rattle.std.proofs.lemmas.List.{take_all}
use Rattle.aper_fields.proofs.Fill.{more_free}
use Rattle.aper_fields.proofs.writer.make_room.Goals as goal

pub returns-clause-full : goal.returns-clause-full
returns-clause-full c =
    let old = c.args.bytes.now in
    let m = c.div_ceil-more.result in
    let more : c.len.result + m - vec_len old ≡ m = omega arith in
    rw (c.in_ok-resize.ensures.items, take_all (c.len.result + m) old.items (omega (arith, old.ok.0)), more) (more_free _ old.items c.args.free m c.requires.full)
