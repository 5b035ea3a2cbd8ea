-- The octets that are left hold the front of the bits, with zeros behind it where bits of the last octet are free then.
use Rattle.std.proofs.Common.{◌≡◌, ◌-◌, ◌<◌, length, take, get_or, arith}
use Rattle.std.proofs.lemmas.List.{get_or_read, length-take}
use Rattle.aper_fields.proofs.Fill.{cut_within, cut_whole}
use Rattle.aper_fields.proofs.writer.cut_octets.Goals as goal

pub returns-then-free-gt0 : goal.returns-then-free-gt0
returns-then-free-gt0 c =
    let old = c.args.bytes.now.items in
    let n = c.args.octets in
    let cut : c.truncate.new.self.items ≡ take n old = c.truncate.ensures.items in
    let here : n - 1 < length (take n old) = omega (arith, length-take n old) in
    let last : c.index.result.now ≡ get_or (take n old) (n - 1) 0 = get_or_read (take n old) (n - 1) c.index.result.now here (rw cut at c.index.ensures) 0 in
    rw (last, cut) (cut_within old n c.args.free c.requires.within (omega arith) c.requires.few c.requires.most)

pub returns-else-free-gt0 : goal.returns-else-free-gt0
returns-else-free-gt0 c = rw c.truncate.ensures.items (cut_whole c.args.bytes.now.items c.args.octets c.args.free c.if-free-gt0.false)
