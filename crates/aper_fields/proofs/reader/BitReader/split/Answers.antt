-- So many octets may be split off where eight bits for each are left: they contain the next bits, and the reader stands behind those.
use Rattle.std.proofs.Common.{◌≡◌, ◌+◌, ◌-◌, ◌*◌, length, ap, sym, arith}
use Rattle.aper_fields.proofs.Octet.{length-left, split_front, split_back}
use Rattle.aper_fields.proofs.reader.BitReader.split.Goals as goal

pub split_at-requires : goal.split_at-requires
split_at-requires c =
    let e : length c.args.self.now.left ≡ 8 * length c.self.inside.bytes.now - c.self.inside.used = rw (← c.self.view_is) (length-left c.self.inside.used c.self.inside.bytes.now) in
    omega (arith, e)

pub returns-clause-front : goal.returns-clause-front
returns-clause-front c =
    let o : c.args.self.now.offset ≡ 8 * c.self.inside.place + c.self.inside.used = ap (λ i. i.offset) (sym c.self.view_is) in
    rw (← c.self.view_is, c.split_at.ensures.front) (split_front c.self.inside.used c.args.count c.self.inside.place c.self.inside.bytes.now (omega arith))

pub returns-clause-moved : goal.returns-clause-moved
returns-clause-moved c =
    let o : c.args.self.now.offset ≡ 8 * c.self.inside.place + c.self.inside.used = ap (λ i. i.offset) (sym c.self.view_is) in
    rw (← c.self.view_is, c.split_at.ensures.back) (split_back c.self.inside.used c.args.count c.self.inside.place c.self.inside.bytes.now (omega arith))
