-- So many octets may be cut off where their bits are left: they are the next ones, and behind them all holds that has to hold of a reader.
use Rattle.std.proofs.Common.{◌≡◌, ◌+◌, ◌-◌, ◌*◌, length, ap, sym, refl, ltb, false, arith}
use Rattle.aper_fields.specs.Reading.{octets_at}
use Rattle.aper_fields.proofs.Octet.{length-left, cut_is}
use Rattle.std.proofs.lemmas.Bool.{le-ltb}
use Rattle.aper_fields.proofs.reader.BitReader.read_octets.Goals as goal

pub cut-requires : goal.cut-requires
cut-requires c =
    let e : length c.args.self.now.left ≡ 8 * length c.self.inside.bytes.now - c.self.inside.used = rw (← c.self.view_is) (length-left c.self.inside.used c.self.inside.bytes.now) in
    omega (arith, e, c.if-not-has_octets.ensures)

pub returns-clause-read : goal.returns-clause-read
unfolding octets_at
returns-clause-read c =
    let o : c.args.self.now.offset ≡ 8 * c.self.inside.place + c.self.inside.used = ap (λ i. i.offset) (sym c.self.view_is) in
    let e : length c.args.self.now.left ≡ 8 * length c.self.inside.bytes.now - c.self.inside.used = rw (← c.self.view_is) (length-left c.self.inside.used c.self.inside.bytes.now) in
    let here : ltb (length c.args.self.now.left) (8 * c.args.count) ≡ false = le-ltb _ _ (c.if-not-has_octets.ensures.0 refl) in
    rw (here, c.cut.ensures.front, c.cut.ensures.back, ← c.self.view_is) (cut_is c.self.inside.used c.args.count c.self.inside.place c.self.inside.bytes.now (omega arith))

pub invariant_of-self : goal.invariant_of-self
invariant_of-self c =
    let o : c.args.self.now.offset ≡ 8 * c.self.inside.place + c.self.inside.used = ap (λ i. i.offset) (sym c.self.view_is) in
    omega (arith, o)
