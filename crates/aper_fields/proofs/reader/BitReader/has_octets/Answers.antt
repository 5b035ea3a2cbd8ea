-- So many octets are there exactly where eight bits for each are left, as the reader stands where an octet begins.
use Rattle.std.proofs.Common.{◌≡◌, ◌+◌, ◌-◌, ◌*◌, length, ap, sym, arith}
use Rattle.std.proofs.lemmas.Bool.{leb-true, le-leb}
use Rattle.aper_fields.proofs.Octet.{length-left}
use Rattle.aper_fields.proofs.reader.BitReader.has_octets.Goals as goal

pub returns : goal.returns
returns c =
    let e : length c.args.self.now.left ≡ 8 * length c.self.inside.bytes.now - c.self.inside.used = rw (← c.self.view_is) (length-left c.self.inside.used c.self.inside.bytes.now) in
    let o : c.args.self.now.offset ≡ 8 * c.self.inside.place + c.self.inside.used = ap (λ i. i.offset) (sym c.self.view_is) in
    (λ h. omega (arith, leb-true _ _ h, e), λ h. le-leb _ _ (omega (arith, e, h)))
