-- So many bits are left exactly where there are octets for them and for the bits of the first octet that were read.
use Rattle.std.proofs.Common.{◌≡◌, ◌-◌, ◌*◌, length, arith}
use Rattle.std.proofs.lemmas.Bool.{leb-true, le-leb}
use Rattle.aper_fields.proofs.Octet.{length-left}
use Rattle.aper_fields.proofs.reader.BitReader.has.Goals as goal

pub returns : goal.returns
returns c =
    let e : length c.args.self.now.left ≡ 8 * length c.self.inside.bytes.now - c.self.inside.used = rw (← c.self.view_is) (length-left c.self.inside.used c.self.inside.bytes.now) in
    (λ h. omega (arith, leb-true _ _ h, e), λ h. le-leb _ _ (omega (arith, e, h)))
