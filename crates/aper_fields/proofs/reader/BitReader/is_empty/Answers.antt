-- No bit is left exactly where no octet is, as of the first octet never all bits were read.
use Rattle.std.proofs.Common.{◌≡◌, ◌-◌, ◌*◌, length, sym, ◌∙◌, arith}
use Rattle.std.proofs.lemmas.Bool.{eqb-true, eq-eqb}
use Rattle.aper_fields.proofs.Octet.{length-left}
use Rattle.aper_fields.proofs.reader.BitReader.is_empty.Goals as goal

pub returns : goal.returns
returns c =
    let e : length c.args.self.now.left ≡ 8 * length c.self.inside.bytes.now - c.self.inside.used = rw (← c.self.view_is) (length-left c.self.inside.used c.self.inside.bytes.now) in
    (λ h. omega (arith, eqb-true _ _ (sym c.is_empty.ensures ∙ h), e), λ h. c.is_empty.ensures ∙ eq-eqb _ _ (omega (arith, e, h)))
