-- A value of a sound ASN.1 type that any run spells is in its range, and its strings are octets.
use Rattle.aper_fields.proofs.Least.{least}
use Rattle.aper_types.proofs.laws.spelled_is_right.Goals as goal

pub returns : goal.returns
returns g c = λ sound v at bits s. (least g.T.OwnedValue.asn1 sound v at bits s).0
