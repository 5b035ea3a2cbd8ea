-- The run with which a value of a sound ASN.1 type in its range is written spells that value, wherever the run begins.
use Rattle.aper_fields.proofs.Spelled.{spelled}
use Rattle.aper_types.proofs.laws.written_is_spelled.Goals as goal

pub returns : goal.returns
returns g c = λ sound v fits. record { everywhere = λ at. spelled g.T.OwnedValue.asn1 sound v fits at }
