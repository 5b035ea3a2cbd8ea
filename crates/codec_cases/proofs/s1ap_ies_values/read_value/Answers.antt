-- What is read is in its range.
use Rattle.codec_cases.proofs.Written.{can_be_written}
use Rattle.codec_cases.proofs.s1ap_ies_values.read_value.Goals as goal

pub returns : goal.returns
returns g c = can_be_written g.T.OwnedValue.asn1 c.requires c.read.result _ _ c.read.ensures.exact
