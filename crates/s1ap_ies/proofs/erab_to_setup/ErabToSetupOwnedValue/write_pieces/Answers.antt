use Rattle.std.proofs.Common.{arith}
use Rattle.std.proofs.lemmas.Grind.{common_steps}
use Rattle.aper_fields.specs.Asn1.{run, flags_run, fields_run}
use Rattle.s1ap_ies.specs.Values.{erab_to_setup}
use Rattle.s1ap_ies.proofs.erab_to_setup.ErabToSetupOwnedValue.write_pieces.Goals as goal

pub returns-clause-ok : goal.returns-clause-ok
unfolding run flags_run fields_run erab_to_setup
returns-clause-ok c = grind (arith, common_steps)
