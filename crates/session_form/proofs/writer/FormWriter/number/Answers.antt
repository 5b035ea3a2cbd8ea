use Rattle.std.proofs.Common.{rules}
use Rattle.session_form.specs.Fields.{number_run}
use Rattle.session_form.proofs.Octets.{lowest}
use Rattle.session_form.proofs.writer.FormWriter.number.Goals as goal

pub returns-clause-octets : goal.returns-clause-octets
unfolding number_run
returns-clause-octets c = rw (← lowest c.args.count c.args.number c.requires.few, ← c.to_be_bytes.ensures) (search rules)
