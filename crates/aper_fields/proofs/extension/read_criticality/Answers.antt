-- A criticality is read exactly: two bits, of which the number 3 is refused.
use Rattle.aper_fields.proofs.Formats.{gives_exactly}
use Rattle.aper_fields.specs.SequenceReading.{criticality_at}
use Rattle.aper_fields.specs.Sequence.{criticality_in}
use Rattle.aper_fields.proofs.SequenceExact.{criticality_exactly}
use Rattle.aper_fields.proofs.extension.read_criticality.Goals as goal

pub returns-clause-exact : goal.returns-clause-exact
returns-clause-exact c = gives_exactly criticality_in criticality_at c.criticality.result c.args.r.now c.criticality.new.r criticality_exactly c.criticality.ensures
