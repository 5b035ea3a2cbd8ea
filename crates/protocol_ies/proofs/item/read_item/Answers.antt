-- An item of a list is read exactly: the id that all items of the list have, a criticality, and an open type, given as a container.
use Rattle.aper_fields.proofs.Formats.{gives_exactly}
use Rattle.aper_fields.specs.SequenceReading.{item_at}
use Rattle.aper_fields.specs.Sequence.{item_in}
use Rattle.aper_fields.proofs.SequenceExact.{item_exactly}
use Rattle.protocol_ies.proofs.item.read_item.Goals as goal

pub returns-clause-exact : goal.returns-clause-exact
returns-clause-exact c = gives_exactly (item_in c.args.id) (item_at c.args.id) c.read_fields.result c.args.r.now c.read_fields.new.r (item_exactly c.args.id) c.read_fields.ensures
