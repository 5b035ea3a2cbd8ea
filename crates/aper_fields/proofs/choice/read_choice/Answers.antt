-- The index of a CHOICE is read exactly behind its extension bit, as reading the two from left to right is exact.
use Rattle.aper_fields.proofs.Formats.{gives_exactly}
use Rattle.aper_fields.specs.SequenceReading.{choice_at}
use Rattle.aper_fields.specs.Sequence.{choice_in}
use Rattle.aper_fields.proofs.SequenceExact.{choice_exactly}
use Rattle.aper_fields.proofs.choice.read_choice.Goals as goal

pub returns-clause-exact : goal.returns-clause-exact
returns-clause-exact c = gives_exactly (choice_in c.args.roots c.args.count) (choice_at c.args.roots c.args.count) c.choice.result c.args.r.now c.choice.new.r (choice_exactly c.args.roots c.args.count) c.choice.ensures.read
