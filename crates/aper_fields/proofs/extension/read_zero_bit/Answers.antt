-- A bit that has to be 0 is read exactly, and refused for the given reason where it is 1.
use Rattle.aper_fields.proofs.Formats.{gives_exactly}
use Rattle.aper_fields.specs.SequenceReading.{zero_bit_at}
use Rattle.aper_fields.specs.Sequence.{zero_bit_in}
use Rattle.aper_fields.proofs.SequenceExact.{zero_bit_exactly}
use Rattle.aper_fields.proofs.extension.read_zero_bit.Goals as goal

pub returns-clause-exact : goal.returns-clause-exact
returns-clause-exact c = gives_exactly (zero_bit_in c.args.reason) (zero_bit_at c.args.reason) c.zero_bit.result c.args.r.now c.zero_bit.new.r (zero_bit_exactly c.args.reason) c.zero_bit.ensures
