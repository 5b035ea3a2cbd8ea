-- A SEQUENCE is read with its bits of presence in one piece.
use Rattle.aper_types.proofs.Sequences.{sequence_reading}
use Rattle.aper_types.proofs.sequence.SequenceCoding.read.Goals as goal

pub returns-clause-read : goal.returns-clause-read
returns-clause-read g c = rw (sequence_reading g.C.Components.fields c.args.r.now) (c.read_sequence.ensures.read)
