-- A SEQUENCE is written with its bits of presence in one piece.
use Rattle.std.proofs.Common.{length}
use Rattle.std.proofs.lemmas.Result.{on_ok_weaker}
use Rattle.aper_fields.specs.Asn1.{sequence, run}
use Rattle.aper_types.specs.Types.{sequence_written}
use Rattle.aper_fields.proofs.Written.{same_written}
use Rattle.aper_types.proofs.Sequences.{sequence_run}
use Rattle.aper_types.proofs.sequence.SequenceCoding.write.Goals as goal

pub returns-clause-ok : goal.returns-clause-ok
returns-clause-ok g c =
    let s = g.C.Components.fields in
    on_ok_weaker c.write_sequence.result (same_written c.args.w.now c.write_sequence.new.w (sequence_written s c.args.value) (run (sequence s) c.args.value) (sequence_run s c.args.value (length c.args.w.now))) c.write_sequence.ensures.ok
