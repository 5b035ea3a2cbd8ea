-- A number is written as its bounds say.
use Rattle.std.proofs.Common.{◌-◌, length}
use Rattle.std.proofs.lemmas.Result.{on_ok_weaker}
use Rattle.aper_fields.specs.Run.{number_run}
use Rattle.aper_fields.specs.Asn1.{run}
use Rattle.aper_types.specs.Types.{number}
use Rattle.aper_fields.proofs.Written.{same_written}
use Rattle.aper_types.proofs.Sequences.{number_written}
use Rattle.aper_types.proofs.pieces.IntegerCoding.write.Goals as goal

pub returns-clause-ok : goal.returns-clause-ok
returns-clause-ok g c =
    let low = g.row.LOW in
    let high = g.row.HIGH in
    on_ok_weaker c.write.result (same_written c.args.w.now c.write.new.w (number_run low (high - low) c.args.value) (run (number low high) c.args.value) (number_written low high c.args.value c.requires.right.0 c.requires.right.1 (length c.args.w.now))) c.write.ensures.ok
