use Rattle.std.proofs.Common.{◌≡◌, ◌-◌, Some, sym, arith}
use Rattle.std.specs.Prelude.{slice_get}
use Rattle.std.proofs.lemmas.Option.{slice_get_read}
use Rattle.device_types.specs.Finals.{IsEndOf}
use Rattle.report_text.proofs.Placed.{at_place}
use Rattle.report_text.proofs.whole.put_at.Goals as goal

pub put_device-requires-clause-downs : goal.put_device-requires-clause-downs
put_device-requires-clause-downs c =
    let end : slice_get c.args.finals.now (c.args.device.0 - 1) ≡ Some c.index-finals-index.result = slice_get_read _ _ _ _ (sym c.requires.ends.count) (omega (arith, c.requires.device)) (rw (← c.index.ensures) c.index-finals-index.is) in
    at_place IsEndOf _ _ _ _ _ c.requires.ends.downs c.row-row.ensures.row end

pub returns : goal.returns
returns c =
    let end : slice_get c.args.finals.now (c.args.device.0 - 1) ≡ Some c.index-finals-index.result = slice_get_read _ _ _ _ (sym c.requires.ends.count) (omega (arith, c.requires.device)) (rw (← c.index.ensures) c.index-finals-index.is) in
    rw (c.row-row.ensures.row, end) c.put_device.ensures
