use Rattle.std.proofs.Common.{◌≡◌, ◌-◌, Some, sym, subst, arith}
use Rattle.std.specs.Prelude.{slice_get, All}
use Rattle.std.proofs.lemmas.Option.{slice_get_read}
use Rattle.report_text.specs.Calls.{IsCallerOf}
use Rattle.report_text.proofs.Placed.{at_place}
use Rattle.report_text.proofs.calls.put_at.Goals as goal

pub put_device-requires-clause-few : goal.put_device-requires-clause-few
put_device-requires-clause-few g c =
    let end : slice_get c.args.finals.now (c.args.device.0 - 1) ≡ Some c.index-finals-index.result = slice_get_read _ _ _ _ (sym c.requires.ends.count) (omega (arith, c.requires.device)) (rw (← c.index.ensures) c.index-finals-index.is) in
    rw c.calls_in.ensures (at_place (IsCallerOf g.P.Peer.wire) _ _ _ _ _ c.requires.ends.calls c.row-row.ensures.row end).few

pub put_device-requires-clause-may : goal.put_device-requires-clause-may
put_device-requires-clause-may g c =
    let end : slice_get c.args.finals.now (c.args.device.0 - 1) ≡ Some c.index-finals-index.result = slice_get_read _ _ _ _ (sym c.requires.ends.count) (omega (arith, c.requires.device)) (rw (← c.index.ensures) c.index-finals-index.is) in
    subst (All (g.P.Peer.wire.MayMake c.row-row.result.now)) (sym c.calls_in.ensures) (at_place (IsCallerOf g.P.Peer.wire) _ _ _ _ _ c.requires.ends.calls c.row-row.ensures.row end).may

pub returns-clause-text : goal.returns-clause-text
returns-clause-text g c =
    let end : slice_get c.args.finals.now (c.args.device.0 - 1) ≡ Some c.index-finals-index.result = slice_get_read _ _ _ _ (sym c.requires.ends.count) (omega (arith, c.requires.device)) (rw (← c.index.ensures) c.index-finals-index.is) in
    rw (c.row-row.ensures.row, end, ← c.calls_in.ensures) c.put_device.ensures.text
