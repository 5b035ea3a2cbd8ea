use Rattle.std.proofs.Common.{◌∙◌, map, arith}
use Rattle.std.specs.Prelude.{All}
use Rattle.std.specs.List.Sorted.{IsStrictlyIncreasing}
use Rattle.std.proofs.lemmas.Grind.{common_steps}
use Rattle.std.proofs.lemmas.Option.{slice_get-get_or}
use Rattle.subs_table.specs.Order.{imsi_at}
use Rattle.report_text.proofs.Accepted.{comes_once, is_numbered, IsNumbered}
use Rattle.report_text.proofs.calls.calls_text.Goals as goal

pub loop-device-preserved : goal.loop-device-preserved
loop-device-preserved g c =
    let rows = c.args.table.now in
    let before = c.loop-device in
    let now = c.in_ok-put_at.ensures in
    let devices = c.deref-device-items.result.now in
    let order : IsStrictlyIncreasing (map (imsi_at rows) devices) = rw c.deref-device-items.ensures.value c.in_ok-devices.ensures.increasing in
    let within : All (IsNumbered rows) devices = rw c.deref-device-items.ensures.value c.in_ok-devices.ensures.within in
    record {
      devices = now.devices ∙ before.invariant.devices;
      none = λ i d past found.
          now.others d.0 (is_numbered rows devices i d within found) (λ same. comes_once rows devices before.device-index i _ d order (slice_get-get_or devices before.device-index _ c.loop-device-test.true) found (omega (arith, past)) same)
          ∙ before.invariant.none i d (omega (arith, past)) found;
      text = grind (arith, common_steps);
    }
