use Rattle.std.proofs.Common.{◌≡◌, ◌+◌, ◌++◌, drop}
use Rattle.std.specs.Prelude.{string_bytes}
use Rattle.report_text.specs.Device.{sent_line}
use Rattle.report_text.specs.Lines.{numbered_from}
use Rattle.report_text.proofs.device.put_downs.Given as goal

abbrev pub invariant-loop-down : goal.invariant-loop-down
invariant-loop-down l = record {
  count : l.number ≡ l.down-index;
  text : string_bytes l.text ++ numbered_from (sent_line l.row) (l.number + 1) (drop l.down-index l.downs) ≡ string_bytes l.initial.text ++ numbered_from (sent_line l.row) 1 l.downs;
}
