use Rattle.std.proofs.Common.{◌≡◌, ◌+◌, ◌++◌, drop}
use Rattle.std.specs.Prelude.{string_bytes}
use Rattle.report_text.specs.Device.{subscriber_line}
use Rattle.report_text.specs.Lines.{numbered_from}
use Rattle.report_text.proofs.device.put_subscriber.Given as goal

abbrev pub invariant-loop-call : goal.invariant-loop-call
invariant-loop-call l = record {
  count : l.number ≡ l.call-index;
  text : string_bytes l.text ++ numbered_from subscriber_line (l.number + 1) (drop l.call-index l.calls) ≡ string_bytes l.initial.text ++ numbered_from subscriber_line 1 l.calls;
}
