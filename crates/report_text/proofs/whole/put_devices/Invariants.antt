use Rattle.std.proofs.Common.{◌≡◌, ◌++◌, drop}
use Rattle.std.specs.Prelude.{string_bytes}
use Rattle.std.specs.List.{flat_map}
use Rattle.report_text.specs.Final.{text_at, devices_text}
use Rattle.report_text.proofs.whole.put_devices.Given as goal

abbrev pub invariant-loop-device : goal.invariant-loop-device
invariant-loop-device l = string_bytes l.text ++ flat_map (text_at l.table l.finals) (drop l.device-index l.device-items) ≡ string_bytes l.initial.text ++ devices_text l.table l.finals
