use Rattle.std.proofs.Common.{◌≡◌, ◌++◌, drop}
use Rattle.std.specs.List.{flat_map}
use Rattle.trace_gen.specs.Trace.{sent_in}
use Rattle.trace_gen.proofs.trace.put_scripts.Given as goal

abbrev pub invariant-loop-script : goal.invariant-loop-script
invariant-loop-script l = l.sent.items ++ flat_map (sent_in l.device) (drop l.script-index l.scripts) ≡ l.initial.sent.items ++ flat_map (sent_in l.device) l.scripts
