use Rattle.std.proofs.Common.{◌≡◌, ◌++◌, drop}
use Rattle.epoch_run.specs.Text.{merge_text}
use Rattle.epoch_run.proofs.text.merge_text.Given as goal

abbrev pub invariant-loop-entry : goal.invariant-loop-entry
invariant-loop-entry l = l.text ++ merge_text l.streams (drop l.entry-index l.merged) ≡ merge_text l.streams l.merged
