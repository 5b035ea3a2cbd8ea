use Rattle.std.proofs.Common.{◌≡◌, drop}
use Rattle.std.specs.Prelude.{fold}
use Rattle.epoch_run.specs.Text.{and_entry, messages_merged}
use Rattle.epoch_run.proofs.text.messages_merged.Given as goal

abbrev pub invariant-loop-entry : goal.invariant-loop-entry
invariant-loop-entry l = fold (and_entry l.streams) l.messages (drop l.entry-index l.merged) ≡ messages_merged l.streams l.merged
