use Rattle.std.proofs.Common.{◌≡◌, ◌≤◌, drop}
use Rattle.std.specs.Prelude.{fold}
use Rattle.pool_ends.specs.Ends.{start_of, with_entry}
use Rattle.pool_ends.proofs.ends.end_of.Given as goal

abbrev pub invariant-loop-entry : goal.invariant-loop-entry
invariant-loop-entry l = record {
  gathered : fold with_entry l.end (drop l.entry-index l.journal) ≡ fold with_entry (start_of l.journal) l.journal;
  few : l.end.messages ≤ l.entry-index;
}
