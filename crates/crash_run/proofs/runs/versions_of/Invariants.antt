use Rattle.std.proofs.Common.{◌≡◌, true, length}
use Rattle.crash_run.proofs.runs.versions_of.Given as goal

abbrev pub invariant-loop-index : goal.invariant-loop-index
invariant-loop-index l = record {
  is_open : l.store.is_open ≡ true;
  rows : length l.store.store.rows ≡ l.devices;
}
