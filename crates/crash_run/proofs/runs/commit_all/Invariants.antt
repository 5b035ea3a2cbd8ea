use Rattle.crash_run.specs.Stores.{IsStore}
use Rattle.crash_run.proofs.runs.commit_all.Given as goal

abbrev pub invariant-loop-index : goal.invariant-loop-index
invariant-loop-index l = IsStore l.maker l.store.store l.store.is_open

abbrev pub invariant-loop-entry : goal.invariant-loop-entry
invariant-loop-entry l = IsStore l.maker l.store.store l.store.is_open
