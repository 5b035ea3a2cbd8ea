use Rattle.crossbeam_channel.specs.Claims.{IsSeatAt}
use Rattle.crossbeam_channel.specs.Ends.{sends_on}
use Rattle.worker_pool.proofs.entry.EntryThread.rounds.Given as goal

abbrev pub invariant-loop : goal.invariant-loop
invariant-loop g l = (goal.iterator-loop g).can_next l.iterator' × (goal.iterator-loop g).is_finite l.iterator' × IsSeatAt (sends_on l.line) l.place

abbrev pub invariant-loop-word : goal.invariant-loop-word
invariant-loop-word g l = IsSeatAt (sends_on l.line) l.place
