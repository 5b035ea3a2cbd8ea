use Rattle.session_store.specs.Shards.{AreOpened}
use Rattle.session_store.proofs.store.opening_shards.Given as goal

abbrev pub invariant-loop-number : goal.invariant-loop-number
invariant-loop-number g l = AreOpened (g.L.RowLaw.charter l.law) l.devices l.number l.shards.items
