use Rattle.std.proofs.Common.{◌≡◌, ◌-◌, length}
use Rattle.session_store.specs.Rows.{AreLawful}
use Rattle.session_disk.specs.Replay.{IsReplayed}
use Rattle.session_disk.proofs.replay.replay.Given as goal

abbrev pub invariant-loop-at : goal.invariant-loop-at
invariant-loop-at g l =
    IsReplayed l.fn.devices (g.M.Maker.made l.fn.store.charter) l.fn.octets l.at l.store.rows × (l.store.charter ≡ l.fn.store.charter) × AreLawful (g.L.RowLaw.follows l.store.charter) l.store.rows

abbrev pub decreases-loop-at : goal.decreases-loop-at
decreases-loop-at g l = length l.fn.octets - l.at
