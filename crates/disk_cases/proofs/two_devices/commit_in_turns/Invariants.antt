use Rattle.std.proofs.Common.{◌≡◌, ◌≤◌, ◌-◌, true, length}
use Rattle.disk_cases.proofs.two_devices.commit_in_turns.Given as goal

abbrev pub invariant-loop-made : goal.invariant-loop-made
invariant-loop-made g l = (l.store.is_open ≡ true) × (length l.store.store.rows ≡ 2) × (l.made ≤ l.fn.commits)

abbrev pub decreases-loop-made : goal.decreases-loop-made
decreases-loop-made g l = l.fn.commits - l.made
