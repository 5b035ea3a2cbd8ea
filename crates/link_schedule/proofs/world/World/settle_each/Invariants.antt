use Rattle.std.proofs.Common.{◌≤◌, ◌+◌, ℕ, length}
use Rattle.device_types.specs.declared.event.Lane.{Lane}
use Rattle.device_types.specs.Numbers.{IsWithin}
use Rattle.link_schedule.specs.Settled.{GoesOn, IsDone, IsClearLane, cost_to}
use Rattle.link_schedule.proofs.world.World.settle_each.Given as goal

abbrev pub invariant-loop-index : goal.invariant-loop-index
invariant-loop-index l =
    record {
      goes_on : GoesOn l.initial.self l.self;
      few : length l.self.events ≤ length l.initial.self.events + cost_to l.initial.self.setting l.index;
      done : (d : ℕ) → IsWithin l.index d → IsDone l.self d;
      clear : (d : ℕ) (lane : Lane) → IsWithin l.index d → IsClearLane l.self d lane;
    }
