-- The queue of a lane.
use Rattle.std.specs.Prelude.{ℕ, ◌+◌, ◌-◌, ◌^◌, ◌<◌, ◌≤◌, max, nat_lt, List, [], ◌++◌, length, drop, slice_get, Option, None, if◌then◌else◌}
use Rattle.std.proofs.Common.{deque_len, deque_capacity}
use Rattle.device_types.specs.declared.effect.Effect.{Effect}
use Rattle.effect_outbox.specs.declared.queue.LaneQueue.{LaneQueue}
use Rattle.effect_outbox.specs.Outbox.{Unsettled}

-- a lane without effects
abbrev pub none : Unsettled
none = record { settled = 0; rest = [] }

abbrev pub part_of : LaneQueue → Unsettled
part_of queue = record { settled = queue.settled; rest = queue.effects.items }

-- there is room for so many more, and their numbers are below 2^64
pub record HasRoom (queue : LaneQueue) (more : ℕ) : Type 0 where
  pub room : deque_len queue.effects + more ≤ deque_capacity queue.effects
  pub counted : queue.settled + length queue.effects.items + more < 2 ^ 64

-- effect k, while it is not settled
abbrev pub rest_at : Unsettled → ℕ → Option Effect
rest_at part k = if nat_lt part.settled k then slice_get part.rest (k - part.settled - 1) else None

-- the effects up to k are settled
abbrev pub rest_from : Unsettled → ℕ → Unsettled
rest_from part k = record { settled = max k part.settled; rest = drop (k - part.settled) part.rest }

abbrev pub longer : Unsettled → List Effect → Unsettled
longer part effects = record part { rest = part.rest ++ effects }
