-- The effects of a device by lane, of which the settled ones may be gone.
use Rattle.std.specs.Prelude.{◌≡◌, ℕ, ◌+◌, ◌-◌, ◌≤◌, max, nat_lt, nat_le, List, ◌++◌, length, drop, slice_get, Option, None, if◌then◌else◌}
use Rattle.device_types.specs.declared.event.Lane.{Lane}
use Rattle.device_types.specs.declared.event.Lane.TheVariants as lane
use Rattle.device_types.specs.declared.effect.Effect.{Effect}
use Rattle.device_types.specs.Journal.{effects_on}
use Rattle.effect_outbox.specs.declared.settled.Settled.{Settled}
use Rattle.effect_outbox.specs.declared.settled.Settled.TheVariants.{Upto, Old}

-- a number for each lane
pub record LaneNumbers : Type 0 where
  pub down : ℕ
  pub gateway : ℕ
  pub subscriber : ℕ

abbrev pub number_on : LaneNumbers → Lane → ℕ
number_on numbers lane.Down = numbers.down
number_on numbers lane.Gateway = numbers.gateway
number_on numbers lane.Subscriber = numbers.subscriber

-- that of the lane is at least k
abbrev pub with_number : LaneNumbers → Lane → ℕ → LaneNumbers
with_number numbers lane.Down k = record numbers { down = max k numbers.down }
with_number numbers lane.Gateway k = record numbers { gateway = max k numbers.gateway }
with_number numbers lane.Subscriber k = record numbers { subscriber = max k numbers.subscriber }

-- of a lane, how many effects are settled, and those behind them in order
pub record Unsettled : Type 0 where
  pub settled : ℕ
  pub rest : List Effect

-- the lanes, and for how many more effects there is room, whatever their lanes
pub record OutboxState : Type 0 where
  pub down : Unsettled
  pub gateway : Unsettled
  pub subscriber : Unsettled
  pub room : ℕ

abbrev pub part_on : OutboxState → Lane → Unsettled
part_on outbox lane.Down = outbox.down
part_on outbox lane.Gateway = outbox.gateway
part_on outbox lane.Subscriber = outbox.subscriber

abbrev pub settled_of : OutboxState → LaneNumbers
settled_of outbox = record { down = outbox.down.settled; gateway = outbox.gateway.settled; subscriber = outbox.subscriber.settled }

-- how many effects of the lane were made
abbrev pub pushed_on : OutboxState → Lane → ℕ
pushed_on outbox lane = (part_on outbox lane).settled + length (part_on outbox lane).rest

-- it is what is unsettled of a lane of these effects, of which so many are settled
pub record IsRest (part : Unsettled) (effects : List Effect) (count : ℕ) : Type 0 where
  pub settled : part.settled ≡ count
  pub within : count ≤ length effects
  pub rest : part.rest ≡ drop count effects

-- the outbox holds the unsettled rest of three lanes, of which so many effects are settled
pub record Holds (outbox : OutboxState) (lanes : Lane → List Effect) (settled : LaneNumbers) : Type 0 where
  pub on : (l : Lane) → IsRest (part_on outbox l) (lanes l) (number_on settled l)

-- lanes with the effects of one more step
abbrev pub with_effects : (Lane → List Effect) → List Effect → Lane → List Effect
with_effects lanes effects l = lanes l ++ effects_on l effects

-- effect k of a lane, from 1, while it is not settled
abbrev pub unsettled_at : List Effect → ℕ → ℕ → Option Effect
unsettled_at effects settled k = if nat_lt settled k then slice_get effects (k - 1) else None

-- what the acknowledgement of effect k comes to, where so many are settled
abbrev pub settled_by : ℕ → ℕ → Settled
settled_by settled k = if nat_le k settled then Old settled else Upto k
