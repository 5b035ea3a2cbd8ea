-- The queues of an outbox, one for each lane.
use Rattle.std.specs.Prelude.{ℕ, ◌-◌, List, length}
use Rattle.device_types.specs.declared.event.Lane.{Lane}
use Rattle.device_types.specs.declared.event.Lane.TheVariants.{Down, Gateway, Subscriber}
use Rattle.device_types.specs.declared.effect.Effect.{Effect}
use Rattle.device_types.specs.Journal.{effects_on}
use Rattle.effect_outbox.specs.declared.queues.Queues.{Queues}
use Rattle.effect_outbox.specs.Outbox.{OutboxState}
use Rattle.effect_outbox.specs.Queue.{part_of, longer, rest_from}

abbrev pub state_of : Queues → OutboxState
state_of queues = record { down = part_of queues.down; gateway = part_of queues.gateway; subscriber = part_of queues.subscriber; room = queues.room }

-- with the effects of one more step, which take room
abbrev pub state_with : OutboxState → List Effect → OutboxState
state_with outbox effects = record {
  down = longer outbox.down (effects_on Down effects);
  gateway = longer outbox.gateway (effects_on Gateway effects);
  subscriber = longer outbox.subscriber (effects_on Subscriber effects);
  room = outbox.room - length effects;
}

-- the effects of the lane up to k are settled, and no room is kept
abbrev pub state_from : OutboxState → Lane → ℕ → OutboxState
state_from outbox Down k = record outbox { down = rest_from outbox.down k; room = 0 }
state_from outbox Gateway k = record outbox { gateway = rest_from outbox.gateway k; room = 0 }
state_from outbox Subscriber k = record outbox { subscriber = rest_from outbox.subscriber k; room = 0 }
