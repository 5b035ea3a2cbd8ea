-- What becomes of a device.
use Rattle.std.specs.Prelude.{ℕ, List, ◌∷◌, [], ◌++◌, length, map, fold, Option, Some, None}
use Rattle.std.specs.List.{filter_map, zip}
use Rattle.device_types.specs.declared.down.Down.{Down}
use Rattle.device_types.specs.declared.effect.Effect.{Effect}
use Rattle.device_types.specs.declared.effect.Effect.TheVariants as effects
use Rattle.device_types.specs.declared.effect.GwCall.{GwCall}
use Rattle.device_types.specs.declared.effect.SubCall.{SubCall}
use Rattle.device_types.specs.declared.event.Lane.TheVariants as lanes
use Rattle.device_types.specs.declared.finals.DeviceEnd.{DeviceEnd}
use Rattle.device_types.specs.declared.message.Message.{Message}
use Rattle.device_types.specs.declared.step.Entry.{Entry}
use Rattle.device_types.specs.declared.session.Session.{Session}
use Rattle.device_types.specs.declared.subscriber.Subscriber.{Subscriber}
use Rattle.device_types.specs.Alone.{alone_of}
use Rattle.device_types.specs.Journal.{effects_of, session_of}
use Rattle.device_machine.specs.declared.ends.Lanes.{Lanes}

-- ---- the lanes of a journal, each as a list of its own type

abbrev pub down_in : Effect → Option Down
down_in (effects.Down down) = Some down
down_in (effects.Gateway call) = None
down_in (effects.Subscriber call) = None

abbrev pub gateway_in : Effect → Option GwCall
gateway_in (effects.Down down) = None
gateway_in (effects.Gateway call) = Some call
gateway_in (effects.Subscriber call) = None

abbrev pub subscriber_in : Effect → Option SubCall
subscriber_in (effects.Down down) = None
subscriber_in (effects.Gateway call) = None
subscriber_in (effects.Subscriber call) = Some call

abbrev pub downs_of : List Entry → List Down
downs_of journal = filter_map down_in (effects_of lanes.Down journal)

abbrev pub gateway_of : List Entry → List GwCall
gateway_of journal = filter_map gateway_in (effects_of lanes.Gateway journal)

abbrev pub subscriber_of : List Entry → List SubCall
subscriber_of journal = filter_map subscriber_in (effects_of lanes.Subscriber journal)

-- ---- what becomes of a device

-- what a journal comes to, in which so many messages were taken
abbrev pub end_by : ℕ → List Entry → DeviceEnd
end_by messages journal = record {
  messages = messages;
  steps = length journal;
  downs = downs_of journal;
  gateway = gateway_of journal;
  subscriber = subscriber_of journal;
  session = session_of journal;
}

-- of the device that is alone with its messages
abbrev pub end_of : Subscriber → List Message → DeviceEnd
end_of row messages = end_by (length messages) (alone_of row messages)

-- of each device: its row, and its line of a book
abbrev pub finals_of : List Subscriber → List (List Message) → List DeviceEnd
finals_of rows book = map (λ device. end_of device.0 device.1) (zip rows book)

-- ---- what is kept on the way

-- what a journal has on its lanes
abbrev pub lanes_of : List Entry → Lanes
lanes_of journal = record { downs = downs_of journal; gateway = gateway_of journal; subscriber = subscriber_of journal }

-- with one more effect
abbrev pub with_effect : Lanes → Effect → Lanes
with_effect kept (effects.Down down) = record kept { downs = kept.downs ++ down ∷ [] }
with_effect kept (effects.Gateway call) = record kept { gateway = kept.gateway ++ call ∷ [] }
with_effect kept (effects.Subscriber call) = record kept { subscriber = kept.subscriber ++ call ∷ [] }

-- with the last session
abbrev pub ended : ℕ → ℕ → Lanes → Session → DeviceEnd
ended messages steps lanes session = record {
  messages = messages;
  steps = steps;
  downs = lanes.downs;
  gateway = lanes.gateway;
  subscriber = lanes.subscriber;
  session = session;
}
