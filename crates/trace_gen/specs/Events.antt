-- The events of a message, and those of a call after it. Two replicas work: r is the first, and 3 - r the other.
use Rattle.std.specs.Prelude.{ℕ, ◌-◌, List, [], ◌∷◌}
use Rattle.device_types.specs.declared.event.Lane.{Lane}
use Rattle.device_types.specs.declared.event.Event.{Event}
use Rattle.device_types.specs.declared.event.Event.TheVariants.{Send, Take, Answer, Read, Write, Stop, Reply, Push, Effect, Settle}
use Rattle.device_types.specs.declared.subscriber.DeviceId.{DeviceId}
use Rattle.trace_gen.specs.declared.script.Call.{Call}
use Rattle.trace_gen.specs.declared.script.Call.TheVariants.{Subscriber, Gateway, Notice}
use Rattle.trace_gen.specs.Scripts.{lane_of}

abbrev pub other : ℕ → ℕ
other r = 3 - r

-- message n of device d: both replicas take and read it before either writes
unfoldable pub message_events : ℕ → DeviceId → ℕ → List Event
message_events r d n = Send d n ∷ Take r d n ∷ Take (other r) d n ∷ Read r ∷ Read (other r) ∷ Write r ∷ Write (other r) ∷ Reply d n ∷ []

-- call k on a lane: it arrives twice; the first replica stops once it has read the answer, and the other writes
abbrev pub answered_events : ℕ → DeviceId → Lane → ℕ → List Event
answered_events r d lane k = Push d lane k ∷ Effect d lane k ∷ Effect d lane k ∷ Answer r d lane k ∷ Read r ∷ Stop r ∷ Answer (other r) d lane k ∷ Read (other r) ∷ Write (other r) ∷ Settle d lane k ∷ []

-- a notice has no answer
abbrev pub notice_events : DeviceId → Lane → ℕ → List Event
notice_events d lane k = Push d lane k ∷ Effect d lane k ∷ Settle d lane k ∷ []

abbrev pub call_events : ℕ → DeviceId → Call → ℕ → List Event
call_events r d Subscriber k = answered_events r d (lane_of Subscriber) k
call_events r d Gateway k = answered_events r d (lane_of Gateway) k
call_events r d Notice k = notice_events d (lane_of Notice) k
