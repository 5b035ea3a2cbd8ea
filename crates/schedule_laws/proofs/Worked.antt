-- Worked schedules: the answer to each event, computed.
use Rattle.std.proofs.Common.{◌≡◌, ℕ, List, [], ◌∷◌, ◌++◌, take, Some, None, refl}
use Rattle.device_types.specs.declared.event.Event.{Event}
use Rattle.device_types.specs.declared.event.Event.TheVariants.{Send, Take, Answer, Read, Write, Stop, Reply, Push, Effect, Settle}
use Rattle.device_types.specs.declared.event.EventAnswer.TheVariants as told
use Rattle.device_types.specs.declared.event.Lane.TheVariants.{Down, Gateway, Subscriber}
use Rattle.device_types.specs.declared.message.Body.{Body}
use Rattle.device_types.specs.declared.message.Body.TheVariants as bodies
use Rattle.device_types.specs.declared.message.Message.{Message}
use Rattle.device_types.specs.declared.subscriber.DeviceId.{DeviceId}
use Rattle.device_types.specs.Acts.{moves_connection, drops_ue, frees_bearers}
use Rattle.device_types.specs.StepTable.{step_table, step_of}
use Rattle.device_types.specs.declared.effect.Effect.TheVariants as effects
use Rattle.device_types.specs.declared.effect.SubCall.TheVariants.{Vectors}
use Rattle.device_types.specs.declared.input.Answer.TheVariants as answer
use Rattle.device_types.specs.Alone.{alone_of}
use Rattle.schedule_laws.specs.Answer.{answers, history}
use Rattle.schedule_laws.specs.Counts.{Turn, hand, commits, acked, accepted, settled, greatest_sent}
use Rattle.schedule_laws.specs.Counts.Arrival.{TheMessage, TheAnswer}
use Rattle.schedule_laws.specs.Counts.Held.{Nothing, Taken, Ready}
use Rattle.schedule_laws.specs.Packets.{message_packet, effect_packet, answer_packet, reply_packet}
use Rattle.schedule_laws.specs.Setting.{Setting, no_row}

from : ℕ → Body → Message
from number body = record { number = number; station = 1; enb = 1; body = body }

-- one device with these messages
with : List Message → ℕ → Setting
with messages replicas = record { rows = record no_row { number = 1; res = 3 ∷ 4 ∷ [] } ∷ []; book = messages ∷ []; replicas = replicas }

attach : Message
attach = from 1 (bodies.Attach 0x02f839 1 224 224 1)

response : Message
response = from 2 (bodies.Response (3 ∷ 4 ∷ []))

-- of a detached device, each of them is rejected
services : List Message
services = from 1 bodies.Service ∷ from 2 bodies.Service ∷ from 3 bodies.Service ∷ from 4 bodies.Service ∷ from 5 bodies.Service ∷ []

d : DeviceId
d = record { 0 = 1 }

-- two replicas take one message: one commits, the other is stale
race : List Event
race = Send d 1 ∷ Take 1 d 1 ∷ Take 2 d 1 ∷ Read 1 ∷ Read 2 ∷ Write 1 ∷ Write 2 ∷ []

race_answers : answers (with (attach ∷ []) 2) race ≡ told.Sent ∷ told.Taken ∷ told.Taken ∷ told.Ready 0 ∷ told.Ready 0 ∷ told.Committed 1 ∷ told.Stale 0 1 ∷ []
unfolding step_table step_of moves_connection drops_ue frees_bearers from with attach d race
race_answers = refl

-- a replica stops between the commit and its reply: the message is sent again, and another replica finds the reply
stop : List Event
stop = Send d 1 ∷ Take 1 d 1 ∷ Read 1 ∷ Write 1 ∷ Stop 1 ∷ Send d 1 ∷ Take 2 d 1 ∷ Read 2 ∷ Reply d 1 ∷ Reply d 1 ∷ []

stop_answers : answers (with (attach ∷ []) 2) stop ≡ told.Sent ∷ told.Taken ∷ told.Ready 0 ∷ told.Committed 1 ∷ told.Stopped ∷ told.Sent ∷ told.Taken ∷ told.Repeat 1 ∷ told.Acked 1 ∷ told.Old 1 ∷ []
unfolding step_table step_of moves_connection drops_ue frees_bearers from with attach d stop
stop_answers = refl

-- a message overtakes the one before it, and then waits for the answer to a call
overtaken : List Event
overtaken = Send d 2 ∷ Take 1 d 2 ∷ Read 1 ∷ Send d 1 ∷ Take 2 d 1 ∷ Read 2 ∷ Write 2 ∷ Read 1 ∷ Write 1 ∷ []

overtaken_answers : answers (with (attach ∷ response ∷ []) 2) overtaken ≡ told.Sent ∷ told.Taken ∷ told.Ahead 0 ∷ told.Sent ∷ told.Taken ∷ told.Ready 0 ∷ told.Committed 1 ∷ told.Waiting Subscriber 1 ∷ told.VoidHand ∷ []
unfolding step_table step_of moves_connection drops_ue frees_bearers from with attach response d overtaken
overtaken_answers = refl

-- behind the race, a call arrives three times, and its answer twice
call : List Event
call = race ++ Push d Subscriber 1 ∷ Effect d Subscriber 1 ∷ Effect d Subscriber 1 ∷ Effect d Subscriber 1 ∷ Answer 1 d Subscriber 1 ∷ Read 1 ∷ Write 1 ∷ Answer 2 d Subscriber 1 ∷ Read 2 ∷ Settle d Subscriber 1 ∷ Settle d Subscriber 1 ∷ Push d Subscriber 1 ∷ []

call_answers : answers (with (attach ∷ []) 2) call ≡
    told.Sent ∷ told.Taken ∷ told.Taken ∷ told.Ready 0 ∷ told.Ready 0 ∷ told.Committed 1 ∷ told.Stale 0 1
    ∷ told.Pushed ∷ told.Accepted 1 ∷ told.Repeat 1 ∷ told.Repeat 1 ∷ told.Taken ∷ told.Ready 1 ∷ told.Committed 2 ∷ told.Taken ∷ told.OldCall Subscriber 1 ∷ told.Settled 1 ∷ told.Old 1 ∷ told.VoidOutbox ∷ []
unfolding step_table step_of moves_connection drops_ue frees_bearers from with attach d race call
call_answers = refl

-- a replica takes message n, and writes it
served : ℕ → List Event
served n = Send d n ∷ Take 1 d n ∷ Read 1 ∷ Write 1 ∷ []

-- five messages, of which the first is acknowledged behind the fourth: its reply is no longer kept, the second's is
windows : List Event
windows = served 1 ++ served 2 ++ served 3 ++ served 4 ++ Reply d 1 ∷ served 5 ++ Take 2 d 1 ∷ Read 2 ∷ Take 2 d 2 ∷ Read 2 ∷ Send d 6 ∷ []

windows_answers : answers (with services 2) windows ≡
    told.Sent ∷ told.Taken ∷ told.Ready 0 ∷ told.Committed 1 ∷ told.Sent ∷ told.Taken ∷ told.Ready 1 ∷ told.Committed 2
    ∷ told.Sent ∷ told.Taken ∷ told.Ready 2 ∷ told.Committed 3 ∷ told.Sent ∷ told.Taken ∷ told.Ready 3 ∷ told.Committed 4 ∷ told.Acked 1
    ∷ told.Sent ∷ told.Taken ∷ told.Ready 4 ∷ told.Committed 5 ∷ told.Taken ∷ told.Settled 1 ∷ told.Taken ∷ told.Repeat 2 ∷ told.VoidWindow ∷ []
unfolding step_table step_of moves_connection drops_ue frees_bearers from with services d served windows
windows_answers = refl

-- nothing was sent, made or pushed; with one replica, each event that names a second is void
void : List Event
void =
    Stop 2 ∷ Write 1 ∷ Push d Down 1 ∷ Take 1 d 1 ∷ Effect d Down 1
    ∷ Read 1 ∷ Answer 1 d Gateway 1 ∷ Reply d 1 ∷ Settle d Down 1 ∷ Take 2 d 1 ∷ Answer 2 d Gateway 1 ∷ Read 2 ∷ Write 2 ∷ Send d 2 ∷ []

void_answers : answers (with (attach ∷ []) 1) void ≡
    told.VoidReplica ∷ told.VoidHand ∷ told.VoidOutbox ∷ told.VoidLink ∷ told.VoidLink
    ∷ told.VoidHand ∷ told.VoidLink ∷ told.VoidLink ∷ told.VoidLink ∷ told.VoidReplica ∷ told.VoidReplica ∷ told.VoidReplica ∷ told.VoidReplica ∷ told.VoidWindow ∷ []
unfolding step_table step_of moves_connection drops_ue frees_bearers from with attach d void
void_answers = refl

-- two messages to the device arrive out of turn, and are settled at once
downs : List Event
downs = served 1 ++ served 2 ++ Push d Down 2 ∷ Effect d Down 2 ∷ Push d Down 1 ∷ Effect d Down 1 ∷ Effect d Down 2 ∷ Effect d Down 1 ∷ Settle d Down 2 ∷ Settle d Down 1 ∷ Push d Down 2 ∷ Push d Down 3 ∷ []

downs_answers : answers (with services 1) downs ≡
    told.Sent ∷ told.Taken ∷ told.Ready 0 ∷ told.Committed 1 ∷ told.Sent ∷ told.Taken ∷ told.Ready 1 ∷ told.Committed 2
    ∷ told.Pushed ∷ told.Ahead 0 ∷ told.Pushed ∷ told.Accepted 1 ∷ told.Accepted 2 ∷ told.Repeat 1 ∷ told.Settled 2 ∷ told.Old 1 ∷ told.VoidOutbox ∷ told.VoidOutbox ∷ []
unfolding step_table step_of moves_connection drops_ue frees_bearers from with services d served downs
downs_answers = refl

-- a void event leaves the hand; a read that finds no step leaves what arrived; a write of a read before is stale
hands : List Event
hands = Send d 1 ∷ Send d 2 ∷ Take 1 d 1 ∷ Read 1 ∷ Take 1 d 3 ∷ Take 2 d 1 ∷ Read 2 ∷ Write 2 ∷ Write 1 ∷ Read 1 ∷ Take 1 d 2 ∷ Read 1 ∷ Stop 1 ∷ Write 1 ∷ []

hands_answers : answers (with services 2) hands ≡
    told.Sent ∷ told.Sent ∷ told.Taken ∷ told.Ready 0 ∷ told.VoidLink ∷ told.Taken ∷ told.Ready 0 ∷ told.Committed 1 ∷ told.Stale 0 1
    ∷ told.VoidHand ∷ told.Taken ∷ told.Ready 1 ∷ told.Stopped ∷ told.VoidHand ∷ []
unfolding step_table step_of moves_connection drops_ue frees_bearers from with services d hands
hands_answers = refl

-- four messages are sent ahead, and no fifth before the first is acknowledged, which is then sent no more
sends : List Event
sends = Send d 4 ∷ Send d 5 ∷ served 1 ++ Reply d 1 ∷ Send d 5 ∷ Send d 1 ∷ []

sends_answers : answers (with services 1) sends ≡ told.Sent ∷ told.VoidWindow ∷ told.Sent ∷ told.Taken ∷ told.Ready 0 ∷ told.Committed 1 ∷ told.Acked 1 ∷ told.Sent ∷ told.VoidWindow ∷ []
unfolding step_table step_of moves_connection drops_ue frees_bearers from with services d served sends
sends_answers = refl

-- a second device, and what is the first's is not its own, nor is one lane the other
e : DeviceId
e = record { 0 = 2 }

both : Setting
both = record { rows = record no_row { number = 1 } ∷ record no_row { number = 2 } ∷ []; book = (attach ∷ []) ∷ (from 1 bodies.Service ∷ []) ∷ []; replicas = 2 }

two : List Event
two =
    Send d 1 ∷ Take 1 e 1 ∷ Send e 1 ∷ Take 1 d 1 ∷ Take 2 e 1 ∷ Read 1 ∷ Read 2 ∷ Write 1 ∷ Write 2 ∷ Reply e 1 ∷ Reply d 2 ∷ Push e Subscriber 1 ∷ Push d Subscriber 1 ∷ Effect e Subscriber 1
    ∷ Effect d Gateway 1 ∷ Effect d Subscriber 1 ∷ Answer 1 e Subscriber 1 ∷ Settle e Subscriber 1 ∷ Settle d Gateway 1 ∷ Settle d Subscriber 1 ∷ Push d Subscriber 1 ∷ Push e Down 1 ∷ Send d 1 ∷ Send e 1 ∷ []

two_answers : answers both two ≡
    told.Sent ∷ told.VoidLink ∷ told.Sent ∷ told.Taken ∷ told.Taken ∷ told.Ready 0 ∷ told.Ready 0 ∷ told.Committed 1 ∷ told.Committed 1 ∷ told.Acked 1 ∷ told.VoidLink ∷ told.VoidOutbox ∷ told.Pushed ∷ told.VoidLink
    ∷ told.VoidLink ∷ told.Accepted 1 ∷ told.VoidLink ∷ told.VoidLink ∷ told.VoidLink ∷ told.Settled 1 ∷ told.VoidOutbox ∷ told.Pushed ∷ told.Sent ∷ told.VoidWindow ∷ []
unfolding step_table step_of moves_connection drops_ue frees_bearers from both attach d e two
two_answers = refl

-- ---- what the turns of the call leave

after_call : List Turn
after_call = history (with (attach ∷ []) 2) call

call_counts : (commits 1 after_call ≡ 2) × (acked 1 after_call ≡ 0) × (accepted 1 Subscriber after_call ≡ 1) × (settled 1 Subscriber after_call ≡ 1) × (accepted 1 Down after_call ≡ 0) × (greatest_sent 1 after_call ≡ 1)
unfolding step_table step_of moves_connection drops_ue frees_bearers from with attach d race call after_call
call_counts = (refl, refl, refl, refl, refl, refl)

call_hands : (hand 1 after_call ≡ Nothing) × (hand 2 after_call ≡ Taken 1 (TheAnswer Subscriber 1))
unfolding step_table step_of moves_connection drops_ue frees_bearers from with attach d race call after_call
call_hands = (refl, refl)

-- the step that the first replica had before it wrote
race_hand : hand 1 (history (with (attach ∷ []) 2) (take 5 race)) ≡ Ready 1 (TheMessage 1) 0
unfolding step_table step_of moves_connection drops_ue frees_bearers from with attach d race
race_hand = refl

message_on : message_packet (with (attach ∷ []) 2) after_call 1 1 ≡ Some attach
unfolding step_table step_of moves_connection drops_ue frees_bearers from with attach d race call after_call
message_on = refl

-- the message made no message to the device
reply_on : reply_packet (with (attach ∷ []) 2) after_call 1 1 ≡ Some (record { number = 1; version = 1; downs = [] })
unfolding alone_of step_table step_of moves_connection drops_ue frees_bearers from with attach d race call after_call
reply_on = refl

effect_on : effect_packet (with (attach ∷ []) 2) after_call 1 Subscriber 1 ≡ Some (effects.Subscriber Vectors)
unfolding alone_of step_table step_of moves_connection drops_ue frees_bearers from with attach d race call after_call
effect_on = refl

-- none was pushed on this lane
no_effect_on : effect_packet (with (attach ∷ []) 2) after_call 1 Down 1 ≡ None
unfolding alone_of step_table step_of moves_connection drops_ue frees_bearers from with attach d race call after_call
no_effect_on = refl

answer_on : answer_packet (with (attach ∷ []) 2) after_call 1 Subscriber 1 ≡ Some (answer.Vectors [] [] (3 ∷ 4 ∷ []) [])
unfolding alone_of step_table step_of moves_connection drops_ue frees_bearers from with attach d race call after_call
answer_on = refl
