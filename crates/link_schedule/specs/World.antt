-- A world, and what its parts are after its events.
use Rattle.std.specs.Prelude.{◌≡◌, ◌==◌, ◌&&◌, ◌||◌, ℕ, ◌-◌, ◌≤◌, Bool, List, [], ◌∷◌, ◌++◌, length, map, take, All, Option, Some, if◌then◌else◌, nat_le, slice_get, slice_index_or, true, IsSomeAnd}
use Rattle.agent_order.specs.Order.{message_at}
use Rattle.agent_resend.specs.Window.{WindowState}
use Rattle.device_types.specs.declared.effect.Effect.{Effect}
use Rattle.device_types.specs.declared.effect.Effect.TheVariants as effects
use Rattle.device_types.specs.declared.effect.GwCall.{GwCall}
use Rattle.device_types.specs.declared.effect.SubCall.{SubCall}
use Rattle.device_types.specs.declared.event.Event.{Event}
use Rattle.device_types.specs.declared.event.EventAnswer.{EventAnswer}
use Rattle.device_types.specs.declared.event.Lane.{Lane}
use Rattle.device_types.specs.declared.event.Lane.TheVariants.{Down, Gateway, Subscriber}
use Rattle.device_types.specs.declared.input.Answer.{Answer}
use Rattle.device_types.specs.declared.message.Message.{Message}
use Rattle.device_types.specs.declared.step.Reply.{Reply}
use Rattle.device_types.specs.declared.subscriber.Subscriber.{Subscriber as SubscriberRow}
use Rattle.device_types.specs.Alone.{entry_of}
use Rattle.device_types.specs.Journal.{is_on, effects_of, taken_count, reply_of}
use Rattle.device_types.specs.Line.{IsLine}
use Rattle.device_types.specs.Look.{same_lane}
use Rattle.device_types.specs.Numbers.{IsWithin}
use Rattle.device_types.specs.PeerAnswer.{answer_of}
use Rattle.device_types.specs.Subscriber.{IsSubscriber}
use Rattle.effect_outbox.specs.Outbox.{LaneNumbers, number_on, unsettled_at}
use Rattle.replica_worker.specs.declared.hand.Hand.{Hand}
use Rattle.replica_worker.specs.declared.hand.Hand.TheVariants as hands
use Rattle.session_row.specs.Row.{RowState}
use Rattle.schedule_laws.specs.Answer.{answer, history, Lawful}
use Rattle.schedule_laws.specs.Counts.{Turn, Held, hand, acked, accepted, settled, greatest_sent, message_sent, effect_pushed, journal}
use Rattle.schedule_laws.specs.Counts.Held.{Nothing, Taken, Ready}
use Rattle.schedule_laws.specs.Input.{input_of}
use Rattle.schedule_laws.specs.Lists.{Each, has}
use Rattle.schedule_laws.specs.Packets.{if_so, message_packet, reply_packet, effect_packet, answer_packet}
use Rattle.schedule_laws.specs.Setting.{Setting, row_of, messages_of, entries_to, entries_of}

-- ---- what a world is made of

-- a mark for each effect, by its lane
pub record LaneMarks : Type 0 where
  pub down : List Bool
  pub gateway : List Bool
  pub subscriber : List Bool

abbrev pub marks_on : LaneMarks → Lane → List Bool
marks_on marks Down = marks.down
marks_on marks Gateway = marks.gateway
marks_on marks Subscriber = marks.subscriber

-- the new marks have this effect too
abbrev pub MarksOn : LaneMarks → LaneMarks → Lane → ℕ → Type 0
MarksOn old new l k = (m : Lane) (j : ℕ) → 1 ≤ j → has j (marks_on new m) ≡ ((same_lane m l && (j == k)) || has j (marks_on old m))

-- by device, from 1: the rows of the store, the agents' windows, what the two peers have accepted, and marks of the messages that
-- were sent and of the effects that were pushed; by replica, from 1: the hands
pub record Parts : Type 0 where
  pub rows : List RowState
  pub hands : List Hand
  pub windows : List WindowState
  pub gateway : List (List GwCall)
  pub subscriber : List (List SubCall)
  pub sent : List (List Bool)
  pub pushed : List LaneMarks

-- what a world runs on, the events that it has taken, in order, and its parts
pub record WorldState : Type 0 where
  pub setting : Setting
  pub events : List Event
  pub parts : Parts

-- ---- what the parts are

abbrev pub IsShort : List Message → Type 0
IsShort messages = length messages ≤ 100000

-- a line of the book for each row of the table, of at most 100,000 messages, and 1 to 16 replicas
pub record IsSetting (s : Setting) : Type 0 where
  pub rows : All IsSubscriber s.rows
  pub lines : All IsLine s.book
  pub short : All IsShort s.book
  pub each : length s.book ≡ length s.rows
  pub replicas : IsWithin 16 s.replicas

-- of each lane of device d, how many effects are settled
abbrev pub settled_numbers : ℕ → List Turn → LaneNumbers
settled_numbers d turns = record { down = settled d Down turns; gateway = settled d Gateway turns; subscriber = settled d Subscriber turns }

-- the row of device d
abbrev pub row_after : Setting → List Turn → ℕ → RowState
row_after s turns d = record { journal = journal s d turns; settled = settled_numbers d turns }

-- the hand of a replica that holds this: what arrived with its content, and the step of the machine that never fails
abbrev pub hand_of : Setting → Held → Hand
hand_of s Nothing = hands.Empty
hand_of s (Taken d what) = hands.Taken (record { 0 = d }) (input_of s d what)
hand_of s (Ready d what v) = hands.Ready (record { 0 = d }) v (entry_of (row_of s d) (entries_to s d v) (input_of s d what))

-- what the receiver of a lane of device d has accepted: the first effects of that lane of the machine that never fails
abbrev pub accepted_effects : Setting → Lane → List Turn → ℕ → List Effect
accepted_effects s l turns d = take (accepted d l turns) (effects_of l (entries_of s d))

-- a window over these messages, so many of them acknowledged and sent, that has accepted these
pub record IsWindow (messages : List Message) (last highest : ℕ) (accepts : List Effect) (window : WindowState) : Type 0 where
  pub line : window.line ≡ record { messages = messages; acked = last }
  pub greatest : window.sent ≡ highest
  pub downs : map effects.Down window.downs ≡ accepts

-- the window over these messages before any event
abbrev pub fresh_window : List Message → WindowState
fresh_window messages = record { line = record { messages = messages; acked = 0 }; sent = 0; downs = [] }

-- the window of device d
abbrev pub IsWindowOf : Setting → List Turn → ℕ → WindowState → Type 0
IsWindowOf s turns d window = IsWindow (messages_of s d) (acked d turns) (greatest_sent d turns) (accepted_effects s Down turns d) window

abbrev pub AreGatewayCalls : Setting → List Turn → ℕ → List GwCall → Type 0
AreGatewayCalls s turns d calls = map effects.Gateway calls ≡ accepted_effects s Gateway turns d

abbrev pub AreSubscriberCalls : Setting → List Turn → ℕ → List SubCall → Type 0
AreSubscriberCalls s turns d calls = map effects.Subscriber calls ≡ accepted_effects s Subscriber turns d

-- the messages of device d that were sent
abbrev pub AreSent : List Turn → ℕ → List Bool → Type 0
AreSent turns d marks = (n : ℕ) → 1 ≤ n → has n marks ≡ message_sent d n turns

-- the effects of device d that were pushed
abbrev pub ArePushed : List Turn → ℕ → LaneMarks → Type 0
ArePushed turns d marks = (l : Lane) (k : ℕ) → 1 ≤ k → has k (marks_on marks l) ≡ effect_pushed d l k turns

-- each part is what the turns make of it
pub record ArePartsOf (s : Setting) (turns : List Turn) (p : Parts) : Type 0 where
  pub rows : Each p.rows (length s.rows) (λ d row. row ≡ row_after s turns d)
  pub hands : Each p.hands s.replicas (λ r held. held ≡ hand_of s (hand r turns))
  pub windows : Each p.windows (length s.rows) (IsWindowOf s turns)
  pub gateway : Each p.gateway (length s.rows) (AreGatewayCalls s turns)
  pub subscriber : Each p.subscriber (length s.rows) (AreSubscriberCalls s turns)
  pub sent : Each p.sent (length s.rows) (AreSent turns)
  pub pushed : Each p.pushed (length s.rows) (ArePushed turns)

-- ---- the packets on the links, with their contents

-- the parts of device d
abbrev pub row_in : Parts → ℕ → RowState
row_in p d = slice_index_or p.rows (d - 1) (record { journal = []; settled = record { down = 0; gateway = 0; subscriber = 0 } })

abbrev pub window_in : Parts → ℕ → WindowState
window_in p d = slice_index_or p.windows (d - 1) (record { line = record { messages = []; acked = 0 }; sent = 0; downs = [] })

abbrev pub sent_in : Parts → ℕ → List Bool
sent_in p d = slice_index_or p.sent (d - 1) []

abbrev pub pushed_in : Parts → ℕ → LaneMarks
pushed_in p d = slice_index_or p.pushed (d - 1) (record { down = []; gateway = []; subscriber = [] })

-- the calls of device d that the peer of a lane has accepted
abbrev pub accepted_calls : List (List GwCall) → List (List SubCall) → Lane → ℕ → List Effect
accepted_calls gateway subscriber Down d = []
accepted_calls gateway subscriber Gateway d = map effects.Gateway (slice_index_or gateway (d - 1) [])
accepted_calls gateway subscriber Subscriber d = map effects.Subscriber (slice_index_or subscriber (d - 1) [])

-- what the receiver of a lane of device d has accepted
abbrev pub accepted_in : Parts → Lane → ℕ → List Effect
accepted_in p Down d = map effects.Down (window_in p d).downs
accepted_in p Gateway d = map effects.Gateway (slice_index_or p.gateway (d - 1) [])
accepted_in p Subscriber d = map effects.Subscriber (slice_index_or p.subscriber (d - 1) [])

-- the packets as a world has them: none is stored, each is found in a part
abbrev pub message_found : Parts → ℕ → ℕ → Option Message
message_found p d n = if_so (has n (sent_in p d)) (message_at (window_in p d).line.messages n)

abbrev pub reply_found : Parts → ℕ → ℕ → Option Reply
reply_found p d n = if_so (nat_le n (taken_count (row_in p d).journal)) (reply_of (row_in p d).journal n)

-- effect k of a lane: with its receiver where that has accepted it, else in the row
abbrev pub effect_at : RowState → List Effect → Lane → ℕ → Option Effect
effect_at row accepts l k =
    if nat_le k (length accepts)
    then slice_get accepts (k - 1)
    else unsettled_at (effects_of l row.journal) (number_on row.settled l) k

-- there is one, of the kind of its lane
abbrev pub IsOnLane : Lane → Option Effect → Type 0
IsOnLane l effect = IsSomeAnd effect (λ x. is_on l x ≡ true)

abbrev pub effect_found : Parts → ℕ → Lane → ℕ → Option Effect
effect_found p d l k = if_so (has k (marks_on (pushed_in p d) l)) (effect_at (row_in p d) (accepted_in p l d) l k)

-- the answer that a peer which has accepted these calls has given to call k
abbrev pub answer_given : SubscriberRow → List Effect → ℕ → Option Answer
answer_given row calls k = if_so (nat_le k (length calls)) (Some (answer_of row (take k calls)))

abbrev pub answer_found : Setting → Parts → ℕ → Lane → ℕ → Option Answer
answer_found s p d l k = answer_given (row_of s d) (accepted_in p l d) k

-- each packet is found with its content
pub record AreLinksOf (s : Setting) (turns : List Turn) (p : Parts) : Type 0 where
  pub messages : (d n : ℕ) → IsWithin (length s.rows) d → 1 ≤ n → message_found p d n ≡ message_packet s turns d n
  pub replies : (d n : ℕ) → IsWithin (length s.rows) d → 1 ≤ n → reply_found p d n ≡ reply_packet s turns d n
  pub effects : (d : ℕ) (l : Lane) (k : ℕ) → IsWithin (length s.rows) d → 1 ≤ k → effect_found p d l k ≡ effect_packet s turns d l k
  pub answers : (d : ℕ) (l : Lane) (k : ℕ) → IsWithin (length s.rows) d → 1 ≤ k → answer_found s p d l k ≡ answer_packet s turns d l k

-- ---- what holds of a world

pub record IsWorld (w : WorldState) : Type 0 where
  pub setting : IsSetting w.setting
  pub lawful : Lawful w.setting (history w.setting w.events)
  pub parts : ArePartsOf w.setting (history w.setting w.events) w.parts
  pub links : AreLinksOf w.setting (history w.setting w.events) w.parts

-- the world took an event, and gave this answer
pub record Answers (old new : WorldState) (event : Event) (given : EventAnswer) : Type 0 where
  pub same : new.setting ≡ old.setting
  pub more : new.events ≡ old.events ++ event ∷ []
  pub answered : given ≡ answer old.setting (history old.setting old.events) event
