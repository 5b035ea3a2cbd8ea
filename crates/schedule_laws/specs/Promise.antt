-- What is promised of every list of events, as readers of a transcript know it.
use Rattle.std.specs.Prelude.{◌≡◌, ℕ, Bool, true, false, List}
use Rattle.device_types.specs.declared.event.EventAnswer.{EventAnswer}
use Rattle.device_types.specs.declared.event.EventAnswer.TheVariants as told
use Rattle.device_types.specs.declared.event.Lane.{Lane}
use Rattle.device_types.specs.declared.message.Message.{Message}
use Rattle.device_types.specs.declared.subscriber.Subscriber.{Subscriber}
use Rattle.schedule_laws.specs.Counts.{Turn, Arrival, Held, hand, commits, acked, accepted, settled, greatest_sent, message_sent, reply_sent, effect_pushed, effect_received}
use Rattle.schedule_laws.specs.Counts.Held.{Nothing, Taken, Ready}
use Rattle.schedule_laws.specs.Setting.{Setting}

-- these rows, with the messages of the book, and so many replicas
abbrev pub setting : List Subscriber → List (List Message) → ℕ → Setting
setting rows book replicas = record { rows = rows; book = book; replicas = replicas }

abbrev pub is_void : EventAnswer → Bool
is_void told.VoidReplica = true
is_void told.VoidWindow = true
is_void told.VoidLink = true
is_void told.VoidHand = true
is_void told.VoidOutbox = true
is_void _ = false

-- no count is another, and no mark of what was sent or pushed
pub record HasSameCounts (old new : List Turn) : Type 0 where
  pub committed : (d : ℕ) → commits d new ≡ commits d old
  pub acknowledged : (d : ℕ) → acked d new ≡ acked d old
  pub greatest : (d : ℕ) → greatest_sent d new ≡ greatest_sent d old
  pub accepts : (d : ℕ) (l : Lane) → accepted d l new ≡ accepted d l old
  pub settles : (d : ℕ) (l : Lane) → settled d l new ≡ settled d l old
  pub messages : (d n : ℕ) → message_sent d n new ≡ message_sent d n old
  pub effects : (d : ℕ) (l : Lane) (k : ℕ) → effect_pushed d l k new ≡ effect_pushed d l k old

-- no count, hand or link is another
pub record IsAsBefore (old new : List Turn) : Type 0 where
  pub counts : HasSameCounts old new
  pub hands : (r : ℕ) → hand r new ≡ hand r old
  pub replies : (d n : ℕ) → reply_sent d n new ≡ reply_sent d n old
  pub answers : (d : ℕ) (l : Lane) (k : ℕ) → effect_received d l k new ≡ effect_received d l k old

-- the hand has that of device d, with a step made of it or not
abbrev pub Holds : ℕ → Arrival → Held → Type 0
Holds d what Nothing = ⊥
Holds d what (Taken e other) = (d ≡ e) × (what ≡ other)
Holds d what (Ready e other v) = (d ≡ e) × (what ≡ other)
