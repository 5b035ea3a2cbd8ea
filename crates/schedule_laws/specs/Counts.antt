-- What an event finds: counts, links and hands, by looking back over the turns before it. The newest turn stands first.
use Rattle.std.specs.Prelude.{ℕ, suc, ◌==◌, max, Bool, true, false, if◌then◌else◌, ◌&&◌, ◌||◌, List, [], ◌∷◌}
use Rattle.device_types.specs.declared.event.Event.{Event}
use Rattle.device_types.specs.declared.event.Event.TheVariants.{Send, Take, Answer, Read, Write, Stop, Reply, Push, Effect, Settle}
use Rattle.device_types.specs.declared.event.EventAnswer.{EventAnswer}
use Rattle.device_types.specs.declared.event.EventAnswer.TheVariants as told
use Rattle.device_types.specs.declared.event.Lane.{Lane}
use Rattle.device_types.specs.declared.step.Entry.{Entry}
use Rattle.device_types.specs.Look.{same_lane}
use Rattle.schedule_laws.specs.Setting.{Setting, entries_to}

-- an event with its answer
abbrev pub Turn : Type 0
Turn = Event × EventAnswer

-- ---- what an answer says

abbrev pub is_sent : EventAnswer → Bool
is_sent told.Sent = true
is_sent _ = false

abbrev pub is_taken : EventAnswer → Bool
is_taken told.Taken = true
is_taken _ = false

abbrev pub is_stopped : EventAnswer → Bool
is_stopped told.Stopped = true
is_stopped _ = false

abbrev pub is_pushed : EventAnswer → Bool
is_pushed told.Pushed = true
is_pushed _ = false

abbrev pub is_committed : EventAnswer → Bool
is_committed (told.Committed v) = true
is_committed _ = false

-- written or refused by the row: the replica is done with its step
abbrev pub is_written : EventAnswer → Bool
is_written (told.Committed v) = true
is_written (told.Stale read current) = true
is_written _ = false

abbrev pub is_acked : EventAnswer → Bool
is_acked (told.Acked n) = true
is_acked _ = false

abbrev pub is_accepted : EventAnswer → Bool
is_accepted (told.Accepted k) = true
is_accepted _ = false

-- the receiver has the effect, and acknowledges it
abbrev pub is_received : EventAnswer → Bool
is_received (told.Accepted k) = true
is_received (told.Repeat k) = true
is_received _ = false

abbrev pub is_settled : EventAnswer → Bool
is_settled (told.Settled k) = true
is_settled _ = false

-- ---- the hand of a replica

-- what arrived at a replica: a message of a device by its number, or the answer to a call by its lane and number
pub data Arrival : Type 0 where
  TheMessage : (n : ℕ) → Arrival
  TheAnswer : (lane : Lane) (k : ℕ) → Arrival

-- nothing; what arrived for device d; or also the step that was made of it, at the version that was read
pub data Held : Type 0 where
  Nothing : Held
  Taken : (d : ℕ) (what : Arrival) → Held
  Ready : (d : ℕ) (what : Arrival) (version : ℕ) → Held

-- a read makes a step, or leaves what arrived
abbrev pub after_read : EventAnswer → Held → Held
after_read (told.Ready v) (Taken d what) = Ready d what v
after_read (told.Ready v) (Ready d what w) = Ready d what v
after_read (told.Ready v) Nothing = Nothing
after_read _ (Ready d what w) = Taken d what
after_read _ (Taken d what) = Taken d what
after_read _ Nothing = Nothing

-- what replica r holds after an event
abbrev pub held_after : ℕ → Event → EventAnswer → Held → Held
held_after r (Take q d n) a h = if is_taken a && (q == r) then Taken d.0 (TheMessage n) else h
held_after r (Answer q d lane k) a h = if is_taken a && (q == r) then Taken d.0 (TheAnswer lane k) else h
held_after r (Read q) a h = if q == r then after_read a h else h
held_after r (Write q) a h = if is_written a && (q == r) then Nothing else h
held_after r (Stop q) a h = if is_stopped a && (q == r) then Nothing else h
held_after r _ a h = h

-- what replica r holds
abbrev pub hand : ℕ → List Turn → Held
hand r [] = Nothing
hand r (t ∷ turns) = held_after r t.0 t.1 (hand r turns)

-- the hand has a step of device d
abbrev pub is_ready_for : ℕ → Held → Bool
is_ready_for d (Ready e what v) = d == e
is_ready_for d _ = false

-- and it is that of message n
abbrev pub is_ready_with : ℕ → ℕ → Held → Bool
is_ready_with d n (Ready e (TheMessage m) v) = (d == e) && (n == m)
is_ready_with d n _ = false

-- ---- counts

-- how many steps of device d were committed
abbrev pub commits : ℕ → List Turn → ℕ
commits d [] = 0
commits d ((Write r, a) ∷ turns) = if is_committed a && is_ready_for d (hand r turns) then suc (commits d turns) else commits d turns
commits d ((_, a) ∷ turns) = commits d turns

-- the greatest message of device d that its agent learnt to be taken
abbrev pub acked : ℕ → List Turn → ℕ
acked d [] = 0
acked d ((Reply e n, a) ∷ turns) = if is_acked a && (d == e.0) then max n (acked d turns) else acked d turns
acked d ((_, a) ∷ turns) = acked d turns

-- the greatest effect of a lane of device d that its receiver accepted
abbrev pub accepted : ℕ → Lane → List Turn → ℕ
accepted d l [] = 0
accepted d l ((Effect e m k, a) ∷ turns) = if is_accepted a && (d == e.0) && same_lane l m then max k (accepted d l turns) else accepted d l turns
accepted d l ((_, a) ∷ turns) = accepted d l turns

-- the greatest effect of a lane of device d that was settled
abbrev pub settled : ℕ → Lane → List Turn → ℕ
settled d l [] = 0
settled d l ((Settle e m k, a) ∷ turns) = if is_settled a && (d == e.0) && same_lane l m then max k (settled d l turns) else settled d l turns
settled d l ((_, a) ∷ turns) = settled d l turns

-- the greatest message of device d that its agent has sent
abbrev pub greatest_sent : ℕ → List Turn → ℕ
greatest_sent d [] = 0
greatest_sent d ((Send e n, a) ∷ turns) = if is_sent a && (d == e.0) then max n (greatest_sent d turns) else greatest_sent d turns
greatest_sent d ((_, a) ∷ turns) = greatest_sent d turns

-- ---- what is on a link

-- message n of device d
abbrev pub message_sent : ℕ → ℕ → List Turn → Bool
message_sent d n [] = false
message_sent d n ((Send e m, a) ∷ turns) = (is_sent a && (d == e.0) && (n == m)) || message_sent d n turns
message_sent d n ((_, a) ∷ turns) = message_sent d n turns

-- the reply to message n of device d
abbrev pub reply_sent : ℕ → ℕ → List Turn → Bool
reply_sent d n [] = false
reply_sent d n ((Write r, a) ∷ turns) = (is_committed a && is_ready_with d n (hand r turns)) || reply_sent d n turns
reply_sent d n ((_, a) ∷ turns) = reply_sent d n turns

-- effect k of a lane of device d
abbrev pub effect_pushed : ℕ → Lane → ℕ → List Turn → Bool
effect_pushed d l k [] = false
effect_pushed d l k ((Push e m j, a) ∷ turns) = (is_pushed a && (d == e.0) && same_lane l m && (k == j)) || effect_pushed d l k turns
effect_pushed d l k ((_, a) ∷ turns) = effect_pushed d l k turns

-- the acknowledgement of effect k of a lane of device d, and the answer to it, if it is a call
abbrev pub effect_received : ℕ → Lane → ℕ → List Turn → Bool
effect_received d l k [] = false
effect_received d l k ((Effect e m j, a) ∷ turns) = (is_received a && (d == e.0) && same_lane l m && (k == j)) || effect_received d l k turns
effect_received d l k ((_, a) ∷ turns) = effect_received d l k turns

-- ---- the journal

-- the journal of device d: so many entries of the machine that never fails as steps were committed
abbrev pub journal : Setting → ℕ → List Turn → List Entry
journal s d turns = entries_to s d (commits d turns)
