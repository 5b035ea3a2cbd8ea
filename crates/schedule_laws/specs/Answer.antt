-- What an event comes to, as a function of the turns before it.
use Rattle.std.specs.Prelude.{◌≡◌, ℕ, ◌+◌, ◌≤◌, ◌==◌, if◌then◌else◌, nat_le, nat_lt, ◌&&◌, List, [], ◌∷◌, map, reverse, length}
use Rattle.std.specs.List.{fold}
use Rattle.device_types.specs.declared.event.Event.{Event}
use Rattle.device_types.specs.declared.event.Event.TheVariants.{Send, Take, Answer, Read, Write, Stop, Reply, Push, Effect, Settle}
use Rattle.device_types.specs.declared.event.EventAnswer.{EventAnswer}
use Rattle.device_types.specs.declared.event.EventAnswer.TheVariants as told
use Rattle.device_types.specs.declared.look.Look.{Look}
use Rattle.device_types.specs.declared.look.Look.TheVariants as look
use Rattle.device_types.specs.declared.step.Entry.{Entry}
use Rattle.device_types.specs.Event.{IsCallLane}
use Rattle.device_types.specs.Journal.{pushed_count}
use Rattle.device_types.specs.Look.{look_of, answer_look_of}
use Rattle.device_types.specs.Numbers.{IsWithin}
use Rattle.schedule_laws.specs.Counts.{Turn, Arrival, Held, hand, commits, acked, accepted, settled, message_sent, reply_sent, effect_pushed, effect_received, journal}
use Rattle.schedule_laws.specs.Counts.Arrival.{TheMessage, TheAnswer}
use Rattle.schedule_laws.specs.Counts.Held.{Nothing, Taken, Ready}
use Rattle.schedule_laws.specs.Setting.{Setting, window, message_count}

-- ---- a replica reads and writes

-- what the row of that journal says to what arrived
abbrev pub look_at : List Entry → Arrival → Look
look_at J (TheMessage n) = look_of window J n
look_at J (TheAnswer lane k) = answer_look_of J lane k

-- and the event's answer, at that version; no answer arrives to a call that was not made
abbrev pub look_answer : ℕ → Look → EventAnswer
look_answer v look.Ready = told.Ready v
look_answer v (look.Repeat n) = told.Repeat n
look_answer v (look.Settled n) = told.Settled n
look_answer v (look.Ahead n) = told.Ahead n
look_answer v (look.Waiting lane k) = told.Waiting lane k
look_answer v (look.Old lane k) = told.OldCall lane k
look_answer v (look.NotAwaited k) = told.Ahead k

-- of device d, what arrived
abbrev pub looked : Setting → List Turn → ℕ → Arrival → EventAnswer
looked s turns d what = look_answer (commits d turns) (look_at (journal s d turns) what)

abbrev pub read_answer : Setting → List Turn → Held → EventAnswer
read_answer s turns Nothing = told.VoidHand
read_answer s turns (Taken d what) = looked s turns d what
read_answer s turns (Ready d what v) = looked s turns d what

-- a step is committed exactly where the version that was read is current
abbrev pub write_answer : List Turn → Held → EventAnswer
write_answer turns (Ready d what v) = if commits d turns == v then told.Committed (v + 1) else told.Stale v (commits d turns)
write_answer turns _ = told.VoidHand

-- where there is such a replica
abbrev pub on_replica : Setting → ℕ → EventAnswer → EventAnswer
on_replica s r a = if nat_le r s.replicas then a else told.VoidReplica

-- ---- every event

abbrev pub answer : Setting → List Turn → Event → EventAnswer
answer s turns (Send d n) =
    if nat_lt (acked d.0 turns) n && nat_le n (acked d.0 turns + window) && nat_le n (message_count s d.0)
    then told.Sent
    else told.VoidWindow
answer s turns (Take r d n) = on_replica s r (if message_sent d.0 n turns then told.Taken else told.VoidLink)
answer s turns (Answer r d lane k) = on_replica s r (if effect_received d.0 lane k turns then told.Taken else told.VoidLink)
answer s turns (Read r) = on_replica s r (read_answer s turns (hand r turns))
answer s turns (Write r) = on_replica s r (write_answer turns (hand r turns))
answer s turns (Stop r) = on_replica s r told.Stopped
answer s turns (Reply d n) =
    if reply_sent d.0 n turns
    then (if nat_lt (acked d.0 turns) n then told.Acked n else told.Old n)
    else told.VoidLink
answer s turns (Push d lane k) =
    if nat_lt (settled d.0 lane turns) k && nat_le k (pushed_count lane (journal s d.0 turns))
    then told.Pushed
    else told.VoidOutbox
answer s turns (Effect d lane k) =
    if effect_pushed d.0 lane k turns
    then (if k == accepted d.0 lane turns + 1 then told.Accepted k else if nat_le k (accepted d.0 lane turns) then told.Repeat k else told.Ahead (accepted d.0 lane turns))
    else told.VoidLink
answer s turns (Settle d lane k) =
    if effect_received d.0 lane k turns
    then (if nat_le k (settled d.0 lane turns) then told.Old k else told.Settled k)
    else told.VoidLink

-- ---- a list of events

abbrev pub turn : Setting → List Turn → Event → List Turn
turn s turns event = (event, answer s turns event) ∷ turns

-- the turns of these events, which came in this order; the newest turn stands first
abbrev pub history : Setting → List Event → List Turn
history s events = fold (turn s) [] events

-- their answers, in the order of the events
abbrev pub answers : Setting → List Event → List EventAnswer
answers s events = reverse (map (λ t. t.1) (history s events))

-- ---- what a world may be given

-- the event names a row, one of 16 replicas, and messages, calls and effects from 1; and an answer is that to a call
abbrev pub IsEvent : Setting → Event → Type 0
IsEvent s (Send d n) = IsWithin (length s.rows) d.0 × (1 ≤ n)
IsEvent s (Take r d n) = IsWithin 16 r × IsWithin (length s.rows) d.0 × (1 ≤ n)
IsEvent s (Answer r d lane k) = IsWithin 16 r × IsWithin (length s.rows) d.0 × IsCallLane lane × (1 ≤ k)
IsEvent s (Read r) = IsWithin 16 r
IsEvent s (Write r) = IsWithin 16 r
IsEvent s (Stop r) = IsWithin 16 r
IsEvent s (Reply d n) = IsWithin (length s.rows) d.0 × (1 ≤ n)
IsEvent s (Push d lane k) = IsWithin (length s.rows) d.0 × (1 ≤ k)
IsEvent s (Effect d lane k) = IsWithin (length s.rows) d.0 × (1 ≤ k)
IsEvent s (Settle d lane k) = IsWithin (length s.rows) d.0 × (1 ≤ k)

-- each turn has such an event, with its answer
abbrev pub Lawful : Setting → List Turn → Type 0
Lawful s [] = Unit {0}
Lawful s (t ∷ turns) = IsEvent s t.0 × (t.1 ≡ answer s turns t.0) × Lawful s turns
