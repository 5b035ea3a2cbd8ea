-- The events of a schedule: a verb, and what it is of, a word each.
use Rattle.std.specs.Prelude.{◌≡◌, ℕ, List, [], ◌∷◌, codes, Option, Some, None, if◌then◌else◌}
use Rattle.std.specs.Fmt.{decimal}
use Rattle.std.specs.List.{join_with_byte}
use Rattle.std.specs.Str.{bytes_eq}
use Rattle.device_types.specs.declared.event.Lane.{Lane}
use Rattle.device_types.specs.declared.event.Lane.TheVariants as lane
use Rattle.device_types.specs.declared.event.Event.{Event}
use Rattle.device_types.specs.declared.event.Event.TheVariants as event
use Rattle.device_types.specs.declared.subscriber.DeviceId.{DeviceId}
use Rattle.device_types.specs.Event.{IsInForm}
use Rattle.case_form.specs.declared.event.Verb.{Verb}
use Rattle.case_form.specs.declared.event.Verb.TheVariants.{Send, Take, Answer, Read, Write, Stop, Reply, Push, Effect, Settle}
use Rattle.echo_base.specs.Reading.{◌>>=◌, done, known}
use Rattle.case_form.specs.Words.{Reader, word_at, number_at, whole, words_of}

-- the verbs
unfoldable pub verb_of : List ℕ → Option Verb
verb_of word =
    if bytes_eq word (codes "send") then Some Send
    else if bytes_eq word (codes "take") then Some Take
    else if bytes_eq word (codes "answer") then Some Answer
    else if bytes_eq word (codes "read") then Some Read
    else if bytes_eq word (codes "write") then Some Write
    else if bytes_eq word (codes "stop") then Some Stop
    else if bytes_eq word (codes "reply") then Some Reply
    else if bytes_eq word (codes "push") then Some Push
    else if bytes_eq word (codes "effect") then Some Effect
    else if bytes_eq word (codes "settle") then Some Settle
    else None

-- the lanes
unfoldable pub lane_of : List ℕ → Option Lane
lane_of word =
    if bytes_eq word (codes "down") then Some lane.Down
    else if bytes_eq word (codes "gateway") then Some lane.Gateway
    else if bytes_eq word (codes "subscriber") then Some lane.Subscriber
    else None

-- a lane of calls, which are answered
abbrev pub call_lane : Lane → Option Lane
call_lane lane.Down = None
call_lane lane.Gateway = Some lane.Gateway
call_lane lane.Subscriber = Some lane.Subscriber

unfoldable pub verb_at : Reader Verb
verb_at = do
  word ← word_at
  known (verb_of word) tt

unfoldable pub lane_at : Reader Lane
lane_at = do
  word ← word_at
  known (lane_of word) tt

unfoldable pub call_lane_at : Reader Lane
call_lane_at = do
  lane ← lane_at
  known (call_lane lane) tt

-- a device by its row, of so many rows
unfoldable pub device_at : ℕ → Reader DeviceId
device_at rows = do
  n ← number_at rows
  done (record { 0 = n })

-- the number of a replica
abbrev pub replica_at : Reader ℕ
replica_at = number_at 16

-- the number of a message or an effect
abbrev pub count_at : Reader ℕ
count_at = number_at 4294967295

-- a message of a device
unfoldable pub message_at : ℕ → Reader (DeviceId × ℕ)
message_at rows = do
  d ← device_at rows
  n ← count_at
  done (d, n)

-- an effect on a lane of a device
unfoldable pub effect_at : ℕ → Reader (DeviceId × Lane × ℕ)
effect_at rows = do
  d ← device_at rows
  lane ← lane_at
  k ← count_at
  done (d, lane, k)

-- what the verbs are of
unfoldable pub event_at : ℕ → Verb → Reader Event
event_at rows Send = do
  m ← message_at rows
  done (event.Send m.0 m.1)
event_at rows Take = do
  r ← replica_at
  m ← message_at rows
  done (event.Take r m.0 m.1)
event_at rows Answer = do
  r ← replica_at
  d ← device_at rows
  lane ← call_lane_at
  k ← count_at
  done (event.Answer r d lane k)
event_at rows Read = do
  r ← replica_at
  done (event.Read r)
event_at rows Write = do
  r ← replica_at
  done (event.Write r)
event_at rows Stop = do
  r ← replica_at
  done (event.Stop r)
event_at rows Reply = do
  m ← message_at rows
  done (event.Reply m.0 m.1)
event_at rows Push = do
  e ← effect_at rows
  done (event.Push e.0 e.1 e.2)
event_at rows Effect = do
  e ← effect_at rows
  done (event.Effect e.0 e.1 e.2)
event_at rows Settle = do
  e ← effect_at rows
  done (event.Settle e.0 e.1 e.2)

-- the event that a line is, where there are so many rows
unfoldable pub event_of : ℕ → List ℕ → Option Event
event_of rows line = whole (verb_at >>= event_at rows) line

-- ---- the words of an event

abbrev pub lane_word : Lane → List ℕ
lane_word lane.Down = codes "down"
lane_word lane.Gateway = codes "gateway"
lane_word lane.Subscriber = codes "subscriber"

-- numbers are written in decimal
abbrev pub lane_words : DeviceId → Lane → ℕ → List (List ℕ)
lane_words d lane k = decimal d.0 ∷ lane_word lane ∷ decimal k ∷ []

abbrev pub event_words : Event → List (List ℕ)
event_words (event.Send d n) = codes "send" ∷ decimal d.0 ∷ decimal n ∷ []
event_words (event.Take r d n) = codes "take" ∷ decimal r ∷ decimal d.0 ∷ decimal n ∷ []
event_words (event.Answer r d lane k) = codes "answer" ∷ decimal r ∷ lane_words d lane k
event_words (event.Read r) = codes "read" ∷ decimal r ∷ []
event_words (event.Write r) = codes "write" ∷ decimal r ∷ []
event_words (event.Stop r) = codes "stop" ∷ decimal r ∷ []
event_words (event.Reply d n) = codes "reply" ∷ decimal d.0 ∷ decimal n ∷ []
event_words (event.Push d lane k) = codes "push" ∷ lane_words d lane k
event_words (event.Effect d lane k) = codes "effect" ∷ lane_words d lane k
event_words (event.Settle d lane k) = codes "settle" ∷ lane_words d lane k

-- as it is printed: its words, with a space between each two
abbrev pub event_line : Event → List ℕ
event_line event = join_with_byte 32 (event_words event)

-- a line has the words of an event in form
abbrev pub IsEvent : ℕ → Event → List ℕ → Type 0
IsEvent rows e line = IsInForm rows e × (words_of line ≡ event_words e)
