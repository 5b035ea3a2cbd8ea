-- Worked examples, computed: the streams of a device's messages, and what events of two streams come to that are drawn from a number.
use Rattle.std.proofs.Common.{◌≡◌, ℕ, true, false, List, [], ◌∷◌, map, reverse, refl}
use Rattle.device_types.specs.declared.message.Body.{Body}
use Rattle.device_types.specs.declared.message.Body.TheVariants as bodies
use Rattle.device_types.specs.declared.message.Message.{Message}
use Rattle.epoch_agents.specs.declared.event.EpochAnswer.TheVariants as told
use Rattle.epoch_agents.specs.declared.event.EpochEvent.TheVariants.{Send, Arrive, Learn}
use Rattle.epoch_agents.specs.declared.stream.Stream.{Stream}
use Rattle.epoch_agents.specs.Counts.{merge}
use Rattle.trace_gen.specs.Draws.{next_state}
use Rattle.epoch_run.specs.Drawn.{event_drawn, course_of}
use Rattle.epoch_run.specs.Streams.{streams_of}
use Rattle.epoch_run.specs.Text.{messages_merged}

message : ℕ → ℕ → Body → Message
message number station body = record { number = number; station = station; enb = 7; body = body }

stream : ℕ → ℕ → List Message → Stream
stream station index messages = record { station = station; index = index; line = record { messages = messages; acked = 0 } }

-- an attach at station 1, which is answered; one at station 2; a service request and a later update at station 1; a detach there
line : List Message
line = message 1 1 (bodies.Attach 1 1 1 1 1) ∷ message 2 1 bodies.Secured ∷ message 3 2 (bodies.Attach 1 1 1 1 1) ∷ message 4 1 bodies.Service ∷ message 5 1 (bodies.Area false 1 1) ∷ message 6 1 (bodies.Detach true true) ∷ []

-- three streams of station 1, and one of station 2; each numbers its own messages
cut : streams_of line ≡ stream 1 1 (message 1 1 (bodies.Attach 1 1 1 1 1) ∷ message 2 1 bodies.Secured ∷ []) ∷ stream 2 1 (message 1 2 (bodies.Attach 1 1 1 1 1) ∷ []) ∷ stream 1 2 (message 1 1 bodies.Service ∷ message 2 1 (bodies.Area false 1 1) ∷ []) ∷ stream 1 3 (message 1 1 (bodies.Detach true true) ∷ []) ∷ []
unfolding message stream line streams_of
cut = refl

-- what comes before the first of them belongs to none
headless : streams_of (message 1 1 bodies.Secured ∷ message 2 3 bodies.Service ∷ []) ≡ stream 3 1 (message 1 3 bodies.Service ∷ []) ∷ []
unfolding message stream streams_of
headless = refl

-- a notice is a stream of its own, of the station 0, and ends no other
notices : streams_of (message 1 0 bodies.Data ∷ message 2 1 bodies.Service ∷ message 3 0 bodies.Data ∷ message 4 1 bodies.Released ∷ []) ≡ stream 0 1 (message 1 0 bodies.Data ∷ []) ∷ stream 1 1 (message 1 1 bodies.Service ∷ message 2 1 bodies.Released ∷ []) ∷ stream 0 2 (message 1 0 bodies.Data ∷ []) ∷ []
unfolding message stream streams_of
notices = refl

-- the messages of a merge are numbered in its order
merged : messages_merged (streams_of line) (record { a = 2; stamp = 1; n = 1 } ∷ record { a = 1; stamp = 2; n = 1 } ∷ record { a = 1; stamp = 2; n = 2 } ∷ []) ≡ message 1 2 (bodies.Attach 1 1 1 1 1) ∷ message 2 1 (bodies.Attach 1 1 1 1 1) ∷ message 3 1 bodies.Secured ∷ []
unfolding message line streams_of
merged = refl

-- a stream of station 1 with two messages, and one of station 2 with one
two : List Stream
two = stream 1 1 (message 1 1 bodies.Service ∷ message 2 1 bodies.Released ∷ []) ∷ stream 2 1 (message 1 2 bodies.Service ∷ []) ∷ []

-- the events that are drawn of them from 32, and their answers
events : map (λ t. t.0) (reverse (course_of two 32 24).turns) ≡ Learn 1 ∷ Send 2 1 ∷ Arrive 2 1 1 ∷ Arrive 2 1 1 ∷ Send 1 2 ∷ Learn 3 ∷ Arrive 1 1 2 ∷ Send 2 1 ∷ Learn 9 ∷ Arrive 2 1 1 ∷ Arrive 1 1 2 ∷ Send 1 2 ∷ Send 1 2 ∷ Arrive 1 1 2 ∷ Arrive 1 1 2 ∷ Learn 15 ∷ Arrive 1 1 2 ∷ Arrive 1 1 2 ∷ Arrive 2 1 1 ∷ Learn 1 ∷ Learn 16 ∷ Arrive 1 1 2 ∷ Learn 17 ∷ Learn 5 ∷ []
unfolding two stream message next_state event_drawn
events = refl

answers : map (λ t. t.1) (reverse (course_of two 32 24).turns) ≡ told.VoidLink ∷ told.Sent ∷ told.Committed 1 ∷ told.Repeat 1 ∷ told.Sent ∷ told.Acked 1 ∷ told.Low 1 ∷ told.VoidWindow ∷ told.VoidLink ∷ told.Repeat 1 ∷ told.Low 1 ∷ told.Sent ∷ told.Sent ∷ told.Low 1 ∷ told.Low 1 ∷ told.Renamed 2 ∷ told.Low 1 ∷ told.Low 1 ∷ told.Repeat 1 ∷ told.VoidLink ∷ told.VoidLink ∷ told.Low 1 ∷ told.Old ∷ told.VoidLink ∷ []
unfolding two stream message next_state event_drawn
answers = refl

merge_of_two : merge (course_of two 32 24).turns ≡ record { a = 2; stamp = 1; n = 1 } ∷ []
unfolding two stream message next_state event_drawn
merge_of_two = refl
