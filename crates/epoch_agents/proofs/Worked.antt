-- Worked lists of events: the answer to each, computed. Each row of the table of answers is there.
use Rattle.std.proofs.Common.{◌≡◌, ℕ, List, [], ◌∷◌, refl}
use Rattle.std.specs.Prelude.{replicate}
use Rattle.device_types.specs.declared.message.Body.TheVariants as bodies
use Rattle.epoch_agents.specs.declared.event.EpochAnswer.TheVariants as told
use Rattle.epoch_agents.specs.declared.event.EpochEvent.{EpochEvent}
use Rattle.epoch_agents.specs.declared.event.EpochEvent.TheVariants.{Send, Arrive, Learn}
use Rattle.epoch_agents.specs.declared.stream.Stream.{Stream}
use Rattle.epoch_agents.specs.Answer.{answers, history}
use Rattle.epoch_agents.specs.Counts.{merge}

-- the stream of that label, with so many messages, of which only the number counts
stream : ℕ → ℕ → ℕ → Stream
stream station index count = record { station = station; index = index; line = record { messages = replicate count (record { number = 1; station = 1; enb = 1; body = bodies.Service }); acked = 0 } }

-- two stations with one message each: that of the second comes first, so the stream of the first is renamed, and comes behind it
renamed : List EpochEvent
renamed = Send 2 1 ∷ Arrive 2 1 1 ∷ Send 1 1 ∷ Arrive 1 1 1 ∷ Learn 4 ∷ Send 1 1 ∷ Arrive 1 2 1 ∷ Arrive 1 1 1 ∷ Arrive 2 1 1 ∷ []

renamed_answers : answers (stream 1 1 1 ∷ stream 2 1 1 ∷ []) renamed ≡ told.Sent ∷ told.Committed 1 ∷ told.Sent ∷ told.Low 1 ∷ told.Renamed 2 ∷ told.Sent ∷ told.Committed 2 ∷ told.Low 2 ∷ told.Repeat 1 ∷ []
unfolding stream renamed
renamed_answers = refl

renamed_merge : merge (history (stream 1 1 1 ∷ stream 2 1 1 ∷ []) renamed) ≡ record { a = 2; stamp = 1; n = 1 } ∷ record { a = 1; stamp = 2; n = 1 } ∷ []
unfolding stream renamed
renamed_merge = refl

-- the stream of the first station has two messages, and the other comes between them: the first is over
over : List EpochEvent
over = Send 1 1 ∷ Arrive 1 1 1 ∷ Send 2 1 ∷ Arrive 2 1 1 ∷ Send 1 2 ∷ Arrive 1 1 2 ∷ Learn 6 ∷ Send 1 2 ∷ []

over_answers : answers (stream 1 1 2 ∷ stream 2 1 1 ∷ []) over ≡ told.Sent ∷ told.Committed 1 ∷ told.Sent ∷ told.Committed 2 ∷ told.Sent ∷ told.OverAt 1 ∷ told.Over ∷ told.VoidWindow ∷ []
unfolding stream over
over_answers = refl

-- the window at both ends, a message ahead of the next one, and what is known twice
window : List EpochEvent
window = Send 1 4 ∷ Send 1 5 ∷ Send 1 1 ∷ Arrive 1 1 1 ∷ Learn 4 ∷ Learn 4 ∷ Send 1 1 ∷ Send 1 5 ∷ Arrive 1 1 5 ∷ Learn 9 ∷ Send 1 2 ∷ Arrive 1 1 2 ∷ Arrive 1 1 2 ∷ Learn 13 ∷ Learn 12 ∷ Send 1 6 ∷ []

window_answers : answers (stream 1 1 5 ∷ []) window ≡ told.Sent ∷ told.VoidWindow ∷ told.Sent ∷ told.Committed 1 ∷ told.Acked 1 ∷ told.Old ∷ told.VoidWindow ∷ told.Sent ∷ told.Ahead 1 ∷ told.Old ∷ told.Sent ∷ told.Committed 2 ∷ told.Repeat 2 ∷ told.Acked 2 ∷ told.Old ∷ told.VoidWindow ∷ []
unfolding stream window
window_answers = refl

-- what is not on the link: not sent, of another name, or no arrival
off_link : List EpochEvent
off_link = Arrive 1 1 1 ∷ Learn 1 ∷ Send 1 1 ∷ Learn 3 ∷ Arrive 1 2 1 ∷ Arrive 2 1 1 ∷ Learn 0 ∷ Learn 9 ∷ Arrive 1 1 1 ∷ Learn 2 ∷ Learn 11 ∷ Learn 9 ∷ Arrive 1 1 2 ∷ []

off_link_answers : answers (stream 1 1 2 ∷ stream 2 1 1 ∷ []) off_link ≡ told.VoidLink ∷ told.VoidLink ∷ told.Sent ∷ told.VoidLink ∷ told.VoidLink ∷ told.VoidLink ∷ told.VoidLink ∷ told.VoidLink ∷ told.Committed 1 ∷ told.VoidLink ∷ told.VoidLink ∷ told.Acked 1 ∷ told.VoidLink ∷ []
unfolding stream off_link
off_link_answers = refl

-- a stream is renamed twice, and hears of its old name behind that
renamed_twice : List EpochEvent
renamed_twice = Send 3 1 ∷ Arrive 3 1 1 ∷ Send 1 1 ∷ Arrive 1 1 1 ∷ Learn 4 ∷ Send 2 1 ∷ Arrive 2 1 1 ∷ Learn 7 ∷ Send 2 1 ∷ Arrive 2 2 1 ∷ Send 1 1 ∷ Arrive 1 2 1 ∷ Learn 4 ∷ Learn 12 ∷ Send 1 1 ∷ Arrive 1 3 1 ∷ Arrive 1 1 1 ∷ Arrive 2 2 1 ∷ []

renamed_twice_answers : answers (stream 1 1 1 ∷ stream 2 1 1 ∷ stream 3 1 1 ∷ []) renamed_twice ≡ told.Sent ∷ told.Committed 1 ∷ told.Sent ∷ told.Low 1 ∷ told.Renamed 2 ∷ told.Sent ∷ told.Low 1 ∷ told.Renamed 2 ∷ told.Sent ∷ told.Committed 2 ∷ told.Sent ∷ told.Low 2 ∷ told.Old ∷ told.Renamed 3 ∷ told.Sent ∷ told.Committed 3 ∷ told.Low 3 ∷ told.Repeat 1 ∷ []
unfolding stream renamed_twice
renamed_twice_answers = refl

-- a message ahead of the first one of its name; with the same stamp the station decides, and then the index
labels : List EpochEvent
labels = Send 2 2 ∷ Arrive 2 1 2 ∷ Send 2 1 ∷ Arrive 2 1 1 ∷ Send 1 1 ∷ Arrive 1 1 1 ∷ Send 3 1 ∷ Arrive 3 1 1 ∷ Send 4 1 ∷ Arrive 4 1 1 ∷ []

labels_answers : answers (stream 1 1 1 ∷ stream 1 2 2 ∷ stream 0 3 1 ∷ stream 2 1 1 ∷ []) labels ≡ told.Sent ∷ told.Ahead 0 ∷ told.Sent ∷ told.Committed 1 ∷ told.Sent ∷ told.Low 1 ∷ told.Sent ∷ told.Low 1 ∷ told.Sent ∷ told.Committed 2 ∷ []
unfolding stream labels
labels_answers = refl
