-- The streams of a device: its messages, cut where it comes to a base station.
use Rattle.std.specs.Prelude.{◌≡◌, ℕ, ◌+◌, ◌==◌, ◌≤◌, Bool, true, false, List, [], ◌∷◌, ◌++◌, length, fold, count_by, if◌then◌else◌}
use Rattle.device_types.specs.declared.message.Body.{Body}
use Rattle.device_types.specs.declared.message.Body.TheVariants as bodies
use Rattle.device_types.specs.declared.message.Message.{Message}
use Rattle.device_types.specs.StepLaws.{comes}
use Rattle.epoch_agents.specs.declared.stream.Stream.{Stream}

-- an INITIAL UE MESSAGE begins a stream: it carries what a device comes with; and so does a notice
abbrev pub begins : Message → Bool
begins message = comes message.body

-- a notice of the gateway
abbrev pub is_data : Body → Bool
is_data bodies.Data = true
is_data _ = false

abbrev pub is_notice : Message → Bool
is_notice message = is_data message.body

-- a message behind others, with the next number
abbrev pub and_message : List Message → Message → List Message
and_message messages message = messages ++ record message { number = length messages + 1 } ∷ []

-- messages numbered anew, from 1
abbrev pub numbered : List Message → List Message
numbered messages = fold and_message [] messages

-- the messages up to the next one that begins a stream, without the notices among them
abbrev pub onward : List Message → List Message
onward [] = []
onward (message ∷ messages) = if is_notice message then onward messages else if begins message then [] else message ∷ onward messages

-- what belongs to the stream of a message behind it: to a notice nothing
abbrev pub behind : Message → List Message → List Message
behind first messages = if is_notice first then [] else onward messages

abbrev pub is_of_station : ℕ → Stream → Bool
is_of_station station stream = station == stream.station

-- the index of the next stream of a station, behind these
abbrev pub next_index : List Stream → ℕ → ℕ
next_index streams station = count_by (is_of_station station) streams + 1

-- the stream of that index that a message begins, where those messages follow
abbrev pub stream_from : ℕ → Message → List Message → Stream
stream_from index message messages = record {
  station = message.station;
  index = index;
  line = record { messages = numbered (message ∷ behind message messages); acked = 0 };
}

-- with the stream that a message begins behind them, where it begins one
abbrev pub and_stream : List Stream → Message → List Message → List Stream
and_stream streams message messages = if begins message then streams ++ stream_from (next_index streams message.station) message messages ∷ [] else streams

-- the streams of messages, in the order of their first ones, behind these streams
abbrev pub streams_behind : List Stream → List Message → List Stream
streams_behind streams [] = streams
streams_behind streams (message ∷ messages) = streams_behind (and_stream streams message messages) messages

-- the streams of a device with these messages
unfoldable pub streams_of : List Message → List Stream
streams_of messages = streams_behind [] messages

-- a stream has a message, and none of them is acknowledged
pub record IsNew (stream : Stream) : Type 0 where
  pub some : 1 ≤ length stream.line.messages
  pub none_acked : stream.line.acked ≡ 0
