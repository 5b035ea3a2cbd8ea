-- The streams of a device, by their places, and the names under which they send.
use Rattle.std.specs.Prelude.{ℕ, ◌-◌, Bool, List, [], length, slice_index_or}
use Rattle.std.specs.Ordering.{is_lt, nat_cmp, ordering_then}
use Rattle.std.specs.declared.cmp.Ordering.{Ordering}
use Rattle.device_types.specs.declared.message.Message.{Message}
use Rattle.epoch_agents.specs.declared.stream.Stream.{Stream}

-- how far an agent sends ahead of the last acknowledged message
abbrev pub window : ℕ
window = 4

-- the stream where there is none
abbrev pub no_stream : Stream
no_stream = record { station = 0; index = 0; line = record { messages = []; acked = 0 } }

-- stream a, from 1
abbrev pub stream_at : List Stream → ℕ → Stream
stream_at streams a = slice_index_or streams (a - 1) no_stream

-- its messages, in order
abbrev pub messages_of : List Stream → ℕ → List Message
messages_of streams a = (stream_at streams a).line.messages

abbrev pub message_count : List Stream → ℕ → ℕ
message_count streams a = length (messages_of streams a)

-- a name: its stamp, and the station and the index of its stream
abbrev pub Name : Type 0
Name = ℕ × ℕ × ℕ

abbrev pub name_of : List Stream → ℕ → ℕ → Name
name_of streams a stamp = (stamp, (stream_at streams a).station, (stream_at streams a).index)

-- of three numbers, the first that differs decides
abbrev pub triple_cmp : ℕ × ℕ × ℕ → ℕ × ℕ × ℕ → Ordering
triple_cmp x y = ordering_then (ordering_then (nat_cmp x.0 y.0) (nat_cmp x.1 y.1)) (nat_cmp x.2 y.2)

-- names are ordered by stamp, station and index
abbrev pub is_below : Name → Name → Bool
is_below x y = is_lt (triple_cmp x y)
