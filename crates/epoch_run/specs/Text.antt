-- What the drawn events of a device's streams come to, as a text.
use Rattle.std.specs.Prelude.{ℕ, ◌+◌, ◌-◌, List, [], ◌∷◌, ◌++◌, length, fold, Option, Some, None, slice_get}
use Rattle.std.specs.List.{flat_map}
use Rattle.agent_order.specs.Order.{message_at}
use Rattle.device_machine.specs.Ends.{end_of}
use Rattle.device_types.specs.declared.message.Message.{Message}
use Rattle.device_types.specs.declared.subscriber.Subscriber.{Subscriber}
use Rattle.epoch_agents.specs.declared.stream.Merged.{Merged}
use Rattle.epoch_agents.specs.declared.stream.Stream.{Stream}
use Rattle.epoch_agents.specs.Counts.{Turn, merge}
use Rattle.epoch_agents.specs.Streams.{messages_of, stream_at}
use Rattle.report_text.specs.Epochs.{epoch_line, merge_line}
use Rattle.report_text.specs.Lines.{ended}
use Rattle.report_text.specs.Session.{session_line}
use Rattle.epoch_run.specs.Drawn.{course_of}
use Rattle.epoch_run.specs.Streams.{and_message, streams_of}

-- a line for each event, with its number and what it came to; the newest turn stands first
abbrev pub answers_text : List Turn → List ℕ
answers_text [] = []
answers_text (t ∷ turns) = answers_text turns ++ epoch_line (length turns + 1) t.1

-- a committed message, under the label of its stream
abbrev pub entry_line : List Stream → Merged → List ℕ
entry_line streams entry = merge_line (stream_at streams entry.a).station (stream_at streams entry.a).index entry

abbrev pub merge_text : List Stream → List Merged → List ℕ
merge_text streams merged = flat_map (entry_line streams) merged

-- a message behind others, where there is one
abbrev pub and_found : List Message → Option Message → List Message
and_found messages None = messages
and_found messages (Some message) = and_message messages message

-- the message of an entry behind others
abbrev pub and_entry : List Stream → List Message → Merged → List Message
and_entry streams messages entry = and_found messages (message_at (messages_of streams entry.a) entry.n)

-- the messages of a merge, in its order, numbered anew
abbrev pub messages_merged : List Stream → List Merged → List Message
messages_merged streams merged = fold (and_entry streams) [] merged

-- the session of the machine that is alone with these messages
abbrev pub session_text : Subscriber → List Message → List ℕ
session_text row messages = ended (session_line (end_of row messages).session)

-- the merge, and the session of the device that has taken its messages
abbrev pub merged_text : Subscriber → List Stream → List Merged → List ℕ
merged_text row streams merged = merge_text streams merged ++ session_text row (messages_merged streams merged)

-- the answers, and the merge behind them
abbrev pub course_text : Subscriber → List Stream → List Turn → List ℕ
course_text row streams turns = answers_text turns ++ merged_text row streams (merge turns)

abbrev pub text_of : Subscriber → List Stream → ℕ → ℕ → List ℕ
text_of row [] number events = []
text_of row (stream ∷ streams) number events =
    course_text row (stream ∷ streams) (course_of (stream ∷ streams) number events).turns

-- the text of a device with these messages, for so many events drawn from a number; without streams it is empty
unfoldable pub epochs_text : Subscriber → List Message → ℕ → ℕ → List ℕ
epochs_text row messages number events = text_of row (streams_of messages) number events

abbrev pub text_by : Option Subscriber → Option (List Message) → ℕ → ℕ → List ℕ
text_by None messages number events = []
text_by (Some row) None number events = []
text_by (Some row) (Some messages) number events = epochs_text row messages number events

-- of the device of that number, from 1, with its row and its messages; for a device that is no row it is empty
abbrev pub device_text : List Subscriber → List (List Message) → ℕ → ℕ → ℕ → List ℕ
device_text rows book device number events = text_by (slice_get rows (device - 1)) (slice_get book (device - 1)) number events
