-- Alone: the one machine of a device that never fails, over the messages of the device, with each call answered at once.
use Rattle.std.specs.Prelude.{◌≡◌, ◌≤◌, ℕ, zero, suc, ◌*◌, Bool, true, false, List, [], ◌∷◌, ◌++◌, length, take, Option, Some, None, option_map, slice_get}
use Rattle.std.specs.List.{flat_map, count_by}
use Rattle.device_types.specs.declared.event.Lane.{Lane}
use Rattle.device_types.specs.declared.input.Answer.TheVariants as answers
use Rattle.device_types.specs.declared.input.Input.{Input}
use Rattle.device_types.specs.declared.input.Input.TheVariants as inputs
use Rattle.device_types.specs.declared.message.Message.{Message}
use Rattle.device_types.specs.declared.step.Entry.{Entry}
use Rattle.device_types.specs.declared.subscriber.Subscriber.{Subscriber}
use Rattle.device_types.specs.Journal.{session_of, effects_of, taken_count, awaited_call}
use Rattle.device_types.specs.PeerAnswer.{answer_of}
use Rattle.device_types.specs.StepTable.{step_of}

-- the peer's answer to the awaited call, or else the next message, if there is one
abbrev pub input_at : Subscriber → List Message → List Entry → Option (Lane × ℕ) → Option Input
input_at row messages journal None = option_map inputs.Message (slice_get messages (taken_count journal))
input_at row messages journal (Some call) = Some (inputs.Answer call.0 call.1 (answer_of row (take call.1 (effects_of call.0 journal))))

-- the input that comes next behind a journal
abbrev pub next_input : Subscriber → List Message → List Entry → Option Input
next_input row messages journal = input_at row messages journal (awaited_call journal)

-- the entry of an input behind a journal: its step is the table's
abbrev pub entry_of : Subscriber → List Entry → Input → Entry
entry_of row journal input = record { input = input; step = step_of row (session_of journal) input }

-- the entry that comes next behind a journal, if one does
abbrev pub next_entry : Subscriber → List Message → List Entry → Option Entry
next_entry row messages journal = option_map (entry_of row journal) (next_input row messages journal)

abbrev pub with_next : List Entry → Option Entry → List Entry
with_next journal None = journal
with_next journal (Some entry) = journal ++ entry ∷ []

-- the first entries, at most so many
abbrev pub alone_to : Subscriber → List Message → ℕ → List Entry
alone_to row messages zero = []
alone_to row messages (suc v) = with_next (alone_to row messages v) (next_entry row messages (alone_to row messages v))

-- all entries: a message leads to at most three
unfoldable pub alone_of : Subscriber → List Message → List Entry
alone_of row messages = alone_to row messages (3 * length messages)

-- is this the answer to a call that creates?
abbrev pub is_created : Input → Bool
is_created (inputs.Answer lane k (answers.Created sgw teid ip)) = true
is_created (inputs.Answer lane k (answers.SecondCreated sgw teid ip)) = true
is_created _ = false

-- how many calls that create were answered
abbrev pub created_count : List Entry → ℕ
created_count journal = count_by (λ entry. is_created entry.input) journal

-- the messages that were taken, in order
abbrev pub messages_in : Input → List Message
messages_in (inputs.Message message) = message ∷ []
messages_in (inputs.Answer lane k answer) = []

abbrev pub messages_of : List Entry → List Message
messages_of journal = flat_map (λ entry. messages_in entry.input) journal

-- each entry is the one that comes next behind those before it, and behind the last none comes
abbrev pub IsAlone : Subscriber → List Message → List Entry → Type 0
IsAlone row messages journal = (v : ℕ) → v ≤ length journal → next_entry row messages (take v journal) ≡ slice_get journal v
