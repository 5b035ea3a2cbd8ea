-- What a replica may hold: what is on its link, and the step that comes next behind the version that it read.
use Rattle.std.specs.Prelude.{◌≡◌, ℕ, ◌-◌, ◌≤◌, true, List, take, Some, slice_index_or}
use Rattle.device_types.specs.declared.input.Input.{Input}
use Rattle.device_types.specs.declared.input.Input.TheVariants as inputs
use Rattle.device_types.specs.declared.message.Body.TheVariants.{Service}
use Rattle.device_types.specs.declared.message.Message.{Message}
use Rattle.device_types.specs.Alone.{next_input}
use Rattle.device_types.specs.Event.{IsCallLane}
use Rattle.device_types.specs.Journal.{effects_of}
use Rattle.device_types.specs.PeerAnswer.{answer_of}
use Rattle.device_types.specs.declared.look.Look.TheVariants as look
use Rattle.schedule_laws.specs.Answer.{look_at}
use Rattle.schedule_laws.specs.Counts.{Turn, Arrival, Held, commits, message_sent, effect_received}
use Rattle.schedule_laws.specs.Counts.Arrival.{TheMessage, TheAnswer}
use Rattle.schedule_laws.specs.Counts.Held.{Nothing, Taken, Ready}
use Rattle.schedule_laws.specs.Setting.{Setting, row_of, messages_of, entries_to, entries_of}

-- the message where there is none
abbrev pub no_message : Message
no_message = record { number = 0; station = 0; enb = 0; body = Service }

-- message n of device d
abbrev pub message_of : Setting → ℕ → ℕ → Message
message_of s d n = slice_index_or (messages_of s d) (n - 1) no_message

-- the input that arrived: a message of the book, or the peer's answer to the first k calls of the machine that never fails
abbrev pub input_of : Setting → ℕ → Arrival → Input
input_of s d (TheMessage n) = inputs.Message (message_of s d n)
input_of s d (TheAnswer lane k) = inputs.Answer lane k (answer_of (row_of s d) (take k (effects_of lane (entries_of s d))))

-- it is on its link
abbrev pub IsArrival : List Turn → ℕ → Arrival → Type 0
IsArrival turns d (TheMessage n) = (1 ≤ n) × (message_sent d n turns ≡ true)
IsArrival turns d (TheAnswer lane k) = IsCallLane lane × (1 ≤ k) × (effect_received d lane k turns ≡ true)

-- a step is of an input that comes next behind the version that was read, as the row said
abbrev pub IsHand : Setting → List Turn → Held → Type 0
IsHand s turns Nothing = Unit {0}
IsHand s turns (Taken d what) = IsArrival turns d what
IsHand s turns (Ready d what v) =
    IsArrival turns d what
    × (v ≤ commits d turns)
    × (look_at (entries_to s d v) what ≡ look.Ready)
    × (next_input (row_of s d) (messages_of s d) (entries_to s d v) ≡ Some (input_of s d what))
