-- What is seen of a journal.
use Rattle.std.specs.Prelude.{◌≤◌, List, Option, None}
use Rattle.device_types.specs.declared.input.Input.{Input}
use Rattle.device_types.specs.declared.input.Input.TheVariants as inputs
use Rattle.device_types.specs.declared.look.Look.{Look}
use Rattle.device_types.specs.declared.look.Look.TheVariants.{Repeat}
use Rattle.device_types.specs.declared.step.Entry.{Entry}
use Rattle.device_types.specs.declared.step.Reply.{Reply}
use Rattle.device_types.specs.Event.{IsCallLane}
use Rattle.device_types.specs.Journal.{version_of, session_of, reply_of}
use Rattle.device_types.specs.Look.{look_of, answer_look_of}
use Rattle.session_store.specs.declared.asked.Asked.{Asked}
use Rattle.session_store.specs.declared.asked.Asked.TheVariants.{Message, Answer}
use Rattle.session_store.specs.declared.asked.Peeked.{Peeked}
use Rattle.session_store.specs.declared.asked.Seen.{Seen}
use Rattle.session_store.specs.Law.{window}

-- messages and calls are numbered from 1, and only calls are answered
abbrev pub IsAsked : Asked → Type 0
IsAsked (Message n) = 1 ≤ n
IsAsked (Answer lane k) = IsCallLane lane × (1 ≤ k)

-- what is asked of an input
abbrev pub asked_of : Input → Asked
asked_of (inputs.Message message) = Message message.number
asked_of (inputs.Answer lane k answer) = Answer lane k

-- what the row of a journal says
abbrev pub look_to : List Entry → Asked → Look
look_to journal (Message n) = look_of window journal n
look_to journal (Answer lane k) = answer_look_of journal lane k

abbrev pub repeated_reply : List Entry → Look → Option Reply
repeated_reply journal (Repeat n) = reply_of journal n
repeated_reply journal _ = None

abbrev pub IsRepeat : Look → Type 0
IsRepeat (Repeat n) = Unit {0}
IsRepeat _ = ⊥

-- with the reply exactly where the look is a repeat
abbrev pub seen_of : List Entry → Asked → Seen
seen_of journal asked = record {
  version = version_of journal;
  session = session_of journal;
  look = look_to journal asked;
  reply = repeated_reply journal (look_to journal asked);
}

-- the same without the session
abbrev pub peeked_of : List Entry → Asked → Peeked
peeked_of journal asked = record {
  version = version_of journal;
  look = look_to journal asked;
  reply = repeated_reply journal (look_to journal asked);
}
