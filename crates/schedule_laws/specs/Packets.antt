-- What is on the links, with its content: the turns say which packets there are; the contents are of the book and of the machine that never
-- fails.
use Rattle.std.specs.Prelude.{ℕ, ◌-◌, Bool, List, take, Option, Some, None, if◌then◌else◌, slice_get}
use Rattle.device_types.specs.declared.effect.Effect.{Effect}
use Rattle.device_types.specs.declared.event.Lane.{Lane}
use Rattle.device_types.specs.declared.input.Answer.{Answer}
use Rattle.device_types.specs.declared.message.Message.{Message}
use Rattle.device_types.specs.declared.step.Reply.{Reply}
use Rattle.device_types.specs.Journal.{effects_of, reply_of}
use Rattle.device_types.specs.PeerAnswer.{answer_of}
use Rattle.schedule_laws.specs.Counts.{Turn, message_sent, reply_sent, effect_pushed, effect_received}
use Rattle.schedule_laws.specs.Input.{message_of}
use Rattle.schedule_laws.specs.Setting.{Setting, row_of, entries_of}

abbrev pub if_so : {X : Type 0} → Bool → Option X → Option X
if_so b o = if b then o else None

-- message n of device d, the reply to it, and effect k of a lane
abbrev pub message_packet : Setting → List Turn → ℕ → ℕ → Option Message
message_packet s turns d n = if_so (message_sent d n turns) (Some (message_of s d n))

abbrev pub reply_packet : Setting → List Turn → ℕ → ℕ → Option Reply
reply_packet s turns d n = if_so (reply_sent d n turns) (reply_of (entries_of s d) n)

abbrev pub effect_packet : Setting → List Turn → ℕ → Lane → ℕ → Option Effect
effect_packet s turns d l k = if_so (effect_pushed d l k turns) (slice_get (effects_of l (entries_of s d)) (k - 1))

-- the answer to a call; it comes with the acknowledgement
abbrev pub answer_packet : Setting → List Turn → ℕ → Lane → ℕ → Option Answer
answer_packet s turns d l k = if_so (effect_received d l k turns) (Some (answer_of (row_of s d) (take k (effects_of l (entries_of s d)))))
