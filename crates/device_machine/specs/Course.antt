-- What `alone` keeps of a journal on its way.
use Rattle.std.specs.Prelude.{◌≡◌, ℕ, ◌+◌, if◌then◌else◌, List, [], ◌∷◌, ◌++◌, Option, Some, None, option_map, slice_get}
use Rattle.std.specs.List.{count_by}
use Rattle.device_types.specs.declared.effect.Effect.{Effect}
use Rattle.device_types.specs.declared.event.Lane.{Lane}
use Rattle.device_types.specs.declared.event.Lane.TheVariants as lanes
use Rattle.device_types.specs.declared.input.Answer.{Answer}
use Rattle.device_types.specs.declared.input.Input.{Input}
use Rattle.device_types.specs.declared.input.Input.TheVariants as inputs
use Rattle.device_types.specs.declared.message.Message.{Message}
use Rattle.device_types.specs.declared.step.Entry.{Entry}
use Rattle.device_types.specs.declared.subscriber.Subscriber.{Subscriber}
use Rattle.device_types.specs.Acts.{made}
use Rattle.device_types.specs.Alone.{alone_to, next_input, is_created, created_count}
use Rattle.device_types.specs.Awaited.{awaited_by, lane_of}
use Rattle.device_types.specs.Journal.{is_on, is_message, session_of, taken_count, pushed_count}
use Rattle.device_types.specs.PeerAnswer.{answer_to}
use Rattle.device_machine.specs.declared.course.Course.{Course}

-- the session behind a journal, how many messages were taken and creates answered, and how many calls were made
abbrev pub course_of : List Entry → Course
course_of journal = record {
  session = session_of journal;
  taken = taken_count journal;
  created = created_count journal;
  gateway = pushed_count lanes.Gateway journal;
  subscriber = pushed_count lanes.Subscriber journal;
}

-- the number of the last call of a lane
abbrev pub last_on : Course → Lane → ℕ
last_on course lanes.Down = 0
last_on course lanes.Gateway = course.gateway
last_on course lanes.Subscriber = course.subscriber

-- the answer to the awaited call, with its lane, where so many creates were answered
abbrev pub answer_for : Subscriber → ℕ → List Effect → Option (Lane × Answer)
answer_for row created [] = None
answer_for row created (call ∷ calls) = Some (lane_of call, answer_to row created call)

abbrev pub input_from : List Message → Course → Option (Lane × Answer) → Option Input
input_from messages course None = option_map inputs.Message (slice_get messages course.taken)
input_from messages course (Some answer) = Some (inputs.Answer answer.0 (last_on course answer.0) answer.1)

-- the input that comes next
abbrev pub input_for : Subscriber → List Message → Course → Option Input
input_for row messages course = input_from messages course (answer_for row course.created (awaited_by course.session))

-- with one more entry, whose step the session has taken
abbrev pub noted : Course → Input → List Effect → Course
noted course input effects = record {
  session = course.session;
  taken = course.taken + (if is_message input then 1 else 0);
  created = course.created + (if is_created input then 1 else 0);
  gateway = course.gateway + count_by (is_on lanes.Gateway) effects;
  subscriber = course.subscriber + count_by (is_on lanes.Subscriber) effects;
}

-- the course went on by one entry, if one came, and these are the effects of its step
abbrev pub GoesOn : Subscriber → List Message → ℕ → Course → Option (List Effect) → Type 0
GoesOn row messages v course (Some effects) =
    (course ≡ course_of (alone_to row messages (v + 1)))
    × ((e : Entry) × (alone_to row messages (v + 1) ≡ alone_to row messages v ++ e ∷ []) × (e.step ≡ made course.session effects))
GoesOn row messages v course None =
    (course ≡ course_of (alone_to row messages v)) × (next_input row messages (alone_to row messages v) ≡ None)
