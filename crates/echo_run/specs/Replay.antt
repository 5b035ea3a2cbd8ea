-- What the events of a schedule come to.
use Rattle.std.specs.Prelude.{◌≡◌, ℕ, ◌+◌, Bool, true, List, [], ◌∷◌, ◌++◌, length, map, take, Option, Some}
use Rattle.device_types.specs.declared.event.Event.{Event}
use Rattle.device_types.specs.declared.event.EventAnswer.{EventAnswer}
use Rattle.device_types.specs.declared.finals.DeviceEnd.{DeviceEnd}
use Rattle.device_types.specs.declared.subscriber.Subscriber.{Subscriber}
use Rattle.device_machine.specs.Ends.{finals_of}
use Rattle.entry_edge.specs.Trace.{Turn, book_of, refused_of}
use Rattle.schedule_laws.specs.Answer.{answers}
use Rattle.schedule_laws.specs.Counts.{Turn as Answered}
use Rattle.link_schedule.specs.Floor.{events_of}
use Rattle.schedule_laws.specs.Lists.{Begins}
use Rattle.schedule_laws.specs.Promise.{setting}
use Rattle.schedule_laws.specs.Setting.{Setting}
use Rattle.report_text.specs.Final.{final_text}
use Rattle.report_text.specs.Transcript.{transcript_line}

-- the subscribers, and the messages that admission gives them, with so many replicas
abbrev pub setting_of : List Subscriber → List Turn → ℕ → Setting
setting_of rows H replicas = setting rows (book_of (length rows) H) replicas

-- a line for each answer, the first of them with that number
abbrev pub lines_from : ℕ → List EventAnswer → List ℕ
lines_from number [] = []
lines_from number (answer ∷ answers) = transcript_line number answer ++ lines_from (number + 1) answers

-- a line for each event, numbered from 1, with what it comes to where the events before it came first
unfoldable pub transcript_of : Setting → List Event → List ℕ
transcript_of s events = lines_from 1 (answers s events)

-- ---- on a floor

-- a line for each event of the schedule with the answer that was given to it, and then the refused lines and the ends
abbrev pub told_of : List Subscriber → List Turn → List Event → List Answered → List DeviceEnd → List ℕ
told_of rows H schedule given ends =
    lines_from 1 (map (λ turn. turn.1) (take (length schedule) given)) ++ final_text rows (refused_of H) ends

-- the floor runs on the setting of the case, and was given the schedule first; an exact floor ends as machines do that never fail
pub record IsRun (rows : List Subscriber) (H : List Turn) (schedule : List Event) (replicas : ℕ) (exact : Bool) (setting : Option Setting) (given : List Answered) (ends : List DeviceEnd) : Type 0 where
  pub of_case : setting ≡ Some (setting_of rows H replicas)
  pub schedule_first : Begins schedule (events_of given)
  pub exact_ends : exact ≡ true → ends ≡ finals_of rows (book_of (length rows) H)
