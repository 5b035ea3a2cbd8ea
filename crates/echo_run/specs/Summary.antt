-- What a run comes to, in numbers.
use Rattle.std.specs.Prelude.{ℕ, ◌+◌, Bool, true, false, List, length, map, take, count_by, Some, if◌then◌else◌}
use Rattle.device_types.specs.declared.event.Event.{Event}
use Rattle.device_types.specs.declared.event.EventAnswer.{EventAnswer}
use Rattle.device_types.specs.declared.event.EventAnswer.TheVariants.{Committed, Stale}
use Rattle.device_types.specs.declared.finals.DeviceEnd.{DeviceEnd}
use Rattle.device_types.specs.declared.subscriber.Subscriber.{Subscriber}
use Rattle.device_machine.specs.Ends.{finals_of}
use Rattle.entry_edge.specs.Trace.{Turn, book_of, refused_of}
use Rattle.report_text.specs.Summary.{summary_line}
use Rattle.report_text.specs.declared.summary.Scheduled.{Scheduled}
use Rattle.schedule_laws.specs.Answer.{answers}
use Rattle.schedule_laws.specs.Counts.{Turn as Answered}
use Rattle.top_calls.specs.Summary.{summary_of}
use Rattle.echo_run.specs.Replay.{setting_of}

-- a made case runs with so many replicas
abbrev pub made_replicas : ℕ
made_replicas = 2

abbrev pub is_committed : EventAnswer → Bool
is_committed (Committed version) = true
is_committed _ = false

abbrev pub is_stale : EventAnswer → Bool
is_stale (Stale read current) = true
is_stale _ = false

-- the events of a schedule, by their answers
abbrev pub scheduled_of : List EventAnswer → Scheduled
scheduled_of answers = record { events = length answers; committed = count_by is_committed answers; stale = count_by is_stale answers }

abbrev pub one_if : Bool → ℕ
one_if b = if b then 1 else 0

-- with one answer more
abbrev pub with_answer : Scheduled → EventAnswer → Scheduled
with_answer counts answer = record {
  events = counts.events + 1;
  committed = counts.committed + one_if (is_committed answer);
  stale = counts.stale + one_if (is_stale answer);
}

abbrev summed : List Subscriber → List Turn → List EventAnswer → List DeviceEnd → List ℕ
summed rows H told ends = summary_line (summary_of (book_of (length rows) H) (refused_of H) (Some (scheduled_of told)) ends)

-- the line of a case whose schedule is run with two replicas
abbrev pub summary_by : List Subscriber → List Turn → List Event → List ℕ
summary_by rows H schedule = summed rows H (answers (setting_of rows H made_replicas) schedule) (finals_of rows (book_of (length rows) H))

-- the same on a floor, which gave these answers and has these ends: those to the schedule are counted, not those of its settling
abbrev pub summary_on : List Subscriber → List Turn → List Event → List Answered → List DeviceEnd → List ℕ
summary_on rows H schedule given ends = summed rows H (map (λ turn. turn.1) (take (length schedule) given)) ends
