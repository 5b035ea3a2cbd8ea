-- What reading keeps of the lines that it has read.
use Rattle.std.specs.Prelude.{◌≡◌, ℕ, ◌+◌, ◌-◌, ◌^◌, min, nat_lt, nat_le, Bool, true, false, List, [], ◌++◌, length, Option, Some, None, Result, Ok, Err, is_some, option_map, if◌then◌else◌}
use Rattle.std.specs.Option.{option_to_list}
use Rattle.std.specs.Result.{result_ok}
use Rattle.echo_base.specs.declared.reason.Reason.{Reason}
use Rattle.echo_base.specs.declared.reason.Reason.TheVariants.{LineTooLong, BadSection}
use Rattle.echo_base.specs.declared.refusal.Bad.{Bad}
use Rattle.echo_base.specs.declared.refusal.Bad.TheVariants as bad
use Rattle.device_types.specs.declared.event.Event.{Event}
use Rattle.device_types.specs.declared.subscriber.Subscriber.{Subscriber}
use Rattle.subs_table.specs.Row.{row_of}
use Rattle.case_form.specs.declared.case.CaseBad.{CaseBad}
use Rattle.case_form.specs.declared.case.CaseBad.TheVariants as case
use Rattle.case_form.specs.declared.case.TraceLine.{TraceLine}
use Rattle.case_form.specs.declared.reading.Reading.{Reading}
use Rattle.case_form.specs.declared.section.Section.{Section}
use Rattle.case_form.specs.declared.section.Section.TheVariants.{Subscribers, Trace, Schedule}
use Rattle.case_form.specs.Case.{most_octets, row_reason, form_reason}
use Rattle.case_form.specs.Event.{event_of}
use Rattle.case_form.specs.Section.{place_of, is_passed_over, is_heading, heading_of}
use Rattle.case_form.specs.Trace.{kind_of}

-- the section of the last heading, the number of the last line, and what the lines say
pub record Seen : Type 0 where
  pub section : Option Section
  pub number : ℕ
  pub rows : List Subscriber
  pub trace : List TraceLine
  pub schedule : List Event

abbrev pub seen_of : Reading → Seen
seen_of r = record { section = r.section; number = r.number; rows = r.table; trace = r.trace.items; schedule = r.schedule.items }

-- before the first line
abbrev pub unread : Seen
unread = record { section = None; number = 0; rows = []; trace = []; schedule = [] }

-- with the next line's number, which stands still at the last of a u32
abbrev pub next : Seen → Seen
next seen = record seen { number = min (seen.number + 1) (2 ^ 32 - 1) }

-- the section is the heading's or a later one
abbrev pub is_late : Section → Option Section → Bool
is_late heading None = false
is_late heading (Some section) = nat_le (place_of heading) (place_of section)

abbrev pub next_heading_reason : Option Section → Option Section → Option Reason
next_heading_reason section None = Some BadSection
next_heading_reason section (Some heading) = if is_late heading section then Some BadSection else None

abbrev pub own_reason : Option Section → Seen → List ℕ → Option Reason
own_reason None seen line = Some BadSection
own_reason (Some Subscribers) seen line = row_reason seen.rows (row_of (length seen.rows + 1) line)
own_reason (Some Trace) seen line = form_reason (length seen.trace) (is_some (kind_of line))
own_reason (Some Schedule) seen line = form_reason (length seen.schedule) (is_some (event_of (length seen.rows) line))

-- why a line is refused behind what was seen
unfoldable pub reason_behind : Seen → List ℕ → Option Reason
reason_behind seen line =
    if nat_lt most_octets (length line) then Some LineTooLong
    else if is_passed_over line then None
    else if is_heading line then next_heading_reason seen.section (heading_of line)
    else own_reason seen.section seen line

unfoldable pub rows_after : List Subscriber → List ℕ → List Subscriber
rows_after rows line = rows ++ option_to_list (result_ok (row_of (length rows + 1) line))

unfoldable pub trace_after : ℕ → List TraceLine → List ℕ → List TraceLine
trace_after number trace line = trace ++ option_to_list (option_map (λ kind. record { line = number; kind = kind }) (kind_of line))

unfoldable pub schedule_after : ℕ → List Event → List ℕ → List Event
schedule_after rows schedule line = schedule ++ option_to_list (event_of rows line)

abbrev pub own_after : Option Section → Seen → List ℕ → Seen
own_after None seen line = seen
own_after (Some Subscribers) seen line = record seen { rows = rows_after seen.rows line }
own_after (Some Trace) seen line = record seen { trace = trace_after seen.number seen.trace line }
own_after (Some Schedule) seen line = record seen { schedule = schedule_after (length seen.rows) seen.schedule line }

-- what was seen with one more line, which is not refused
unfoldable pub after : Seen → List ℕ → Seen
after seen line =
    if is_passed_over line then seen
    else if is_heading line then record seen { section = heading_of line }
    else own_after seen.section seen line

-- the line is counted in the section that was seen
unfoldable pub counts_behind : Option Section → List ℕ → Bool
counts_behind section line = if is_passed_over line then false else if is_heading line then false else is_some section

-- P, and no reason to refuse, or the reason, or no memory, which is taken only where takes_memory says so
abbrev pub Takes : Result (Unit {0}) Bad → Option Reason → Bool → Type 0 → Type 0
Takes (Ok v) reason takes_memory P = (reason ≡ None) × P
Takes (Err (bad.Refused e)) reason takes_memory P = reason ≡ Some e.reason
Takes (Err bad.OutOfMemory) reason takes_memory P = takes_memory ≡ true

-- the same of a line of that number
abbrev pub TakesLine : Result (Unit {0}) CaseBad → Option Reason → Bool → ℕ → Type 0 → Type 0
TakesLine (Ok v) reason takes_memory number P = (reason ≡ None) × P
TakesLine (Err (case.Refused why line)) reason takes_memory number P = (reason ≡ Some why) × (line ≡ number)
TakesLine (Err case.OutOfMemory) reason takes_memory number P = takes_memory ≡ true
