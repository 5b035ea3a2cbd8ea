-- Case texts: the reason for which a line is refused, the first line that is, and what a text says where none is.
use Rattle.std.specs.Prelude.{◌≡◌, ℕ, ◌+◌, ◌-◌, ◌^◌, ◌<◌, ◌≤◌, ◌==◌, min, nat_lt, nat_le, Bool, false, ◌||◌, List, [], ◌∷◌, ◌++◌, length, filter, slice_get, Option, Some, None, Result, Ok, Err, is_some, option_map, if◌then◌else◌}
use Rattle.std.specs.Option.{option_map_or}
use Rattle.std.specs.Result.{result_ok}
use Rattle.std.specs.List.{list_any, filter_map}
use Rattle.echo_base.specs.declared.reason.Reason.{Reason}
use Rattle.echo_base.specs.declared.reason.Reason.TheVariants.{LineTooLong, BadSection, TooManyLines, BadLine}
use Rattle.echo_base.specs.declared.refusal.Refusal.{Refusal}
use Rattle.device_types.specs.declared.event.Event.{Event}
use Rattle.device_types.specs.declared.subscriber.Subscriber.{Subscriber}
use Rattle.subs_table.specs.Row.{row_of}
use Rattle.subs_table.specs.Table.{add_refusal}
use Rattle.case_form.specs.declared.case.CaseBad.{CaseBad}
use Rattle.case_form.specs.declared.case.CaseBad.TheVariants as answer
use Rattle.case_form.specs.declared.case.TraceLine.{TraceLine}
use Rattle.case_form.specs.declared.section.Section.{Section}
use Rattle.case_form.specs.declared.section.Section.TheVariants.{Subscribers, Trace, Schedule}
use Rattle.case_form.specs.Event.{event_of}
use Rattle.case_form.specs.Lines.{lines_of}
use Rattle.case_form.specs.Said.{CaseState, most_lines}
use Rattle.case_form.specs.Section.{place_of, is_passed_over, is_heading, heading_of}
use Rattle.case_form.specs.Trace.{kind_of}

-- how many octets a line may have
abbrev pub most_octets : ℕ
most_octets = 8192

-- ---- where a line stands

-- a line, and the lines before it
pub record Placed : Type 0 where
  pub before : List (List ℕ)
  pub line : List ℕ

abbrev pub placed_behind : List (List ℕ) → List (List ℕ) → List Placed
placed_behind before [] = []
placed_behind before (line ∷ lines) = record { before = before; line = line } ∷ placed_behind (before ++ line ∷ []) lines

-- each line in its place
abbrev pub placed : List (List ℕ) → List Placed
placed lines = placed_behind [] lines

-- a line's number, from 1; those above the last of 32 bits count as that one
abbrev pub placed_number : Placed → ℕ
placed_number p = min (length p.before + 1) (2 ^ 32 - 1)

-- the headings among lines
abbrev pub headings : List (List ℕ) → List Section
headings lines = filter_map heading_of lines

-- the section that stands behind lines: that of their last heading
abbrev pub section_behind : List (List ℕ) → Option Section
section_behind lines = slice_get (headings lines) (length (headings lines) - 1)

abbrev pub is_section : Section → Section → Bool
is_section one other = place_of one == place_of other

-- a line is counted in the section that it stands in, if it is not passed over and no heading
abbrev pub is_counted : Section → Placed → Bool
is_counted section p = if is_passed_over p.line || is_heading p.line then false else option_map_or (is_section section) (section_behind p.before) false

abbrev pub counted : Section → List (List ℕ) → List Placed
counted section lines = filter (is_counted section) (placed lines)

-- ---- what the lines of a section say

-- the row of a subscriber line; its number is that of the line in its section
abbrev pub placed_row : Placed → Option Subscriber
placed_row p = result_ok (row_of (length (counted Subscribers p.before) + 1) p.line)

unfoldable pub rows_of : List (List ℕ) → List Subscriber
rows_of lines = filter_map placed_row (counted Subscribers lines)

abbrev pub placed_trace_line : Placed → Option TraceLine
placed_trace_line p = option_map (λ kind. record { line = placed_number p; kind = kind }) (kind_of p.line)

unfoldable pub trace_of : List (List ℕ) → List TraceLine
trace_of lines = filter_map placed_trace_line (counted Trace lines)

-- the event of a schedule line, whose devices are the rows before it
abbrev pub placed_event : Placed → Option Event
placed_event p = event_of (length (rows_of p.before)) p.line

unfoldable pub schedule_of : List (List ℕ) → List Event
schedule_of lines = filter_map placed_event (counted Schedule lines)

-- ---- why a line is refused

-- a heading is unknown, or it or a later one stands before it
abbrev pub heading_reason : List Section → Option Section → Option Reason
heading_reason before None = Some BadSection
heading_reason before (Some heading) = if list_any (λ earlier. nat_le (place_of heading) (place_of earlier)) before then Some BadSection else None

-- a row that reads, and that the rows before it let in
abbrev pub row_reason : List Subscriber → Result Subscriber Refusal → Option Reason
row_reason before (Ok row) = add_refusal before row
row_reason before (Err e) = Some e.reason

-- a line of the trace or the schedule: one too many, or of another form
abbrev pub form_reason : ℕ → Bool → Option Reason
form_reason before good = if nat_le most_lines before then Some TooManyLines else if good then None else Some BadLine

-- what the line's section has against it; no section stands before the first heading
abbrev pub section_reason : Option Section → Placed → Option Reason
section_reason None p = Some BadSection
section_reason (Some Subscribers) p = row_reason (rows_of p.before) (row_of (length (counted Subscribers p.before) + 1) p.line)
section_reason (Some Trace) p = form_reason (length (counted Trace p.before)) (is_some (kind_of p.line))
section_reason (Some Schedule) p = form_reason (length (counted Schedule p.before)) (is_some (placed_event p))

-- why a line is refused, or nothing; the first of these that applies
unfoldable pub placed_reason : Placed → Option Reason
placed_reason p =
    if nat_lt most_octets (length p.line) then Some LineTooLong
    else if is_passed_over p.line then None
    else if is_heading p.line then heading_reason (headings p.before) (heading_of p.line)
    else section_reason (section_behind p.before) p

-- ---- the case

-- the lines that are refused: their numbers, and why
abbrev pub refusals : List (List ℕ) → List (ℕ × Reason)
refusals lines = filter_map (λ p. option_map (λ reason. (placed_number p, reason)) (placed_reason p)) (placed lines)

-- the first line that is refused, and why
unfoldable pub first_bad : List ℕ → Option (ℕ × Reason)
first_bad octets = slice_get (refusals (lines_of octets)) 0

-- what a text says is the case
pub record IsCase (octets : List ℕ) (case : CaseState) : Type 0 where
  pub table : case.table ≡ rows_of (lines_of octets)
  pub trace : case.trace ≡ trace_of (lines_of octets)
  pub schedule : case.schedule ≡ schedule_of (lines_of octets)

-- a line of the text is counted in a section
abbrev pub HasCounted : List ℕ → Type 0
HasCounted octets = (section : Section) × (0 < length (counted section (lines_of octets)))

-- a refused line has a number from 1
abbrev pub IsNumbered : CaseBad → Type 0
IsNumbered (answer.Refused reason line) = 1 ≤ line
IsNumbered answer.OutOfMemory = Unit {0}

-- a case comes where no line is bad, and a refusal is that of the first bad line
abbrev pub MatchFirstBad : Result CaseState CaseBad → Option (ℕ × Reason) → Type 0
MatchFirstBad (Ok case) bad = bad ≡ None
MatchFirstBad (Err (answer.Refused reason line)) bad = bad ≡ Some (line, reason)
MatchFirstBad (Err answer.OutOfMemory) bad = Unit {0}
