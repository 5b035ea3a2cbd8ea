-- What a command makes of a case text: a text, or a refusal with its number and line.
use Rattle.std.specs.Prelude.{◌≡◌, ◌++◌, ℕ, Bool, true, false, List, length, Option, Result, Ok, Err, if◌then◌else◌}
use Rattle.device_types.specs.declared.event.Event.{Event}
use Rattle.device_types.specs.declared.finals.DeviceEnd.{DeviceEnd}
use Rattle.device_types.specs.declared.subscriber.Subscriber.{Subscriber}
use Rattle.case_form.specs.declared.case.TraceLine.{TraceLine}
use Rattle.case_form.specs.Case.{first_bad, rows_of, trace_of, schedule_of}
use Rattle.case_form.specs.Lines.{lines_of}
use Rattle.entry_edge.specs.Trace.{Turn, history, book_of}
use Rattle.schedule_laws.specs.Counts.{Turn as Answered}
use Rattle.schedule_laws.specs.Setting.{Setting}
use Rattle.crash_run.specs.Text.{crash_text}
use Rattle.epoch_run.specs.Text.{device_text}
use Rattle.device_machine.specs.Ends.{finals_of}
use Rattle.report_text.specs.Calls.{s11_text, s6a_text}
use Rattle.report_text.specs.Show.{show_text, show_gtp_text, show_dia_text}
use Rattle.command_words.specs.declared.command.Command.{Command}
use Rattle.command_words.specs.declared.command.Command.TheVariants.{Plain, Replay, Show, S11, S6a, Make, Epochs, Crash}
use Rattle.command_words.specs.declared.command.Protocol.{Protocol}
use Rattle.command_words.specs.declared.command.Protocol.TheVariants as protocol
use Rattle.top_calls.specs.declared.no_text.NoText.{NoText}
use Rattle.top_calls.specs.declared.no_text.NoText.TheVariants as no
use Rattle.top_calls.specs.Answers.{unless_bad}
use Rattle.top_calls.specs.Ends.{plain_of}
use Rattle.echo_run.specs.Replay.{setting_of, transcript_of, told_of, IsRun}
use Rattle.echo_run.specs.Summary.{made_replicas, summary_by, summary_on}

-- what the events of the schedule come to with so many replicas, and then that
abbrev pub replay_of : List Subscriber → List Turn → List Event → ℕ → List ℕ
replay_of rows H schedule replicas = transcript_of (setting_of rows H replicas) schedule ++ plain_of rows H

-- what events come to that are drawn of the streams of a device
abbrev pub epochs_of : List Subscriber → List Turn → ℕ → ℕ → ℕ → List ℕ
epochs_of rows H device number events = device_text rows (book_of (length rows) H) device number events

-- what a disk keeps of the devices that fails after so many calls
abbrev pub crash_of : List Subscriber → List Turn → ℕ → List ℕ
crash_of rows H after = crash_text rows (book_of (length rows) H) after

-- what the lines of a trace are as messages of a protocol
abbrev pub show_of : Protocol → List TraceLine → List ℕ
show_of protocol.S1ap trace = show_text trace
show_of protocol.Gtp trace = show_gtp_text trace
show_of protocol.Diameter trace = show_dia_text trace

-- what the devices that are alone with their admitted messages call of the gateway, and what it answers
abbrev pub s11_of : List Subscriber → List Turn → List ℕ
s11_of rows H = s11_text rows (finals_of rows (book_of (length rows) H))

-- the same of the subscriber server
abbrev pub s6a_of : List Subscriber → List Turn → List ℕ
s6a_of rows H = s6a_text rows (finals_of rows (book_of (length rows) H))

-- the case text itself is wanted, and not what comes of it
abbrev pub is_case_wanted : Command → Bool
is_case_wanted Plain = false
is_case_wanted (Replay replicas) = false
is_case_wanted (Show protocol) = false
is_case_wanted S11 = false
is_case_wanted S6a = false
is_case_wanted (Make number devices rounds text) = text
is_case_wanted (Epochs device number events) = false
is_case_wanted (Crash after) = false

-- the text that a command makes of a case
unfoldable pub text_of : Command → List Subscriber → List TraceLine → List Event → List ℕ
text_of Plain rows trace schedule = plain_of rows (history rows trace)
text_of (Replay replicas) rows trace schedule = replay_of rows (history rows trace) schedule replicas
text_of (Show protocol) rows trace schedule = show_of protocol trace
text_of S11 rows trace schedule = s11_of rows (history rows trace)
text_of S6a rows trace schedule = s6a_of rows (history rows trace)
text_of (Make number devices rounds text) rows trace schedule = summary_by rows (history rows trace) schedule
text_of (Epochs device number events) rows trace schedule = epochs_of rows (history rows trace) device number events
text_of (Crash after) rows trace schedule = crash_of rows (history rows trace) after

-- the case text where that is wanted; else the refusal of its first bad line, and where none is bad the text of the case
unfoldable pub answer_of : Command → List ℕ → Result (List ℕ) (ℕ × ℕ)
answer_of command octets =
    let lines = lines_of octets in
    if is_case_wanted command then Ok octets
    else unless_bad (first_bad octets) (text_of command (rows_of lines) (trace_of lines) (schedule_of lines))

-- ---- on a floor, which gave these answers and has these ends

abbrev pub text_on : Command → List Subscriber → List TraceLine → List Event → List Answered → List DeviceEnd → List ℕ
text_on Plain rows trace schedule given ends = plain_of rows (history rows trace)
text_on (Replay replicas) rows trace schedule given ends = told_of rows (history rows trace) schedule given ends
text_on (Show protocol) rows trace schedule given ends = show_of protocol trace
text_on S11 rows trace schedule given ends = s11_of rows (history rows trace)
text_on S6a rows trace schedule given ends = s6a_of rows (history rows trace)
text_on (Make number devices rounds text) rows trace schedule given ends = summary_on rows (history rows trace) schedule given ends
text_on (Epochs device number events) rows trace schedule given ends = epochs_of rows (history rows trace) device number events
text_on (Crash after) rows trace schedule given ends = crash_of rows (history rows trace) after

-- the text of a case that is not refused
unfoldable pub told_by : Command → List ℕ → List Answered → List DeviceEnd → Result (List ℕ) (ℕ × ℕ)
told_by command octets given ends =
    let lines = lines_of octets in
    if is_case_wanted command then Ok octets
    else unless_bad (first_bad octets) (text_on command (rows_of lines) (trace_of lines) (schedule_of lines) given ends)

abbrev pub RunsOn : Command → List Subscriber → List TraceLine → List Event → Bool → Option Setting → List Answered → List DeviceEnd → Type 0
RunsOn Plain rows trace schedule exact setting given ends = Unit {0}
RunsOn (Replay replicas) rows trace schedule exact setting given ends = IsRun rows (history rows trace) schedule replicas exact setting given ends
RunsOn (Show protocol) rows trace schedule exact setting given ends = Unit {0}
RunsOn S11 rows trace schedule exact setting given ends = Unit {0}
RunsOn S6a rows trace schedule exact setting given ends = Unit {0}
RunsOn (Make number devices rounds text) rows trace schedule exact setting given ends = IsRun rows (history rows trace) schedule made_replicas exact setting given ends
RunsOn (Epochs device number events) rows trace schedule exact setting given ends = Unit {0}
RunsOn (Crash after) rows trace schedule exact setting given ends = Unit {0}

-- `replay`, and `make` where its text is not wanted, ran the schedule of the case; of the other commands it says nothing
unfoldable pub Ran : Command → List ℕ → Bool → Option Setting → List Answered → List DeviceEnd → Type 0
Ran command octets exact setting given ends =
    let lines = lines_of octets in
    is_case_wanted command ≡ false → RunsOn command (rows_of lines) (trace_of lines) (schedule_of lines) exact setting given ends

-- a command that runs no schedule
abbrev pub IsWithoutFloor : Command → Type 0
IsWithoutFloor Plain = Unit {0}
IsWithoutFloor (Replay replicas) = ⊥
IsWithoutFloor (Show protocol) = Unit {0}
IsWithoutFloor S11 = Unit {0}
IsWithoutFloor S6a = Unit {0}
IsWithoutFloor (Make number devices rounds text) = text ≡ true
IsWithoutFloor (Epochs device number events) = Unit {0}
IsWithoutFloor (Crash after) = Unit {0}

-- that answer, unless memory ran out
abbrev pub IsAnswer : Result (List ℕ) NoText → Result (List ℕ) (ℕ × ℕ) → Type 0
IsAnswer (Ok text) wanted = wanted ≡ Ok text
IsAnswer (Err (no.Refused number line)) wanted = wanted ≡ Err (number, line)
IsAnswer (Err no.OutOfMemory) wanted = Unit {0}
