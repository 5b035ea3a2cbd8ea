-- What a command of the threads makes of a case text: a text, or a refusal with its number and line.
use Rattle.std.specs.Prelude.{◌≡◌, ℕ, List, length, Option, Some, None, Result, Err, option_map}
use Rattle.case_form.specs.Case.{first_bad, rows_of, trace_of}
use Rattle.case_form.specs.Lines.{lines_of}
use Rattle.case_form.specs.declared.case.TraceLine.{TraceLine}
use Rattle.command_words.specs.declared.command.ThreadsCommand.{ThreadsCommand}
use Rattle.command_words.specs.declared.command.ThreadsCommand.TheVariants.{Run, Load}
use Rattle.device_machine.specs.Ends.{finals_of}
use Rattle.device_types.specs.declared.subscriber.Subscriber.{Subscriber}
use Rattle.entry_edge.specs.Trace.{Turn, history, book_of, refused_of}
use Rattle.report_text.specs.Summary.{summary_line}
use Rattle.top_calls.specs.Answers.{unless_bad}
use Rattle.top_calls.specs.Case.{case_made}
use Rattle.top_calls.specs.Ends.{plain_of}
use Rattle.top_calls.specs.Summary.{summary_of}
use Rattle.top_calls.specs.declared.no_text.NoText.{NoText}
use Rattle.top_calls.specs.declared.no_text.NoText.TheVariants as no
use Rattle.top_calls.specs.declared.source.MadeCase.{MadeCase}

-- the numbers of the case that a command makes; the other reads one
abbrev pub made_in : ThreadsCommand → Option MadeCase
made_in (Run workers) = None
made_in (Load number devices rounds workers) = Some (record { number = number; devices = devices; rounds = rounds })

abbrev pub made_by : ThreadsCommand → Option (List ℕ)
made_by command = option_map case_made (made_in command)

abbrev pub workers_of : ThreadsCommand → ℕ
workers_of (Run workers) = workers
workers_of (Load number devices rounds workers) = workers

-- the summary of what becomes of each device that is alone with its admitted messages, without a schedule
abbrev pub load_of : List Subscriber → List Turn → List ℕ
load_of rows H = let book = book_of (length rows) H in summary_line (summary_of book (refused_of H) None (finals_of rows book))

-- the text that a command makes of a case: that of `plain`, or the summary
abbrev pub text_of : ThreadsCommand → List Subscriber → List TraceLine → List ℕ
text_of (Run workers) rows trace = plain_of rows (history rows trace)
text_of (Load number devices rounds workers) rows trace = load_of rows (history rows trace)

-- the refusal of the first bad line, and where none is bad the text of the case
unfoldable pub answer_of : ThreadsCommand → List ℕ → Result (List ℕ) (ℕ × ℕ)
answer_of command octets = let lines = lines_of octets in unless_bad (first_bad octets) (text_of command (rows_of lines) (trace_of lines))

-- that refusal, unless memory ran out
abbrev pub IsRefusal : NoText → Result (List ℕ) (ℕ × ℕ) → Type 0
IsRefusal (no.Refused number line) wanted = wanted ≡ Err (number, line)
IsRefusal no.OutOfMemory wanted = Unit {0}
