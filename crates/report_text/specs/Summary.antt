-- The summary of a run, in numbers.
use Rattle.std.specs.Prelude.{ℕ, List, [], ◌++◌, codes, Option, Some, None}
use Rattle.std.specs.Fmt.{decimal}
use Rattle.report_text.specs.declared.summary.Scheduled.{Scheduled}
use Rattle.report_text.specs.declared.summary.Summary.{Summary}
use Rattle.report_text.specs.Lines.{ended}

abbrev pub trace_words : Summary → List ℕ
trace_words s = codes "devices " ++ decimal s.devices ++ codes " messages " ++ decimal s.messages ++ codes " refused " ++ decimal s.refused

abbrev pub event_words : Scheduled → List ℕ
event_words s = codes " events " ++ decimal s.events ++ codes " committed " ++ decimal s.committed ++ codes " stale " ++ decimal s.stale

-- only of a run with a schedule
abbrev pub scheduled_words : Option Scheduled → List ℕ
scheduled_words None = []
scheduled_words (Some s) = event_words s

abbrev pub final_words : Summary → List ℕ
final_words s = codes " steps " ++ decimal s.steps ++ codes " down " ++ decimal s.downs ++ codes " gateway " ++ decimal s.gateway ++ codes " subscriber " ++ decimal s.subscriber

abbrev pub summary_line : Summary → List ℕ
summary_line s = ended (trace_words s ++ scheduled_words s.scheduled ++ final_words s)
