-- The made case.
use Rattle.std.specs.Prelude.{ℕ, ◌*◌, List, [], ◌∷◌, ◌++◌, codes}
use Rattle.std.specs.List.{flat_map, range_with_len}
use Rattle.device_types.specs.declared.event.Event.{Event}
use Rattle.trace_gen.specs.declared.script.Sent.{Sent}
use Rattle.trace_gen.specs.Draws.{state_after}
use Rattle.case_form.specs.Event.{event_line}
use Rattle.trace_gen.specs.Messages.{trace_line}
use Rattle.trace_gen.specs.Schedule.{schedule_behind}
use Rattle.trace_gen.specs.Subscribers.{subscriber_line}
use Rattle.trace_gen.specs.Trace.{made_trace}

-- the schedule goes on with the draws behind those of the visits, one for each visit but those of the first round
abbrev pub made_schedule : ℕ → ℕ → ℕ → List Event
made_schedule number devices rounds = schedule_behind (state_after number (devices * rounds)) [] (made_trace number devices rounds)

-- a line with the LF that ends it
abbrev pub ended : List ℕ → List ℕ
ended line = line ++ 10 ∷ []

abbrev pub subscribers_text : ℕ → List ℕ
subscribers_text devices = ended (codes "[subscribers]") ++ flat_map (λ device. ended (subscriber_line device)) (range_with_len 1 devices)

abbrev pub trace_text : List Sent → List ℕ
trace_text trace = ended (codes "[trace]") ++ flat_map (λ sent. ended (trace_line sent)) trace

abbrev pub events_text : List Event → List ℕ
events_text events = flat_map (λ event. ended (event_line event)) events

abbrev pub schedule_text : List Event → List ℕ
schedule_text events = ended (codes "[schedule]") ++ events_text events

-- the case of a number, of so many devices and rounds behind the first
unfoldable pub made_case : ℕ → ℕ → ℕ → List ℕ
made_case number devices rounds = subscribers_text devices ++ trace_text (made_trace number devices rounds) ++ schedule_text (made_schedule number devices rounds)
