-- What a run comes to, in numbers.
use Rattle.std.specs.Prelude.{ℕ, List, length, Option}
use Rattle.std.specs.List.{sum_by}
use Rattle.device_types.specs.declared.finals.DeviceEnd.{DeviceEnd}
use Rattle.device_types.specs.declared.message.Message.{Message}
use Rattle.entry_edge.specs.declared.admission.RefusedLine.{RefusedLine}
use Rattle.report_text.specs.declared.summary.Scheduled.{Scheduled}
use Rattle.report_text.specs.declared.summary.Summary.{Summary}
use Rattle.top_calls.specs.declared.summary.Sums.{Sums}

-- the messages of all devices
abbrev pub messages_of : List (List Message) → ℕ
messages_of book = sum_by length book

-- what became of all devices
abbrev pub sums_of : List DeviceEnd → Sums
sums_of ends = record {
  steps = sum_by (λ end. end.steps) ends;
  downs = sum_by (λ end. length end.downs) ends;
  gateway = sum_by (λ end. length end.gateway) ends;
  subscriber = sum_by (λ end. length end.subscriber) ends;
}

-- the summary of a run over a trace that gave the devices this book and refused these lines, with these counts of its events, where it
-- had a schedule, and at whose end that became of the devices
abbrev pub summary_of : List (List Message) → List RefusedLine → Option Scheduled → List DeviceEnd → Summary
summary_of book refused scheduled ends =
    let sums = sums_of ends in
    record {
      devices = length book;
      messages = messages_of book;
      refused = length refused;
      scheduled = scheduled;
      steps = sums.steps;
      downs = sums.downs;
      gateway = sums.gateway;
      subscriber = sums.subscriber;
    }
