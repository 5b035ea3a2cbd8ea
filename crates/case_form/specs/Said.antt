-- What a case text says.
use Rattle.std.specs.Prelude.{ℕ, ◌≤◌, List, length, All}
use Rattle.device_types.specs.declared.event.Event.{Event}
use Rattle.device_types.specs.declared.subscriber.Subscriber.{Subscriber}
use Rattle.device_types.specs.Event.{IsInForm}
use Rattle.device_types.specs.Numbers.{IsWithin}
use Rattle.case_form.specs.declared.case.TraceLine.{TraceLine}
use Rattle.case_form.specs.declared.case.TraceKind.{TraceKind}
use Rattle.case_form.specs.declared.case.TraceKind.TheVariants.{Pdu, Data}

-- how many lines a trace or a schedule may have
abbrev pub most_lines : ℕ
most_lines = 100000

-- what a base station sent is from one, which are numbered from 1; a notice is from none
abbrev pub HasStation : TraceKind → Type 0
HasStation (Pdu station text) = IsWithin 65535 station
HasStation (Data imsi) = Unit {0}

-- the subscribers, what base stations and the gateway sent, and the events that are to happen
pub record CaseState : Type 0 where
  pub table : List Subscriber
  pub trace : List TraceLine
  pub schedule : List Event

-- numbers are in their limits, events are on devices of the table, and there are not too many lines
pub record IsInLimits (case : CaseState) : Type 0 where
  pub stations : All (λ line. HasStation line.kind) case.trace
  pub events : All (IsInForm (length case.table)) case.schedule
  pub trace_most : length case.trace ≤ most_lines
  pub schedule_most : length case.schedule ≤ most_lines
