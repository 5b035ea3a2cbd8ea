use Rattle.std.proofs.Common.{Bool, List, Some, length, map, sym, ap, subst, ◌∙◌}
use Rattle.std.specs.Prelude.{All}
use Rattle.device_types.specs.Event.{IsInForm}
use Rattle.device_types.specs.declared.finals.DeviceEnd.{DeviceEnd}
use Rattle.device_types.specs.declared.message.Message.{Message}
use Rattle.device_types.specs.declared.subscriber.Subscriber.{Subscriber}
use Rattle.entry_edge.specs.Trace.{history, book_of, refused_of}
use Rattle.entry_edge.specs.declared.admission.RefusedLine.{RefusedLine}
use Rattle.link_schedule.specs.Floor.{AreEndsOn}
use Rattle.report_text.specs.Summary.{summary_line}
use Rattle.report_text.specs.declared.summary.Scheduled.{Scheduled}
use Rattle.schedule_laws.specs.Promise.{setting}
use Rattle.echo_run.specs.Replay.{setting_of}
use Rattle.echo_run.specs.Summary.{made_replicas, scheduled_of}
use Rattle.top_calls.specs.Summary.{summary_of}
use Rattle.echo_run.proofs.Floors.{is_run, exactly_summed}
use Rattle.echo_run.proofs.Schedule.{case_events}
use Rattle.echo_run.proofs.answer.summary.Goals as goal

pub scheduled-requires : goal.scheduled-requires
scheduled-requires g c =
    let rows = c.args.case.now.table in
    let events = subst (All (IsInForm (length rows))) (sym c.schedule.ensures.value) c.schedule.ensures.events in
    record {
      fresh = c.in_ok-open.ensures.given;
      events = case_events (g.F.Floor.setting c.open.new.self) rows c.in_ok-admitted.admitted.book made_replicas c.schedule.result.now (c.in_ok-open.ensures.setting ∙ ap (λ (x : List Subscriber). Some (setting x c.in_ok-admitted.admitted.book made_replicas)) c.table-table.ensures.value) events;
    }

pub returns-clause-run : goal.returns-clause-run
returns-clause-run g c =
    let rows = c.args.case.now.table in
    let H = history rows c.args.case.now.trace in
    let book = c.in_ok-admitted.admitted.book in
    let first = g.F.Floor.given c.scheduled.new.floor in
    let settled = c.settled_ends.new.floor in
    let on = c.in_ok-ends.ensures.setting ∙ c.in_ok-counts.ensures.setting ∙ c.in_ok-open.ensures.setting ∙ ap (λ (x : List Subscriber). Some (setting x c.in_ok-admitted.admitted.book made_replicas)) c.table-table.ensures.value in
    let exact = c.in_ok-ends.ensures.exact ∙ c.in_ok-counts.ensures.exact ∙ c.in_ok-open.ensures.exact in
    let ends = subst (λ (x : Bool). AreEndsOn (g.F.Floor.setting settled) x (g.F.Floor.ends settled)) exact c.in_ok-ends.ensures.settled in
    is_run rows H c.args.case.now.schedule made_replicas book (g.F.Floor.exact c.args.floor.now) (g.F.Floor.setting settled) first (g.F.Floor.given settled) (g.F.Floor.ends settled)
    c.in_ok-admitted.ensures.book on (c.in_ok-counts.ensures.given ∙ c.schedule.ensures.value) c.in_ok-ends.ensures.given ends

pub returns-clause-definition : goal.returns-clause-definition
returns-clause-definition g c = λ exact.
    let rows = c.args.case.now.table in
    let H = history rows c.args.case.now.trace in
    let told = c.scheduled.new.floor in
    let settled = c.settled_ends.new.floor in
    let first = g.F.Floor.given told in
    let refused = c.in_ok-admitted.admitted.refused.items in
    let counts = c.in_ok-counts.counts in
    let finals = c.in_ok-ends.ends in
    let on = c.in_ok-counts.ensures.setting ∙ c.in_ok-open.ensures.setting ∙ ap (λ (x : List Subscriber). Some (setting x c.in_ok-admitted.admitted.book made_replicas)) c.table-table.ensures.value ∙ ap (λ (x : List (List Message)). Some (setting rows x made_replicas)) c.in_ok-admitted.ensures.book in
    let is_exact = c.in_ok-counts.ensures.exact ∙ c.in_ok-open.ensures.exact ∙ exact in
    let ends = (returns-clause-run g c).exact_ends exact in
    let text = c.in_ok-text.ensures
    ∙ ap (λ (x : List (List Message)). summary_line (summary_of x refused (Some counts) finals)) c.in_ok-admitted.ensures.book
    ∙ ap (λ (x : List RefusedLine). summary_line (summary_of (book_of (length rows) H) x (Some counts) finals)) c.in_ok-admitted.ensures.refused
    ∙ ap (λ (x : Scheduled). summary_line (summary_of (book_of (length rows) H) (refused_of H) (Some x) finals)) c.in_ok-counts.ensures.counts
    ∙ ap (λ (x : List DeviceEnd). summary_line (summary_of (book_of (length rows) H) (refused_of H) (Some (scheduled_of (map (λ turn. turn.1) first))) x)) c.in_ok-ends.ensures.ends in
    exactly_summed rows H c.args.case.now.schedule first (g.F.Floor.ends settled) c.in_ok-text.text
    (c.in_ok-counts.ensures.given ∙ c.schedule.ensures.value) (g.met.F.Floor.answered told (setting_of rows H made_replicas) is_exact on) ends text
