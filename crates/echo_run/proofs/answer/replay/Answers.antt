use Rattle.std.proofs.Common.{Bool, List, Some, ◌++◌, length, map, sym, ap, subst, ◌∙◌}
use Rattle.std.specs.Prelude.{All}
use Rattle.device_types.specs.Event.{IsInForm}
use Rattle.device_types.specs.declared.message.Message.{Message}
use Rattle.device_types.specs.declared.subscriber.Subscriber.{Subscriber}
use Rattle.entry_edge.specs.Trace.{history, refused_of}
use Rattle.link_schedule.specs.Floor.{AreEndsOn}
use Rattle.schedule_laws.specs.Promise.{setting}
use Rattle.report_text.specs.Final.{final_text}
use Rattle.echo_run.specs.Replay.{setting_of, lines_from}
use Rattle.echo_run.proofs.Floors.{is_run, exactly_told}
use Rattle.echo_run.proofs.Schedule.{case_events}
use Rattle.echo_run.proofs.answer.replay.Goals as goal

pub transcript-requires : goal.transcript-requires
transcript-requires g c =
    let rows = c.args.case.table in
    let same = c.deref.ensures.value ∙ c.into_parts-table.ensures.schedule in
    let events = subst (All (IsInForm (length rows))) (sym same) c.into_parts-table.ensures.limits.events in
    record {
      fresh = c.in_ok-open.ensures.given;
      events = case_events (g.F.Floor.setting c.open.new.self) rows c.in_ok-book.field-0.book c.args.replicas c.deref.result.now (c.in_ok-open.ensures.setting ∙ ap (λ (x : List Subscriber). Some (setting x c.in_ok-book.field-0.book c.args.replicas)) c.into_parts-table.ensures.table) events;
    }

pub returns-clause-run : goal.returns-clause-run
returns-clause-run g c =
    let rows = c.args.case.table in
    let H = history rows c.args.case.trace in
    let book = c.in_ok-book.field-0.book in
    let first = g.F.Floor.given c.transcript.new.floor in
    let settled = c.settled_ends.new.floor in
    let on = c.in_ok-finals.ensures.setting ∙ c.in_ok-text.ensures.setting ∙ c.in_ok-open.ensures.setting ∙ ap (λ (x : List Subscriber). Some (setting x c.in_ok-book.field-0.book c.args.replicas)) c.into_parts-table.ensures.table in
    let exact = c.in_ok-finals.ensures.exact ∙ c.in_ok-text.ensures.exact ∙ c.in_ok-open.ensures.exact in
    let ends = subst (λ (x : Bool). AreEndsOn (g.F.Floor.setting settled) x (g.F.Floor.ends settled)) exact c.in_ok-finals.ensures.settled in
    is_run rows H c.args.case.schedule c.args.replicas book (g.F.Floor.exact c.args.floor.now) (g.F.Floor.setting settled) first (g.F.Floor.given settled) (g.F.Floor.ends settled)
    c.in_ok-book.ensures.book on (c.in_ok-text.ensures.given ∙ c.deref.ensures.value ∙ c.into_parts-table.ensures.schedule) c.in_ok-finals.ensures.given ends

pub returns-clause-definition : goal.returns-clause-definition
returns-clause-definition g c = λ exact.
    let rows = c.args.case.table in
    let H = history rows c.args.case.trace in
    let book = c.in_ok-book.field-0.book in
    let told = c.transcript.new.floor in
    let settled = c.settled_ends.new.floor in
    let first = g.F.Floor.given told in
    let on = c.in_ok-text.ensures.setting ∙ c.in_ok-open.ensures.setting ∙ ap (λ (x : List Subscriber). Some (setting x c.in_ok-book.field-0.book c.args.replicas)) c.into_parts-table.ensures.table ∙ ap (λ (x : List (List Message)). Some (setting rows x c.args.replicas)) c.in_ok-book.ensures.book in
    let is_exact = c.in_ok-text.ensures.exact ∙ c.in_ok-open.ensures.exact ∙ exact in
    let ends = (returns-clause-run g c).exact_ends exact in
    let last = ap (λ (x : List Subscriber). final_text x c.deref-2.result.now c.in_ok-finals.finals) c.into_parts-table.ensures.table
    ∙ ap (λ refused. final_text rows refused c.in_ok-finals.finals) (c.deref-2.ensures.value ∙ c.in_ok-book.ensures.refused)
    ∙ ap (final_text rows (refused_of H)) c.in_ok-finals.ensures.ends in
    let text = c.from.ensures ∙ ap (λ octets. octets.items) c.into_bytes.ensures.value ∙ c.in_ok-put_final_text.ensures
    ∙ ap (λ lines. lines ++ final_text c.into_parts-table.result.0 c.deref-2.result.now c.in_ok-finals.finals) c.in_ok-text.ensures.text
    ∙ ap (λ ends. lines_from 1 (map (λ turn. turn.1) first) ++ ends) last in
    exactly_told rows H c.args.case.schedule c.args.replicas first (g.F.Floor.ends settled) c.from.result
    (c.in_ok-text.ensures.given ∙ c.deref.ensures.value ∙ c.into_parts-table.ensures.schedule) (g.met.F.Floor.answered told (setting_of rows H c.args.replicas) is_exact on) ends text
