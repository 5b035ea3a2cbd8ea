use Rattle.std.proofs.Common.{◌≤◌, List, length, ap, ◌∙◌, arith}
use Rattle.std.proofs.lemmas.List.Elements.{All-weaker}
use Rattle.device_types.specs.declared.message.Message.{Message}
use Rattle.device_types.specs.declared.subscriber.Subscriber.{Subscriber}
use Rattle.case_form.specs.declared.case.TraceLine.{TraceLine}
use Rattle.entry_edge.specs.Trace.{history, book_of, refused_of}
use Rattle.link_schedule.specs.World.{IsShort}
use Rattle.top_calls.proofs.admission.admitted.Goals as goal

pub returns : goal.returns
returns c =
    let table = c.table.result.now in
    let trace = c.args.case.now.trace in
    let rows = c.table.ensures.value in
    let lent = c.trace.ensures.value in
    let given = c.in_ok-admitted.ensures in
    record {
      table = c.table.ensures.rows;
      book = given.book ∙ ap (λ (x : List TraceLine). book_of (length table) (history table x)) lent ∙ ap (λ (x : List Subscriber). book_of (length x) (history x trace)) rows;
      refused = given.refused ∙ ap (λ (x : List TraceLine). refused_of (history table x)) lent ∙ ap (λ (x : List Subscriber). refused_of (history x trace)) rows;
      lines = given.lines;
      each = given.rows ∙ ap length rows;
      short = All-weaker (λ (ms : List Message). length ms ≤ length c.trace.result.now) IsShort (λ ms few. omega (arith, few, ap length lent, c.trace.ensures.most)) c.in_ok-admitted.admitted.book given.few;
    }
