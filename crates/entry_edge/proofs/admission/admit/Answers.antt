use Rattle.std.proofs.Common.{length, ◌≡◌, ◌≤◌, ◌∙◌, ap}
use Rattle.std.proofs.lemmas.List.Elements.{All-same}
use Rattle.device_types.specs.Line.{IsLine}
use Rattle.entry_edge.specs.Trace.{history, book_of}
use Rattle.entry_edge.proofs.SeenLaws.{book_at_end}
use Rattle.entry_edge.proofs.Counting.{few_in_book, length_book}
use Rattle.entry_edge.proofs.RangeLaws.{book_right}
use Rattle.entry_edge.proofs.admission.admit.Goals as goal

pub bound_up-requires : goal.bound_up-requires
bound_up-requires c =
    let rows = c.args.table.now in
    let book : c.loop-line.state.lines.items ≡ book_of (length rows) (history rows c.args.trace.now) = book_at_end rows c.args.trace.now c.loop-line.line-index c.loop-line.state.lines.items c.loop-line-test.false c.loop-line.invariant.lines in
    All-same IsLine _ _ book (book_right (length rows) rows c.args.trace.now c.requires)

pub returns-clause-book : goal.returns-clause-book
returns-clause-book c = c.in_ok-bound_up.ensures ∙ book_at_end c.args.table.now c.args.trace.now c.loop-line.line-index c.loop-line.state.lines.items c.loop-line-test.false c.loop-line.invariant.lines

pub returns-clause-lines : goal.returns-clause-lines
returns-clause-lines c = All-same IsLine _ _ (returns-clause-book c) (book_right (length c.args.table.now) c.args.table.now c.args.trace.now c.requires)

pub returns-clause-rows : goal.returns-clause-rows
returns-clause-rows c = ap length (returns-clause-book c) ∙ length_book (length c.args.table.now) (history c.args.table.now c.args.trace.now)

pub returns-clause-few : goal.returns-clause-few
returns-clause-few c = All-same (λ messages. length messages ≤ length c.args.trace.now) _ _ (returns-clause-book c) (few_in_book (length c.args.table.now) c.args.table.now c.args.trace.now)
