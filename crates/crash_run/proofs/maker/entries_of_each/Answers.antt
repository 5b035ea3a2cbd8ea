use Rattle.std.proofs.Common.{◌≡◌, ◌<◌, List, [], ◌∷◌, ◌++◌, length, get_or, ap, subst, ◌∙◌, arith}
use Rattle.device_types.specs.declared.message.Message.{Message}
use Rattle.device_types.specs.declared.step.Entry.{Entry}
use Rattle.device_types.specs.Alone.{alone_of}
use Rattle.crash_run.proofs.Made.{one_more, all_held}
use Rattle.crash_run.proofs.maker.entries_of_each.Goals as goal

pub loop-index-preserved : goal.loop-index-preserved
loop-index-preserved c =
    let line = c.index-items-index.result in
    let within : c.loop-index.index < length c.args.book.now = omega (arith, c.loop-index-test.true, c.len-index-end.ensures.rows, c.requires.lines) in
    let got : line ≡ get_or c.args.book.now c.loop-index.index line = subst (λ (book : List (List Message)). line ≡ get_or book c.loop-index.index line) c.items.ensures.value c.index-items-index.is in
    let entries = c.in_ok-entries_of.ensures ∙ ap (alone_of c.row-row.result.now) c.items-in-loop-index.ensures in
    one_more c.args.table.now c.args.book.now c.loop-index.index c.row-row.result.now line c.loop-index.entries.items c.push.new.self.items c.row-row.ensures.row within got c.loop-index.invariant (c.in_ok-push.ensures.items ∙ ap (λ (e : List Entry). c.loop-index.entries.items ++ e ∷ []) entries)

pub returns : goal.returns
returns c = c.loop-index.invariant ∙ all_held c.args.table.now c.args.book.now c.loop-index.index c.requires.lines (omega (arith, c.len-index-end.ensures.rows))
