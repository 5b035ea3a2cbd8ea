use Rattle.std.proofs.Common.{ap, ◌+◌}
use Rattle.std.proofs.lemmas.Result.{err_from_is_err_and}
use Rattle.case_form.proofs.RowLaws.{row_taken, row_refused}
use Rattle.case_form.proofs.reading.take_row.Goals as goal

pub returns-in_err-add : goal.returns-in_err-add
returns-in_err-add c =
    let p = err_from_is_err_and c.from_residual-in_err-add.result c.from_residual-in_err-add.ensures.1 in
    rw (p.1, p.2) (row_refused c.args.table.now c.args.line.now _ c.in_ok-row.row _ _ (ap (λ n. n + 1) c.len.ensures.rows) c.in_ok-row.ensures.row c.in_err-add.ensures.answer)

pub returns : goal.returns
returns c = row_taken c.args.table.now c.add.new.self c.args.line.now _ c.in_ok-row.row _ (ap (λ n. n + 1) c.len.ensures.rows) c.in_ok-row.ensures.row c.in_ok-add.ensures.answer c.in_ok-add.ensures.added
