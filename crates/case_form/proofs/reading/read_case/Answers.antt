use Rattle.std.proofs.Common.{◌∙◌}
use Rattle.std.proofs.lemmas.Result.{err_from_is_err_and}
use Rattle.case_form.specs.State.{seen_of}
use Rattle.case_form.proofs.CaseLaws.{read_to_start, read_to_more, refused_by, numbered_by, counted_by}
use Rattle.case_form.proofs.reading.read_case.Goals as goal

pub loop-line-init : goal.loop-line-init
loop-line-init c = read_to_start c.args.bytes.now c.into_iter-line-iterator.result (seen_of c.begin-reading.result) (c.into_iter-line-iterator.ensures.into_iter_gives ∙ c.lines-line-items.ensures.value) c.begin-reading.ensures

pub loop-line-preserved : goal.loop-line-preserved
loop-line-preserved c = read_to_more c.args.bytes.now c.in-Some.line.now c.loop-line.line-iterator c.next.new.self (seen_of c.loop-line.reading) (seen_of c.take_next.new.reading) c.loop-line.invariant c.in-Some.ensures.steps c.in_ok-take_next.ensures.0 c.in_ok-take_next.ensures.1

pub returns-in_err-take_next-clause-first_bad : goal.returns-in_err-take_next-clause-first_bad
returns-in_err-take_next-clause-first_bad c =
    let p = err_from_is_err_and c.from_residual.result c.from_residual.ensures.1 in
    rw (p.1, p.2) (refused_by c.args.bytes.now c.in-Some.line.now c.loop-line.line-iterator c.next.new.self (seen_of c.loop-line.reading) c.in_err-take_next.field-0.0 _ c.loop-line.invariant c.in-Some.ensures.steps c.in_err-take_next.ensures)

pub returns-in_err-take_next-clause-numbers : goal.returns-in_err-take_next-clause-numbers
returns-in_err-take_next-clause-numbers c =
    let p = err_from_is_err_and c.from_residual.result c.from_residual.ensures.1 in
    rw (p.1, p.2) (numbered_by c.in-Some.line.now (seen_of c.loop-line.reading) c.in_err-take_next.field-0.0 _ c.in_err-take_next.ensures)

pub returns-in_err-take_next-clause-memory : goal.returns-in_err-take_next-clause-memory
returns-in_err-take_next-clause-memory c =
    let p = err_from_is_err_and c.from_residual.result c.from_residual.ensures.1 in
    rw (p.1, p.2) (counted_by c.args.bytes.now c.in-Some.line.now c.loop-line.line-iterator c.next.new.self (seen_of c.loop-line.reading) c.in_err-take_next.field-0.0 _ c.loop-line.invariant c.in-Some.ensures.steps c.in_err-take_next.ensures)
