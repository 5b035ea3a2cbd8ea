use Rattle.std.proofs.Common.{sym, ◌∙◌}
use Rattle.serde_json.specs.View.{view}
use Rattle.subs_table.proofs.ObjectLaws.{line_not_read, no_object_read}
use Rattle.subs_table.proofs.row.read_object.Goals as goal

pub returns-in-Err : goal.returns-in-Err
returns-in-Err c =
    (line_not_read c.args.line.now (c.in-Err.ensures.err (λ memory. let told = c.is_memory.ensures.1 memory in let not = c.if-is_memory.false in cc)), c.refused-bad_json.ensures)

pub returns-then-not-is_object : goal.returns-then-not-is_object
returns-then-not-is_object c =
    (no_object_read c.args.line.now (view c.in-Ok.value) c.in-Ok.ensures.ok.0 c.in-Ok.ensures.ok.1 (sym c.is_object.ensures ∙ c.if-not-is_object.true), c.refused-bad_json.ensures)
