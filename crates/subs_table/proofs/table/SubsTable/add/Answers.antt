use Rattle.std.proofs.Common.{sym, ◌∙◌}
use Rattle.subs_table.proofs.IndexLaws.{when_ok, when_err, pushed, back_indexed, more_indexed}
use Rattle.subs_table.proofs.table.SubsTable.add.Goals as goal

pub invariant_of-self-then-is_err : goal.invariant_of-self-then-is_err
invariant_of-self-then-is_err c =
    let inside = c.self.inside in
    let unchanged = when_err c.insert-2.result c.is_err.ensures.value c.if-is_err.true c.insert-2.ensures.err in
    back_indexed inside.rows.items c.reserve.new.self.items c.args.row inside.imsis inside.tmsis c.insert.new.self c.remove.new.self c.insert-2.new.self c.self.invariant c.in_ok-reserve.ensures.items (rw c.self.view_is (sym c.refusal.ensures ∙ c.in_default.is)) c.in_ok-insert.ensures.updates c.remove.ensures.updates unchanged

pub invariant_of-self-2 : goal.invariant_of-self-2
invariant_of-self-2 c =
    let inside = c.self.inside in
    let all = pushed inside.rows.items c.reserve.new.self.items c.push.new.self.items c.args.row c.push.result c.unwrap.result c.unwrap.ensures c.in_ok-reserve.ensures.items c.push.ensures.items in
    let stored = when_ok c.insert-2.result c.is_err.ensures.value c.if-is_err.false c.insert-2.ensures.updates in
    more_indexed inside.rows.items c.push.new.self.items c.args.row inside.imsis inside.tmsis c.insert.new.self c.insert-2.new.self c.self.invariant all (rw c.self.view_is c.requires.number) c.requires.ranges (rw c.self.view_is (sym c.refusal.ensures ∙ c.in_default.is)) c.in_ok-insert.ensures.updates stored

pub returns-clause-table : goal.returns-clause-table
returns-clause-table c = (invariant_of-self-2 c).table
