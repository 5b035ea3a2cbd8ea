use Rattle.subs_table.proofs.IndexLaws.{nothing_indexed}
use Rattle.subs_table.proofs.table.SubsTable.new.Goals as goal

pub invariant_of-result : goal.invariant_of-result
invariant_of-result c = nothing_indexed c.new.result.items c.new-2.result c.new-3.result c.new.ensures.items c.new-2.ensures.empty c.new-3.ensures.empty
