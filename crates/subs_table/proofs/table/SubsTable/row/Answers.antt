use Rattle.subs_table.proofs.DeviceLaws.{number_here}
use Rattle.subs_table.proofs.table.SubsTable.row.Goals as goal

pub returns-clause-number : goal.returns-clause-number
returns-clause-number c = number_here c.self.inside.rows.items c.args.d.0 c.index-2.result.now c.self.invariant.table.numbers c.requires.least (rw c.self.view_is c.requires.most) (rw (← c.index.ensures) c.index-2.ensures)
