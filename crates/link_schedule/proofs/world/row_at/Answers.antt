use Rattle.std.proofs.Common.{◌≤◌, length}
use Rattle.subs_table.proofs.DeviceLaws.{number_here}
use Rattle.link_schedule.proofs.world.row_at.Goals as goal

pub returns-clause-number : goal.returns-clause-number
returns-clause-number c =
    let rows = c.charter.result.now.rows in
    let most : c.args.d.0 ≤ length rows = rw c.charter.ensures c.requires.1 in
    number_here rows c.args.d.0 c.index-rows-index.result c.rows.ensures.charter.table.numbers c.requires.0 most (rw (← c.index.ensures) (rw c.rows.ensures.rows at c.index-rows-index.is))
