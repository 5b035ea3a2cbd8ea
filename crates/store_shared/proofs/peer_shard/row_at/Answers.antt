use Rattle.std.proofs.Common.{◌≡◌, ◌≤◌, ◌<◌, ◌-◌, length, Some, subst, arith}
use Rattle.std.specs.Prelude.{slice_get}
use Rattle.session_store.specs.Charter.{CharterState}
use Rattle.subs_table.proofs.DeviceLaws.{number_here}
use Rattle.store_shared.proofs.Offers.{got}
use Rattle.store_shared.proofs.peer_shard.row_at.Goals as goal

pub returns-clause-number : goal.returns-clause-number
returns-clause-number c =
    let rows = c.charter.result.now.rows in
    let most : c.args.d.0 ≤ length rows = rw c.charter.ensures c.requires.1 in
    number_here rows c.args.d.0 c.index-rows-d.result c.rows.ensures.charter.table.numbers c.requires.0 most (rw c.rows.ensures.rows at c.index-rows-d.is)

pub returns-clause-row : goal.returns-clause-row
returns-clause-row c =
    let rows = c.charter.result.now.rows in
    let most : c.args.d.0 ≤ length rows = rw c.charter.ensures c.requires.1 in
    let least = c.requires.0 in
    let within : c.args.d.0 - 1 < length rows = omega arith in
    subst (λ (ch : CharterState). slice_get ch.rows (c.args.d.0 - 1) ≡ Some c.index-rows-d.result) c.charter.ensures
    (got rows (c.args.d.0 - 1) c.index-rows-d.result within (rw c.rows.ensures.rows at c.index-rows-d.is))
