use Rattle.std.proofs.Common.{◌∙◌}
use Rattle.replica_worker.proofs.May.{may_still}
use Rattle.rows_cases.proofs.replica_worker_calls.raced.Goals as goal

-- what the first replica has read may be written still, since the second read and wrote in between
pub write-requires-2-clause-may : goal.write-requires-2-clause-may
write-requires-2-clause-may g c =
    let first = c.read.new.store in
    let second = c.read-2.new.store in
    let third = c.write.new.store in
    let charter = g.S.RowStore.charter first in
    let devices = g.S.RowStore.devices first in
    let hand = c.read.new.replica.hand in
    let read = may_still charter devices (g.S.RowStore.known first) (g.S.RowStore.known second) hand c.read-2.ensures.extends c.in_ok-read.ensures.may in
    let written = may_still charter devices (g.S.RowStore.known second) (g.S.RowStore.known third) hand c.write.ensures.extends read in
    rw (c.write.ensures.charter ∙ c.read-2.ensures.charter) (rw (c.write.ensures.devices ∙ c.read-2.ensures.devices) written)
