use Rattle.std.proofs.Common.{sym}
use Rattle.gtp2_wire.proofs.WrittenLaws.{create_length}
use Rattle.gtp2_wire.proofs.writing.body_length.Goals as goal

pub returns-in-Create-clause-count : goal.returns-in-Create-clause-count
returns-in-Create-clause-count c =
    let create = c.in-Create in
    rw (c.name_length.ensures, create.is) (sym (create_length create.imsi create.ebi create.ul create.dl create.addr create.control create.apn))
