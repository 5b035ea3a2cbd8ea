use Rattle.link_schedule.proofs.Whole.{whole_by_ends}
use Rattle.link_schedule.proofs.own_floor.OwnFloor.recall.Goals as goal

pub returns-clause-whole : goal.returns-clause-whole
returns-clause-whole c = rw c.in-Some.is (whole_by_ends c.in-Some.world c.recall.ensures)
