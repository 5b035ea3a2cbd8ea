use Rattle.std.proofs.Common.{arith}
use Rattle.link_schedule.proofs.Goes.{settled_to}
use Rattle.link_schedule.proofs.world.World.clear.Goals as goal

pub returns-clause-clear : goal.returns-clause-clear
returns-clause-clear c = settled_to c.args.self.now c.settle.new.self c.args.d c.args.lane c.accepted-k.result _ c.settle.ensures c.recall.ensures c.accepted-k.ensures (omega arith)
