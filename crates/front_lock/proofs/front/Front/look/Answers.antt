use Rattle.std.proofs.Common.{arith}
use Rattle.front_lock.proofs.Steps.{looks}
use Rattle.front_lock.proofs.front.Front.look.Goals as goal

pub load-serving-requires : goal.load-serving-requires
load-serving-requires g c =
    let sized = c.args.self.now.sized in
    (c.requires.table, omega (arith, sized.0), looks _ _ _ _ _ _ _ _ _ c.requires.waits.0)
