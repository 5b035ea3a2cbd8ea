use Rattle.std.proofs.Common.{arith}
use Rattle.front_lock.proofs.Steps.{draws}
use Rattle.front_lock.proofs.front.Front.try_draw.Goals as goal

pub compare_exchange-found-requires : goal.compare_exchange-found-requires
compare_exchange-found-requires g c =
    let sized = c.args.self.now.sized in
    (c.requires.table, omega (arith, sized.0), draws _ _ _ _ _ _ _ _ _ _ c.requires.idle c.if-ticket-lt-LAST.true)
