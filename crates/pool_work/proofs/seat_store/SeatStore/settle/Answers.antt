use Rattle.pool_work.proofs.Seen.{kept_by}
use Rattle.pool_work.proofs.seat_store.SeatStore.settle.Goals as goal

pub returns : goal.returns
returns g c = record { store = kept_by g.T.SharedRows.speaks g.T.SharedRows.known c.self.inside.rows.now c.self.inside.seat c.settle.new.seat c.self.inside.reads _ c.args.self.now c.self.view_is c.settle.ensures.seat }
