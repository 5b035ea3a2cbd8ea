use Rattle.front_lock.proofs.Columns.{speaks_own}
use Rattle.front_lock.proofs.row.FrontsSeat.number.Goals as goal

pub returns-clause-speaks : goal.returns-clause-speaks
returns-clause-speaks g c = speaks_own g.T.Held.by c.args.self.now.seats.items c.args.self.now.number (λ s. s.knows) c.args.self.now.numbered
