use Rattle.std.proofs.Common.{map}
use Rattle.front_lock.proofs.Columns.{fresh_seats}
use Rattle.front_lock.proofs.row.Fronts.new.Goals as goal

pub returns-clause-seats : goal.returns-clause-seats
returns-clause-seats g c = fresh_seats g.T.Held.basis (map g.T.Held.basis c.args.values.items) c.args.seats c.add_fronts.new.fronts.items c.add_fronts.new.made.items c.in_ok-add_fronts.ensures
