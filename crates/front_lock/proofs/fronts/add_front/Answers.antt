use Rattle.front_lock.proofs.Columns.{column_count, column_numbers, front_more}
use Rattle.front_lock.proofs.Items.{if_ok}
use Rattle.front_lock.proofs.fronts.add_front.Goals as goal

pub deal_out-requires-clause-count : goal.deal_out-requires-clause-count
deal_out-requires-clause-count g c = column_count c.args.made.now.items c.in_ok-front.column.items (g.T.Held.basis c.args.value) c.args.seats c.requires.count c.in_ok-front.ensures.views

pub deal_out-requires-clause-numbers : goal.deal_out-requires-clause-numbers
deal_out-requires-clause-numbers g c = column_numbers g.T.Held.basis c.args.seats c.args.fronts.now.items c.args.made.now.items c.in_ok-front.column.items (g.T.Held.basis c.args.value) c.requires.count c.requires.seated c.in_ok-front.ensures.views

pub returns : goal.returns
returns g c =
    let f = c.in_ok-front.ensures in
    if_ok _ _ c.deal_out.result
    (λ a dealt. front_more g.T.Held.basis (g.T.Held.basis c.args.value) c.args.seats c.args.fronts.now.items c.reserve.new.self.items c.push_reserved.new.self.items c.in_ok-front.front c.args.made.now.items c.deal_out.new.made.items c.in_ok-front.column.items c.push_reserved.ensures.items c.reserve.ensures.items f.basis f.count c.requires.count c.requires.seated f.views f.seats dealt)
    c.deal_out.ensures
