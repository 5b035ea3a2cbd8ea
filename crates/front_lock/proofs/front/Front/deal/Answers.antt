use Rattle.std.proofs.Common.{◌≡◌, ◌-◌, suc, [], arith, sym, ◌∙◌, ap}
use Rattle.front_lock.specs.Front.{IsSeatOf, basis_of}
use Rattle.front_lock.specs.View.{dealer_view, fresh_view}
use Rattle.front_lock.specs.Steps.{dealer_left, number_dealt}
use Rattle.front_lock.specs.declared.seat.FrontSeat.{FrontSeat}
use Rattle.front_lock.proofs.Seats.{splits, deals_on, all_more, longer_by}
use Rattle.front_lock.proofs.front.Front.deal.Goals as goal

pub split_seat-other-requires : goal.split_seat-other-requires
split_seat-other-requires g c =
    let sized = c.args.self.now.sized in
    let i = c.loop-number.invariant in
    (i.table, omega (arith, sized.0), splits _ _ _ _ _ _ _ _ _ (sym c.requires.count) c.loop-number-test.true i.view)

pub loop-number-preserved : goal.loop-number-preserved
loop-number-preserved g c =
    let i = c.loop-number.invariant in
    let s = c.split_seat-other.ensures in
    let b = basis_of g.T.Held.basis c.args.self.now in
    let down : suc (c.loop-number.number - 1) ≡ c.loop-number.number = let t = c.loop-number-test.true in omega arith in
    let right = s.4 ∙ ap (λ m. (number_dealt m.0, [])) i.view in
    let is : c.new.result.seat.me.0 ≡ fresh_view b c.args.seats c.loop-number.number = ap (λ t. t.me.0) c.new.ensures ∙ ap (λ m. m.0) right in
    record {
      table = s.0 ∙ i.table;
      view = s.2 ∙ (ap (λ m. (dealer_left m.0, m.1)) i.view ∙ ap (λ n. (dealer_view b c.args.seats n, [])) (sym down));
      views = deals_on (λ (t : FrontSeat g.row.T.Denot g.row.T-Turn.Denot g.row.T-Basis.Denot g.T.Held). t.seat.me.0) _ _ _ _ _ _ _ _ down c.push_reserved.ensures.items is i.views;
      seats = all_more (λ (t : FrontSeat g.row.T.Denot g.row.T-Turn.Denot g.row.T-Basis.Denot g.T.Held). IsSeatOf g.T.Held.basis c.args.self.now t) _ _ _ c.push_reserved.ensures.items i.seats (ap (λ t. t.table_id) c.new.ensures ∙ (s.3 ∙ i.table), ap (λ v. v.basis) is);
      room = longer_by _ _ _ _ _ _ c.push_reserved.ensures.items down i.room;
      capacity = c.push_reserved.ensures.capacity ∙ i.capacity;
    }

pub returns-clause-seats : goal.returns-clause-seats
returns-clause-seats g c =
    let i = c.loop-number.invariant in
    all_more (λ (t : FrontSeat g.row.T.Denot g.row.T-Turn.Denot g.row.T-Basis.Denot g.T.Held). IsSeatOf g.T.Held.basis c.args.self.now t) _ _ _ c.push_reserved-2.ensures.items i.seats (ap (λ t. t.table_id) c.new-2.ensures ∙ i.table, ap (λ t. t.me.0.basis) c.new-2.ensures ∙ ap (λ m. m.0.basis) i.view)
