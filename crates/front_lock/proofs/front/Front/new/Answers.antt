use Rattle.std.proofs.Common.{map, reverse, All, sym, ◌∙◌, ap, subst}
use Rattle.std.specs.List.{range_with_len}
use Rattle.front_lock.specs.declared.seat.FrontSeat.{FrontSeat}
use Rattle.front_lock.specs.Front.{IsSeatOf}
use Rattle.front_lock.specs.View.{fresh_view}
use Rattle.front_lock.proofs.Seats.{all_reverse, map_reverse, reverse-dealt_views}
use Rattle.front_lock.proofs.front.Front.new.Goals as goal

pub returns-clause-views : goal.returns-clause-views
returns-clause-views g c =
    let f = λ (t : FrontSeat g.row.T.Denot g.row.T-Turn.Denot g.row.T-Basis.Denot g.T.Held). t.seat.me.0 in
    let dealt = c.deal-dealt.result.items in
    ap (map f) c.reverse.ensures.items ∙ (map_reverse f dealt ∙ (ap reverse c.deal-dealt.ensures.views ∙ (reverse-dealt_views _ c.args.seats c.args.seats ∙ ap (λ b. map (fresh_view b c.args.seats) (range_with_len 0 c.args.seats)) c.in_ok-front.ensures.front.0)))

pub returns-clause-seats : goal.returns-clause-seats
returns-clause-seats g c =
    let P = λ (t : FrontSeat g.row.T.Denot g.row.T-Turn.Denot g.row.T-Basis.Denot g.T.Held). IsSeatOf g.T.Held.basis c.in_ok-front.front t in
    let dealt = c.deal-dealt.result.items in
    subst (All P) (sym c.reverse.ensures.items) (all_reverse P dealt c.deal-dealt.ensures.seats)
