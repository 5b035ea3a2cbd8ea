use Rattle.std.proofs.Common.{[], ◌∷◌, sym, subst, List}
use Rattle.atomic_table.specs.Table.{opening}
use Rattle.front_lock.specs.View.{dealer_view}
use Rattle.front_lock.specs.Rule.{Keeps}
use Rattle.front_lock.proofs.Seats.{opens}
use Rattle.front_lock.proofs.front.Front.with_one_seat.Goals as goal

pub new-requires : goal.new-requires
new-requires g c =
    let h = opens g.T.Held.turns g.T.Held.basis g.T.Held.by c.args.seats c.args.value c.requires.empty c.requires.seats in
    let items = c.in_ok-slots.ensures in
    subst (λ (p : g.row.T.Denot × List g.row.T.Denot). Keeps g.T.Held.turns g.T.Held.basis g.T.Held.by (g.T.Held.basis p.0) c.args.seats (opening (0 ∷ 0 ∷ 0 ∷ []) p.1 (dealer_view (g.T.Held.basis p.0) c.args.seats c.args.seats)))
    (λ i. (sym c.of.ensures i, sym items i)) h
