use Rattle.std.proofs.Common.{◌≡◌, ◌++◌, ◌+◌, [], suc, map, All, vec_capacity, length}
use Rattle.front_lock.specs.Front.{IsSeatOf, basis_of}
use Rattle.front_lock.specs.View.{dealer_view, dealt_views}
use Rattle.front_lock.proofs.front.Front.deal.Given as goal

abbrev pub invariant-loop-number : goal.invariant-loop-number
invariant-loop-number g l = record {
  table : l.seat.table_id ≡ l.self.table.shared.table_id;
  view : l.seat.me ≡ (dealer_view (basis_of g.T.Held.basis l.self) l.seats (suc l.number), []);
  views : map (λ s. s.seat.me.0) l.dealt.items ++ dealt_views (basis_of g.T.Held.basis l.self) l.seats (suc l.number) ≡ dealt_views (basis_of g.T.Held.basis l.self) l.seats l.seats;
  seats : All (λ s. IsSeatOf g.T.Held.basis l.self s) l.dealt.items;
  room : length l.dealt.items + suc l.number ≡ l.seats;
  capacity : vec_capacity l.dealt ≡ l.seats;
}

abbrev pub decreases-loop-number : goal.decreases-loop-number
decreases-loop-number g l = l.number
