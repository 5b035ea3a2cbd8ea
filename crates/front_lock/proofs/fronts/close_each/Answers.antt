use Rattle.std.proofs.Common.{◌<◌, ℕ, List, length, arith, sym, subst}
use Rattle.front_lock.specs.Turns.{IsClosed}
use Rattle.front_lock.specs.Front.{view, basis_of, seats_of}
use Rattle.front_lock.specs.declared.front.Front.{Front}
use Rattle.front_lock.specs.FrontRow.{SpeaksOnAll}
use Rattle.front_lock.proofs.Columns.{Closing, closes_on, opens, closing_pair, holds_of}
use Rattle.front_lock.proofs.fronts.close_each.Goals as goal

pub loop-front-init : goal.loop-front-init
loop-front-init g c = record {
  closing = opens (λ f s y. IsClosed g.T.Held.turns g.T.Held.basis g.T.Held.by (basis_of g.T.Held.basis f) (seats_of f) (view s) y) c.args.fronts.items c.args.seats.items c.args.values.items c.requires.seats.0 c.requires.none;
  room = c.requires.room;
}

pub close-requires-clause-seat : goal.close-requires-clause-seat
close-requires-clause-seat g c =
    let p = closing_pair (λ f s y. IsClosed g.T.Held.turns g.T.Held.basis g.T.Held.by (basis_of g.T.Held.basis f) (seats_of f) (view s) y) c.args.fronts.items c.args.seats.items c.loop-front.fronts.items c.pop.new.self.items c.loop-front.seats.items c.pop-in-Some.new.self.items c.loop-front.values.items c.in-Some.front c.in-Some-pop.seat c.loop-front.invariant.closing c.in-Some.ensures.items c.in-Some-pop.ensures.items in
    c.requires.seats.1 (length c.pop.new.self.items) c.in-Some.front c.in-Some-pop.seat p.0 p.1

pub close-requires-clause-all : goal.close-requires-clause-all
close-requires-clause-all g c =
    let p = closing_pair (λ f s y. IsClosed g.T.Held.turns g.T.Held.basis g.T.Held.by (basis_of g.T.Held.basis f) (seats_of f) (view s) y) c.args.fronts.items c.args.seats.items c.loop-front.fronts.items c.pop.new.self.items c.loop-front.seats.items c.pop-in-Some.new.self.items c.loop-front.values.items c.in-Some.front c.in-Some-pop.seat c.loop-front.invariant.closing c.in-Some.ensures.items c.in-Some-pop.ensures.items in
    λ n lt. holds_of (λ (f : Front g.row.T.Denot g.row.T-Turn.Denot g.row.T-Basis.Denot). (k : ℕ) → k < seats_of f → SpeaksOnAll k c.args.seats.items) c.args.fronts.items (length c.pop.new.self.items) c.in-Some.front c.requires.all p.0 n lt (length c.pop.new.self.items) c.in-Some-pop.seat p.1

pub loop-front-preserved : goal.loop-front-preserved
loop-front-preserved g c = record {
  closing = subst (λ (l : List g.row.T.Denot). Closing (λ f s y. IsClosed g.T.Held.turns g.T.Held.basis g.T.Held.by (basis_of g.T.Held.basis f) (seats_of f) (view s) y) c.args.fronts.items c.args.seats.items c.pop.new.self.items c.pop-in-Some.new.self.items l) (sym c.push_reserved.ensures.items)
      (closes_on (λ f s y. IsClosed g.T.Held.turns g.T.Held.basis g.T.Held.by (basis_of g.T.Held.basis f) (seats_of f) (view s) y) c.args.fronts.items c.args.seats.items c.loop-front.fronts.items c.pop.new.self.items c.loop-front.seats.items c.pop-in-Some.new.self.items c.loop-front.values.items c.in-Some.front c.in-Some-pop.seat c.close.result c.loop-front.invariant.closing c.in-Some.ensures.items c.in-Some-pop.ensures.items c.close.ensures);
  room = let a = c.push_reserved.ensures.capacity in let b = c.loop-front.invariant.room in omega arith;
}
