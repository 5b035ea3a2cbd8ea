use Rattle.std.proofs.Common.{Some}
use Rattle.std.proofs.lemmas.List.Elements.{All-pop}
use Rattle.front_lock.specs.declared.seat.FrontSeat.{FrontSeat}
use Rattle.front_lock.specs.Front.{IsSeatOf}
use Rattle.shared_cases.proofs.Seats.{two_kept}
use Rattle.shared_cases.proofs.front_turns.seats_after.Goals as goal

pub tell_turns-requires-clause-second : goal.tell_turns-requires-clause-second
tell_turns-requires-clause-second g c = (All-pop (λ (s : FrontSeat _ _ _ _). IsSeatOf (λ t. t.most) c.args.front.now s) c.args.seats.items c.pop.new.self.items (Some c.in_ok-second.second) c.in_ok-second.ensures.items c.requires.seats).1

pub tell_turns-requires-clause-first : goal.tell_turns-requires-clause-first
tell_turns-requires-clause-first g c =
    let others = (All-pop (λ (s : FrontSeat _ _ _ _). IsSeatOf (λ t. t.most) c.args.front.now s) c.args.seats.items c.pop.new.self.items (Some c.in_ok-second.second) c.in_ok-second.ensures.items c.requires.seats).0 in
    (All-pop (λ (s : FrontSeat _ _ _ _). IsSeatOf (λ t. t.most) c.args.front.now s) c.pop.new.self.items c.pop-2.new.self.items (Some c.in_ok-first.first) c.in_ok-first.ensures.items others).1

pub returns : goal.returns
returns g c =
    two_kept (λ (s : FrontSeat _ _ _ _). IsSeatOf (λ t. t.most) c.args.front.now s) (λ left. left.items) c.from_array.result c.ok.result c.tell_turns.new.first c.tell_turns.new.second
    c.ok.ensures.value c.from_array.ensures.items c.tell_turns.ensures.first c.tell_turns.ensures.second
