use Rattle.std.proofs.Common.{Some}
use Rattle.std.proofs.lemmas.List.Elements.{All-pop}
use Rattle.front_lock.specs.declared.row.FrontsSeat.{FrontsSeat}
use Rattle.front_lock.specs.FrontRow.{AreSeatsOf}
use Rattle.store_shared.specs.PeerBases.{peer_basis}
use Rattle.shared_cases.proofs.offer_turns.both.Goals as goal

pub returns-clause-second : goal.returns-clause-second
returns-clause-second c = (All-pop (λ (s : FrontsSeat _ _ _ _). AreSeatsOf peer_basis c.args.peers.now.fronts.fronts.items s.seats.items) c.args.seats.items c.pop.new.self.items (Some c.in-Some.second) c.in-Some.ensures.items c.requires).1

pub returns-clause-first : goal.returns-clause-first
returns-clause-first c =
    let others = (All-pop (λ (s : FrontsSeat _ _ _ _). AreSeatsOf peer_basis c.args.peers.now.fronts.fronts.items s.seats.items) c.args.seats.items c.pop.new.self.items (Some c.in-Some.second) c.in-Some.ensures.items c.requires).0 in
    (All-pop (λ (s : FrontsSeat _ _ _ _). AreSeatsOf peer_basis c.args.peers.now.fronts.fronts.items s.seats.items) c.pop.new.self.items c.pop-2.new.self.items (Some c.in-Some-pop.first) c.in-Some-pop.ensures.items others).1
