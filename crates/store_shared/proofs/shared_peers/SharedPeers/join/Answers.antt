use Rattle.store_shared.proofs.shared_peers.SharedPeers.join.Goals as goal

pub returns-clause-seats : goal.returns-clause-seats
returns-clause-seats c = c.join.ensures.seats

pub returns-clause-number : goal.returns-clause-number
returns-clause-number c = c.join.ensures.number

pub returns-clause-joined : goal.returns-clause-joined
returns-clause-joined c = c.join.ensures.joined

pub returns-clause-keeps : goal.returns-clause-keeps
returns-clause-keeps c = c.join.ensures.keeps

pub returns-clause-gains : goal.returns-clause-gains
returns-clause-gains c = c.join.ensures.gains
