use Rattle.store_shared.proofs.shared_store.SharedStore.join.Goals as goal

pub returns-clause-seats : goal.returns-clause-seats
returns-clause-seats g c = c.join.ensures.seats

pub returns-clause-number : goal.returns-clause-number
returns-clause-number g c = c.join.ensures.number

pub returns-clause-joined : goal.returns-clause-joined
returns-clause-joined g c = c.join.ensures.joined

pub returns-clause-keeps : goal.returns-clause-keeps
returns-clause-keeps g c = c.join.ensures.keeps

pub returns-clause-gains : goal.returns-clause-gains
returns-clause-gains g c = c.join.ensures.gains
