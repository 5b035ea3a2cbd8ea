use Rattle.std.proofs.Common.{inl, inr, rules}
use Rattle.gtp2_wire.proofs.tables.read_elements.Goals as goal

pub returns-in-Create : goal.returns-in-Create
returns-in-Create c = rw c.in-Create.is (search rules)

pub returns-in-Created : goal.returns-in-Created
returns-in-Created c = rw c.in-Created.is (search rules)

pub returns-in-Modify : goal.returns-in-Modify
returns-in-Modify c = rw c.in-Modify.is (search rules)

pub returns-in-Modified : goal.returns-in-Modified
returns-in-Modified c = rw c.in-Modified.is (search rules)

pub returns-in-Delete : goal.returns-in-Delete
returns-in-Delete c = rw c.in-Delete.is (search rules)

pub returns-in-Deleted : goal.returns-in-Deleted
returns-in-Deleted c = elim c.in-Deleted.is [ inl e ↦ rw e (search rules) | inr e ↦ rw e (search rules) ]

pub returns-in-Release : goal.returns-in-Release
returns-in-Release c = rw c.in-Release.is (search rules)
