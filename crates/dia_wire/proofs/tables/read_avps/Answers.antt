use Rattle.std.proofs.Common.{rules, inl, inr}
use Rattle.dia_wire.proofs.tables.read_avps.Goals as goal

pub returns-in-AskVectors : goal.returns-in-AskVectors
returns-in-AskVectors c = elim c.in-AskVectors.is [ inl e ↦ rw e (search rules) | inr e ↦ rw e (search rules) ]

pub returns-in-AskPurge : goal.returns-in-AskPurge
returns-in-AskPurge c = rw c.in-AskPurge.is (search rules)

pub returns-in-Vectors : goal.returns-in-Vectors
returns-in-Vectors c = rw c.in-Vectors.is (search rules)

pub returns-in-Located : goal.returns-in-Located
returns-in-Located c = rw c.in-Located.is (search rules)

pub returns-in-Purged : goal.returns-in-Purged
returns-in-Purged c = elim c.in-Purged.is [ inl e ↦ rw e (search rules) | inr x ↦ rw x.1 (search rules) ]
