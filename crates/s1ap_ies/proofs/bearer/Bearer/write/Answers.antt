-- The fields of a bearer are written as its parts are.
use Rattle.s1ap_ies.proofs.bearer.Bearer.write.Goals as goal

pub returns-clause-ok : goal.returns-clause-ok
returns-clause-ok c = rw c.parts.ensures at c.write_fields.ensures.ok
