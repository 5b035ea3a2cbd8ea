use Rattle.std.proofs.Common.{sym, ◌∙◌}
use Rattle.gtp2_wire.proofs.KindLaws.{rejects_so}
use Rattle.gtp2_wire.proofs.reading.rejection.Goals as goal

pub returns-then-is_answer-clause-written : goal.returns-then-is_answer-clause-written
returns-then-is_answer-clause-written c = rejects_so c.args.kind c.rejecting.result (sym c.is_answer.ensures ∙ c.if-is_answer.true) c.rejecting.ensures.other
