use Rattle.std.proofs.Common.{ℕ, List, ap, subst, ◌∙◌}
use Rattle.case_form.specs.Case.{rows_of, trace_of}
use Rattle.case_form.specs.Lines.{lines_of}
use Rattle.device_types.specs.declared.subscriber.Subscriber.{Subscriber}
use Rattle.session_store.specs.Charter.{CharterState}
use Rattle.thread_run.specs.Shards.{charter_in, AreShardsOf}
use Rattle.thread_run.proofs.answer.answer.Goals as goal

-- the case is what the text says
pub returns-clause-shards : goal.returns-clause-shards
returns-clause-shards g c =
    let case = c.in_ok-case.case in
    let is = c.in_ok-case.ensures.case in
    let same = ap (λ (rows : List Subscriber). charter_in rows case.trace) is.table
    ∙ ap (charter_in (rows_of (lines_of c.octets-2.result.now))) is.trace
    ∙ ap (λ (octets : List ℕ). charter_in (rows_of (lines_of octets)) (trace_of (lines_of octets))) c.octets-2.ensures.value in
    subst (λ (charter : CharterState). AreShardsOf charter c.in_ok-answered.answered.ran) same c.in_ok-answered.ensures.shards
