use Rattle.echo_base.proofs.Formats.{one_value, one_error, not_both, either}
use Rattle.nas_kinds.specs.Kinds.{nas_in}
use Rattle.nas_kinds.specs.Reading.{nas_at}
use Rattle.nas_kinds.proofs.Exact.{nas_exactly}
use Rattle.nas_kinds.proofs.laws.one_answer.Goals as goal

pub returns-clause-message : goal.returns-clause-message
returns-clause-message c = λ octets one other s t. one_value nas_in nas_at nas_exactly octets one s.0 other t.0 s.1 t.1

pub returns-clause-refusal : goal.returns-clause-refusal
returns-clause-refusal c = one_error nas_in nas_at nas_exactly

pub returns-clause-not_both : goal.returns-clause-not_both
returns-clause-not_both c = λ octets message e s r. not_both nas_in nas_at nas_exactly octets message s.0 e s.1 r

pub returns-clause-either : goal.returns-clause-either
returns-clause-either c = either nas_in nas_at nas_exactly
