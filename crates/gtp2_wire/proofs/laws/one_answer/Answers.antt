use Rattle.echo_base.proofs.Formats.{one_value, one_error, not_both, either}
use Rattle.gtp2_wire.specs.Messages.{gtp_in, gtp_at}
use Rattle.gtp2_wire.proofs.MessageLaws.{gtp_exactly}
use Rattle.gtp2_wire.proofs.laws.one_answer.Goals as goal

pub returns-clause-message : goal.returns-clause-message
returns-clause-message c = λ octets one other s t. one_value gtp_in gtp_at gtp_exactly octets one s.0 other t.0 s.1 t.1

pub returns-clause-refusal : goal.returns-clause-refusal
returns-clause-refusal c = one_error gtp_in gtp_at gtp_exactly

pub returns-clause-not_both : goal.returns-clause-not_both
returns-clause-not_both c = λ octets m e s r. not_both gtp_in gtp_at gtp_exactly octets m s.0 e s.1 r

pub returns-clause-either : goal.returns-clause-either
returns-clause-either c = either gtp_in gtp_at gtp_exactly
