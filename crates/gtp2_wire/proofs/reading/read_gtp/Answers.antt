use Rattle.echo_base.proofs.Answers.{answers_right, answers_only, answers_refused}
use Rattle.gtp2_wire.specs.Messages.{GtpSpells, GtpRefuses, TakesMemory, gtp_of}
use Rattle.gtp2_wire.proofs.MessageLaws.{gives_answer, message_exact, refusal_exact}
use Rattle.gtp2_wire.proofs.reading.read_gtp.Goals as goal

pub returns-clause-reading : goal.returns-clause-reading
returns-clause-reading c = gives_answer c.read_message.result c.args.octets.now c.read_message.new.left (rw c.new-left.ensures at c.read_message.ensures.read)

pub returns-clause-read : goal.returns-clause-read
returns-clause-read c =
    let octets = c.args.octets.now in
    answers_right TakesMemory (GtpSpells octets) (GtpRefuses octets) (gtp_of octets) c.read_message.result (returns-clause-reading c) (λ g. (message_exact octets g).0) (λ e. (refusal_exact octets e).0)

pub returns-clause-only : goal.returns-clause-only
returns-clause-only c = λ g s. answers_only TakesMemory (gtp_of c.args.octets.now) c.read_message.result (returns-clause-reading c) g ((message_exact c.args.octets.now g).1 s)

pub returns-clause-refused : goal.returns-clause-refused
returns-clause-refused c = λ e r. answers_refused TakesMemory (gtp_of c.args.octets.now) c.read_message.result (returns-clause-reading c) e ((refusal_exact c.args.octets.now e).1 r)
