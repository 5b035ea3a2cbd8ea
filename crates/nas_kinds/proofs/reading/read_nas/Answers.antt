use Rattle.echo_base.proofs.Answers.{answers_right, answers_only, answers_refused}
use Rattle.nas_kinds.specs.Kinds.{NasSpells, NasRefuses, IsResponse}
use Rattle.nas_kinds.specs.Reading.{nas_of}
use Rattle.nas_kinds.proofs.Exact.{gives_answer, message_exact, refusal_exact}
use Rattle.nas_kinds.proofs.reading.read_nas.Goals as goal

pub returns-clause-reading : goal.returns-clause-reading
returns-clause-reading c = gives_answer c.read_whole.result c.args.octets.now c.read_whole.new.r (rw c.new-r.ensures at c.read_whole.ensures)

pub returns-clause-read : goal.returns-clause-read
returns-clause-read c =
    let octets = c.args.octets.now in
    answers_right IsResponse (NasSpells octets) (NasRefuses octets) (nas_of octets) c.read_whole.result (returns-clause-reading c) (λ message. (message_exact octets message).0) (λ e. (refusal_exact octets e).0)

pub returns-clause-only : goal.returns-clause-only
returns-clause-only c = λ message s. answers_only IsResponse (nas_of c.args.octets.now) c.read_whole.result (returns-clause-reading c) message ((message_exact c.args.octets.now message).1 s)

pub returns-clause-refused : goal.returns-clause-refused
returns-clause-refused c = λ e r. answers_refused IsResponse (nas_of c.args.octets.now) c.read_whole.result (returns-clause-reading c) e ((refusal_exact c.args.octets.now e).1 r)
