use Rattle.std.proofs.Common.{◌≡◌, ◌<◌, arith}
use Rattle.std.proofs.lemmas.List.Elements.{All-from_get_or}
use Rattle.device_types.specs.Octets.{AreOctets}
use Rattle.echo_base.specs.declared.reason.Reason.TheVariants.{BadSession}
use Rattle.echo_base.proofs.Answers.{answers_right, answers_refused}
use Rattle.session_form.specs.Form.{IsFormOf, IsWrongAt, TakesMemory, session_in}
use Rattle.session_form.proofs.Sessions.{form_exact, wrong_exact, wrong_is, gives_answer, answers_alone}
use Rattle.session_form.proofs.reading.read_session.Goals as goal

pub returns-clause-read : goal.returns-clause-read
returns-clause-read c =
    let os = c.args.octets.now in
    let are : AreOctets os = All-from_get_or (λ octet. octet < 256) os 0 (λ i within. omega (arith, c.type_inv.octets i)) in
    let given = gives_answer c.read_fields.result os c.read_fields.new.r (rw c.new-r.ensures at c.read_fields.ensures) in
    answers_right TakesMemory (IsFormOf os) (λ e. (e.reason ≡ BadSession) × IsWrongAt os e.place) (session_in os) c.read_fields.result given (λ s. (form_exact os s are).0) (wrong_is os)

pub returns-clause-only : goal.returns-clause-only
returns-clause-only c =
    let os = c.args.octets.now in
    let are : AreOctets os = All-from_get_or (λ octet. octet < 256) os 0 (λ i within. omega (arith, c.type_inv.octets i)) in
    let given = gives_answer c.read_fields.result os c.read_fields.new.r (rw c.new-r.ensures at c.read_fields.ensures) in
    λ s f. answers_alone c.read_fields.result os given s ((form_exact os s are).1 f)

pub returns-clause-refused : goal.returns-clause-refused
returns-clause-refused c =
    let os = c.args.octets.now in
    let given = gives_answer c.read_fields.result os c.read_fields.new.r (rw c.new-r.ensures at c.read_fields.ensures) in
    λ place w. answers_refused TakesMemory (session_in os) c.read_fields.result given _ ((wrong_exact os place).1 w)
