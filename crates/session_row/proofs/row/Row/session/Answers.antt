use Rattle.std.proofs.Common.{ap, ◌∙◌}
use Rattle.device_types.specs.Journal.{session_of}
use Rattle.session_row.specs.Row.{RowState}
use Rattle.session_form.proofs.Sessions.{in_range, is_form}
use Rattle.session_row.proofs.row.Row.session.Goals as goal

pub unreachable-requires : goal.unreachable-requires
unreachable-requires g c =
    let session = session_of c.self.inside.entries.items in
    let form = is_form session (in_range session c.self.invariant.range) c.octets.result.now (c.octets.ensures.value ∙ c.self.invariant.octets) in
    rw c.in-Err-Refused.field-0-is at (c.in-Err-Refused.ensures.only session form)

pub returns-in-Ok-clause-value : goal.returns-in-Ok-clause-value
returns-in-Ok-clause-value g c =
    let session = session_of c.self.inside.entries.items in
    let form = is_form session (in_range session c.self.invariant.range) c.octets.result.now (c.octets.ensures.value ∙ c.self.invariant.octets) in
    c.in-Ok.ensures.only session form ∙ ap (λ (row : RowState). session_of row.journal) c.self.view_is
