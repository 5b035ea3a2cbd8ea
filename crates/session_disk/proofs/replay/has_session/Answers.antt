use Rattle.std.proofs.Common.{◌≡◌, ℕ, false, List, subst}
use Rattle.std.specs.Bool.{Decides}
use Rattle.std.proofs.lemmas.Bool.Decides.{Decides-eqb}
use Rattle.std.proofs.lemmas.Slice.Eq.{slice_eq-Decides}
use Rattle.device_types.specs.Journal.{session_of}
use Rattle.session_form.specs.Form.{IsFormOf}
use Rattle.session_row.specs.Row.{RowState}
use Rattle.session_store.specs.Rows.{journal_of}
use Rattle.session_disk.proofs.Compared.{read_again, none_read}
use Rattle.session_disk.proofs.replay.has_session.Goals as goal

pub returns-in_ok-write_session-in-Ok : goal.returns-in_ok-write_session-in-Ok
returns-in_ok-write_session-in-Ok g c =
    let own = c.octets-in-Ok-2.result.now in
    let equal = subst (λ (octets : List ℕ). Decides c.eq.result (octets ≡ own)) c.octets-in-Ok.ensures.value (slice_eq-Decides Decides-eqb c.octets-in-Ok.result.now own c.eq.result c.eq.ensures) in
    let has = read_again c.session-2.result.now _ own c.in-Ok.session (session_of c.row-row.result.now.journal) c.eq.result c.in-Ok.ensures.read c.in-Ok.ensures.only c.octets-in-Ok.ensures.range c.in_ok-write_session-in-Ok.ensures c.session.ensures.range c.octets-in-Ok-2.ensures equal in
    subst (λ (row : RowState). Decides c.eq.result (IsFormOf c.args.next.now.session (session_of row.journal))) c.row-row.ensures
    (subst (λ (octets : List ℕ). Decides c.eq.result (IsFormOf octets (session_of c.row-row.result.now.journal))) c.session-2.ensures has)

pub returns-in-Err-Refused : goal.returns-in-Err-Refused
returns-in-Err-Refused g c =
    let session = session_of (journal_of c.args.store.now.rows c.args.d.0) in
    subst (λ (octets : List ℕ). Decides false (IsFormOf octets session)) c.session-2.ensures
    (none_read c.session-2.result.now session (λ t form. rw c.in-Err-Refused.field-0-is at (c.in-Err-Refused.ensures.only t form)))
