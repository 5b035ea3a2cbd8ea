use Rattle.std.proofs.Common.{◌<◌, ◌^◌, List, length, sym, ap, subst, ◌∙◌}
use Rattle.session_row.specs.Row.{RowState}
use Rattle.session_store.specs.Charter.{CharterState}
use Rattle.session_disk.specs.Stored.{entry_count}
use Rattle.crash_run.proofs.Stores.{has_room}
use Rattle.crash_run.proofs.runs.commit_next.Goals as goal

pub commit-requires-clause-room : goal.commit-requires-clause-room
commit-requires-clause-room c =
    let before = c.args.store.now.store in
    let seen = c.in_ok-version.ensures in
    let count = c.requires.store.rows_are ∙ ap (λ (charter : CharterState). length charter.rows) (sym c.requires.store.charter_is) in
    subst (λ (rows : List RowState). entry_count rows < 2 ^ 40) (sym seen.same.1) (has_room before.charter before.rows seen.in_form count seen.lawful)
