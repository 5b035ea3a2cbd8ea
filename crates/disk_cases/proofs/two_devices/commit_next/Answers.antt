use Rattle.std.proofs.Common.{◌<◌, ◌^◌, List, sym, subst}
use Rattle.session_row.specs.Row.{RowState}
use Rattle.session_disk.specs.Stored.{entry_count}
use Rattle.disk_cases.proofs.Two.{few_entries}
use Rattle.disk_cases.proofs.two_devices.commit_next.Goals as goal

pub commit-requires-clause-room : goal.commit-requires-clause-room
commit-requires-clause-room g c =
    let old = c.args.store.now.store in
    subst (λ (rows : List RowState). entry_count rows < 2 ^ 40) (sym c.version.ensures.same.1) (few_entries old.charter old.rows c.requires.count c.version.ensures.lawful)
