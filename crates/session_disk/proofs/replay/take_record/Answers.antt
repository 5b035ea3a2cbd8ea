use Rattle.std.proofs.Common.{rules, ◌≡◌, ◌+◌, length, Some, sym, ap, ◌∙◌, subst}
use Rattle.std.proofs.lemmas.Result.{IfOk-weaker}
use Rattle.session_row.specs.Row.{RowState}
use Rattle.session_store.specs.Charter.{CharterState}
use Rattle.session_store.specs.Rows.{IsDevice}
use Rattle.session_disk.proofs.Takes.{told}
use Rattle.session_disk.proofs.replay.take_record.Goals as goal

pub returns-clause-next : goal.returns-clause-next
returns-clause-next g c =
    let new = c.commit.new.self in
    let d = c.device-2.result in
    let read = c.version-version.result in
    let is : IsDevice (length c.args.store.now.rows) d = search rules in
    let version : c.args.next.now.version ≡ read + 1 = search rules in
    let newest = c.version-version.ensures ∙ ap (λ (row : RowState). length row.journal) c.row.ensures in
    let made = subst (λ (x : CharterState). g.M.Maker.made x d read ≡ Some c.in-Some.entry) c.requires.charter (sym c.in_ok-entry.ensures ∙ c.in-Some.is) in
    IfOk-weaker c.has_session.result _ _ (λ fits decides. (told (g.L.RowLaw.follows new.charter) c.args.store.now new d read c.in-Some.entry is c.commit.ensures.others (λ J. g.met.L.RowLaw.can_follow new.charter d J c.in-Some.entry c.commit.ensures.in_form) c.commit.ensures.lawful
    (g.M.Maker.made c.args.store.now.charter) c.args.next.now (sym c.device-2.ensures) version newest made c.in-Ok.field-0 c.in-Ok.ensures.ok fits decides).0) c.has_session.ensures

pub returns-clause-other : goal.returns-clause-other
returns-clause-other g c =
    let new = c.commit.new.self in
    let d = c.device-2.result in
    let read = c.version-version.result in
    let is : IsDevice (length c.args.store.now.rows) d = search rules in
    let version : c.args.next.now.version ≡ read + 1 = search rules in
    let newest = c.version-version.ensures ∙ ap (λ (row : RowState). length row.journal) c.row.ensures in
    let made = subst (λ (x : CharterState). g.M.Maker.made x d read ≡ Some c.in-Some.entry) c.requires.charter (sym c.in_ok-entry.ensures ∙ c.in-Some.is) in
    IfOk-weaker c.has_session.result _ _ (λ fits decides. (told (g.L.RowLaw.follows new.charter) c.args.store.now new d read c.in-Some.entry is c.commit.ensures.others (λ J. g.met.L.RowLaw.can_follow new.charter d J c.in-Some.entry c.commit.ensures.in_form) c.commit.ensures.lawful
    (g.M.Maker.made c.args.store.now.charter) c.args.next.now (sym c.device-2.ensures) version newest made c.in-Ok.field-0 c.in-Ok.ensures.ok fits decides).1) c.has_session.ensures
