use Rattle.std.proofs.Common.{◌≡◌, length, sym, ap, ◌∙◌, rules}
use Rattle.session_store.specs.Charter.{CharterState}
use Rattle.crash_run.specs.Text.{counts_of, found_of}
use Rattle.crash_run.proofs.Shares.{as_many}
use Rattle.crash_run.proofs.text.crash_text.Goals as goal

pub kept_text-requires : goal.kept_text-requires
kept_text-requires c =
    let same : c.in_ok-kept.kept.versions.items ≡ c.in_ok-expected.expected.versions.items = search rules in
    let counts = c.deref.ensures.value ∙ c.in_ok-counts.ensures ∙ ap (λ (charter : CharterState). counts_of charter.rows charter.lines) c.in_ok-maker.ensures in
    ap length same
    ∙ as_many c.args.table.now c.args.book.now (found_of c.deref.result.now c.args.after) c.deref.result.now c.in_ok-expected.expected.versions.items c.requires.lines counts c.in_ok-expected.ensures.versions_are
    ∙ ap length (sym c.rows.ensures.rows)
