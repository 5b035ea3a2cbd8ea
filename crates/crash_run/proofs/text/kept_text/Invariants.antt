use Rattle.std.proofs.Common.{◌≡◌, ◌++◌, drop, string_bytes}
use Rattle.crash_run.specs.Text.{version_lines, kept_text}
use Rattle.crash_run.proofs.text.kept_text.Given as goal

abbrev pub invariant-loop-index : goal.invariant-loop-index
invariant-loop-index l =
    string_bytes l.text ++ version_lines (drop l.index l.rows) (drop l.index l.kept.versions.items)
    ≡ kept_text l.rows l.kept.acknowledged l.kept.found l.kept.versions.items
