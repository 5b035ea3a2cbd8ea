-- The line of a status.
use Rattle.std.specs.Prelude.{List, ℕ}
use Rattle.echo_base.specs.declared.status.Status.{Status}
use Rattle.echo_base.specs.Status.{status_text}
use Rattle.report_text.specs.Lines.{ended}

-- with the LF that ends it
abbrev pub status_line : Status → List ℕ
status_line status = ended (status_text status)
