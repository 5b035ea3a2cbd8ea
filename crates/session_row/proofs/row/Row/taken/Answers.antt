use Rattle.std.proofs.Common.{ap, ◌∙◌}
use Rattle.device_types.specs.Journal.{taken_count}
use Rattle.session_row.specs.Row.{RowState}
use Rattle.session_row.proofs.Steps.{taken_is}
use Rattle.session_row.proofs.row.Row.taken.Goals as goal

pub returns : goal.returns
returns g c = taken_is g.row.W c.self.inside.entries.items c.self.inside.replies c.self.invariant.answered ∙ ap (λ (row : RowState). taken_count row.journal) c.self.view_is
