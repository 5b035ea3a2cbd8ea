use Rattle.std.proofs.Common.{ap, ◌∙◌}
use Rattle.effect_outbox.specs.Outbox.{with_number, settled_of}
use Rattle.session_row.specs.Row.{RowState, lanes_of}
use Rattle.session_row.proofs.Steps.{seen_settled}
use Rattle.session_row.proofs.row.Row.settle.Goals as goal

pub returns-clause-state : goal.returns-clause-state
returns-clause-state g c =
    let journal = c.self.inside.entries.items in
    let was = settled_of c.self.inside.outbox in
    let held = c.settle.ensures.rest (lanes_of journal) was c.self.invariant.lanes in
    seen_settled journal (lanes_of journal) c.settle.new.self (with_number was c.args.lane c.args.k) held
    ∙ ap (λ (row : RowState). record row { settled = with_number row.settled c.args.lane c.args.k }) c.self.view_is
