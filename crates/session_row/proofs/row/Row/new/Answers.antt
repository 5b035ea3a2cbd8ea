use Rattle.std.proofs.Common.{[]}
use Rattle.device_types.specs.Session.{opening}
use Rattle.session_form.proofs.Sessions.{in_range}
use Rattle.session_row.proofs.Steps.{opening_is_session, row_none, seen_settled}
use Rattle.session_row.proofs.row.Row.new.Goals as goal

pub write_session-requires : goal.write_session-requires
write_session-requires g c = rw c.opening.ensures (in_range opening opening_is_session)

pub invariant_of-result : goal.invariant_of-result
invariant_of-result g c = rw c.new.ensures.items (row_none g.row.W _ _ c.new-3.result (rw c.opening.ensures at c.in_ok-write_session.ensures) c.in_ok-new.ensures c.new-3.ensures.lanes)

pub returns : goal.returns
returns g c = rw c.new.ensures.items (seen_settled [] (λ _. []) c.new-3.result (record { down = 0; gateway = 0; subscriber = 0 }) c.new-3.ensures.lanes)
