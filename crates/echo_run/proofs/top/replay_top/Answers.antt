use Rattle.std.proofs.Common.{◌≡◌, ◌≤◌, arith}
use Rattle.echo_run.proofs.top.replay_top.Goals as goal

pub returns-in-Err-Refused-clause-too_long : goal.returns-in-Err-Refused-clause-too_long
returns-in-Err-Refused-clause-too_long g c = λ e.
    let least : 1 ≤ c.in-Err-Refused.line = rw c.in-Err-Refused.field-0-is at c.in-Err-Refused.ensures.of_line in
    let none : c.in-Err-Refused.line ≡ 0 = cc in
    absurd (omega (arith, none, least))
