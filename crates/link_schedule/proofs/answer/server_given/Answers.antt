use Rattle.std.proofs.Common.{◌≤◌, length, arith}
use Rattle.device_types.specs.declared.effect.Effect.TheVariants as effects
use Rattle.peer_calls.specs.Calls.{calls_of}
use Rattle.link_schedule.proofs.Given.{was_given}
use Rattle.link_schedule.proofs.answer.server_given.Goals as goal

pub returns : goal.returns
returns c =
    let calls = calls_of c.args.server.now c.args.row.now.number in
    let low : c.args.k ≤ length calls = omega (arith, c.accepted.ensures, c.if-accepted-k.false) in
    was_given (λ x. effects.Subscriber x) c.args.row.now calls c.args.k c.in_ok-answer.field-0 low c.in_ok-answer.ensures
