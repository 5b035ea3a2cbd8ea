use Rattle.std.proofs.Common.{◌≤◌, length, arith}
use Rattle.device_types.specs.declared.effect.Effect.TheVariants as effects
use Rattle.peer_calls.specs.Calls.{calls_of}
use Rattle.link_schedule.proofs.Given.{was_given}
use Rattle.link_schedule.proofs.answer.gateway_given.Goals as goal

pub returns : goal.returns
returns c =
    let calls = calls_of c.args.gateway.now c.args.row.now.number in
    let low : c.args.k ≤ length calls = omega (arith, c.accepted.ensures, c.if-accepted-k.false) in
    was_given (λ x. effects.Gateway x) c.args.row.now calls c.args.k c.answer.result low c.answer.ensures
