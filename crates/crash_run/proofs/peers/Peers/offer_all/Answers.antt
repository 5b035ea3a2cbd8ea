use Rattle.std.proofs.Common.{◌<◌, length, ap, arith}
use Rattle.device_types.specs.declared.effect.Effect.TheVariants as effects
use Rattle.device_types.specs.declared.event.Lane.TheVariants as lanes
use Rattle.peer_calls.specs.Calls.{calls_of}
use Rattle.crash_run.proofs.Courses.{room_left}
use Rattle.crash_run.proofs.peers.Peers.offer_all.Goals as goal

pub offer-requires-clause-few : goal.offer-requires-clause-few
offer-requires-clause-few c =
    let low : c.loop-effect.effect-index < length c.args.step.now.effects = omega (arith, c.loop-effect-test.true, ap length c.items-effect-items.ensures) in
    room_left effects.Gateway lanes.Gateway (calls_of c.args.self.now.gateway c.args.row.now.number) (calls_of c.loop-effect.self.gateway c.args.row.now.number) c.args.step.now.effects c.loop-effect.effect-index c.loop-effect.invariant.gateway low c.requires.few

pub offer-requires-clause-short : goal.offer-requires-clause-short
offer-requires-clause-short c =
    let low : c.loop-effect.effect-index < length c.args.step.now.effects = omega (arith, c.loop-effect-test.true, ap length c.items-effect-items.ensures) in
    room_left effects.Subscriber lanes.Subscriber (calls_of c.args.self.now.server c.args.row.now.number) (calls_of c.loop-effect.self.server c.args.row.now.number) c.args.step.now.effects c.loop-effect.effect-index c.loop-effect.invariant.server low c.requires.short
