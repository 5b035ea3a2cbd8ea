use Rattle.std.proofs.Common.{◌≡◌, ◌++◌, length, map, take}
use Rattle.device_types.specs.declared.effect.Effect.TheVariants as effects
use Rattle.device_types.specs.declared.event.Lane.TheVariants as lanes
use Rattle.device_types.specs.Journal.{effects_on}
use Rattle.peer_calls.specs.Calls.{calls_of}
use Rattle.crash_run.proofs.peers.Peers.offer_all.Given as goal

abbrev pub invariant-loop-effect : goal.invariant-loop-effect
invariant-loop-effect l = record {
  gateway : map effects.Gateway (calls_of l.self.gateway l.row.number) ≡ map effects.Gateway (calls_of l.initial.self.gateway l.row.number) ++ effects_on lanes.Gateway (take l.effect-index l.step.effects);
  server : map effects.Subscriber (calls_of l.self.server l.row.number) ≡ map effects.Subscriber (calls_of l.initial.self.server l.row.number) ++ effects_on lanes.Subscriber (take l.effect-index l.step.effects);
  sizes : (length l.self.gateway ≡ length l.initial.self.gateway) × (length l.self.server ≡ length l.initial.self.server);
}
