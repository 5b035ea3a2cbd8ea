use Rattle.std.proofs.Common.{subst}
use Rattle.link_schedule.specs.Settled.{turns_in}
use Rattle.link_schedule.specs.View.{view_of}
use Rattle.link_schedule.specs.World.{WorldState, IsWindowOf}
use Rattle.link_schedule.proofs.Events.{window_read}
use Rattle.link_schedule.proofs.Noted.{device_in}
use Rattle.link_schedule.proofs.world.World.agent.Goals as goal

pub returns : goal.returns
returns c =
    let w = view_of c.self.inside in
    let d = c.args.d.0 in
    let within = device_in c.args.self.now w d c.self.view_is c.requires in
    let agent = c.index-2.result.now in
    let own = window_read w.setting (turns_in w) w.parts d agent (rw (← c.index.ensures) c.index-2.ensures) within c.self.invariant.world.parts in
    subst (λ (x : WorldState). IsWindowOf x.setting (turns_in x) d agent) c.self.view_is own
