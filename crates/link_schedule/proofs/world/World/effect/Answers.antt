use Rattle.std.proofs.Common.{◌≡◌, false, refl, sym, ◌∙◌}
use Rattle.device_types.specs.declared.event.Event.TheVariants.{Effect}
use Rattle.device_types.specs.declared.event.EventAnswer.TheVariants as told
use Rattle.schedule_laws.specs.Answer.{history}
use Rattle.schedule_laws.specs.Counts.{effect_pushed}
use Rattle.link_schedule.specs.View.{view_of}
use Rattle.link_schedule.proofs.Contents.{marked}
use Rattle.schedule_laws.proofs.EachAnswer.{effect_void}
use Rattle.link_schedule.proofs.Noted.{event_in, notes_void}
use Rattle.link_schedule.proofs.world.World.effect.Goals as goal
use Rattle.link_schedule.proofs.world.World.effect.Goals.{After-has}

-- the marks say whether it is on its link
on_link : (c : After-has) → effect_pushed c.args.d.0 c.args.lane c.args.k (history (view_of c.self.inside).setting (view_of c.self.inside).events) ≡ c.has.result
on_link c =
    let w = view_of c.self.inside in
    let i = event_in c.args.self.now w (Effect c.args.d c.args.lane c.args.k) c.self.view_is c.requires in
    sym (marked w.setting (history w.setting w.events) w.parts c.args.d.0 c.args.lane c.args.k c.index.result.now (rw (← c.index-index.ensures) c.index.ensures) i.0 i.1 c.self.invariant.world.parts) ∙ sym c.has.ensures

pub invariant_of-self : goal.invariant_of-self
invariant_of-self c =
    let w = view_of c.self.inside in
    let H = history w.setting w.events in
    let e = Effect c.args.d c.args.lane c.args.k in
    let i = event_in c.args.self.now w e c.self.view_is c.requires in
    let off : effect_pushed c.args.d.0 c.args.lane c.args.k H ≡ false = on_link (goal.at.invariant_of-self c).After-has ∙ c.if-not-has.true in
    let void = effect_void w.setting H c.args.d c.args.lane c.args.k off in
    record { charter = c.self.invariant.charter; caches = c.self.invariant.caches; world = notes_void w e told.VoidLink c.noted.new.self c.noted.ensures.events c.self.invariant.world i void refl }
