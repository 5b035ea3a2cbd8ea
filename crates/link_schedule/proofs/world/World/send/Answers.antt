use Rattle.std.proofs.Common.{◌≡◌, cond, refl, sym, ap, ◌∙◌}
use Rattle.device_types.specs.declared.event.Event.TheVariants.{Send}
use Rattle.device_types.specs.declared.event.EventAnswer.TheVariants as told
use Rattle.schedule_laws.specs.Answer.{answer, history}
use Rattle.link_schedule.specs.View.{view_of}
use Rattle.link_schedule.proofs.Events.{window_read, sends, send_told}
use Rattle.link_schedule.proofs.Noted.{event_in, notes, notes_void}
use Rattle.link_schedule.proofs.world.World.send.Goals as goal
use Rattle.link_schedule.proofs.world.World.send.Goals.{After-may_send}

told_by : (c : After-may_send) → let w = view_of c.self.inside in answer w.setting (history w.setting w.events) (Send c.args.d c.args.n) ≡ cond c.may_send.result told.Sent told.VoidWindow
told_by c =
    let w = view_of c.self.inside in
    let H = history w.setting w.events in
    let d = c.args.d in
    let i = event_in c.args.self.now w (Send d c.args.n) c.self.view_is c.requires in
    let window = window_read w.setting H w.parts d.0 c.index.result.now (rw (← c.index-index.ensures) c.index.ensures) i.0 c.self.invariant.world.parts in
    send_told w.setting H d c.args.n c.index.result.now window ∙ ap (λ b. cond b told.Sent told.VoidWindow) (sym c.may_send.ensures)

pub invariant_of-self : goal.invariant_of-self
invariant_of-self c =
    let w = view_of c.self.inside in
    let e = Send c.args.d c.args.n in
    let i = event_in c.args.self.now w e c.self.view_is c.requires in
    let given : told.VoidWindow ≡ answer w.setting (history w.setting w.events) e = sym (told_by (goal.at.invariant_of-self c).After-may_send ∙ ap (λ b. cond b told.Sent told.VoidWindow) c.if-not-may_send.true) in
    record {
      charter = c.self.invariant.charter;
      caches = c.self.invariant.caches;
      world = notes_void w e told.VoidWindow _ c.noted.ensures.events c.self.invariant.world i given refl;
    }

pub invariant_of-self-2 : goal.invariant_of-self-2
invariant_of-self-2 c =
    let w = view_of c.self.inside in
    let H = history w.setting w.events in
    let d = c.args.d in
    let e = Send d c.args.n in
    let i = event_in c.args.self.now w e c.self.view_is c.requires in
    let given : told.Sent ≡ answer w.setting H e = sym (told_by (goal.at.invariant_of-self-2 c).After-may_send ∙ ap (λ b. cond b told.Sent told.VoidWindow) c.if-not-may_send.false) in
    rw c.index-index.ensures
    (record {
      charter = c.self.invariant.charter;
      caches = c.self.invariant.caches;
      world = notes w e told.Sent _ _ c.noted-2.ensures.events c.self.invariant.world i given
          (sends w.setting H w.parts d c.args.n c.index_mut-2.result.now c.sent.new.self c.index_mut.result.now c.mark.new.self (rw (← c.index-index.ensures) c.index_mut-2.ensures.value) c.sent.ensures (rw (← c.index-index.ensures) c.index_mut.ensures.value) c.in_ok-mark.ensures.ok i.0 c.self.invariant.world.parts);
    })
