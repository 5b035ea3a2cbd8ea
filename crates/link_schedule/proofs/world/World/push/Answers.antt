use Rattle.std.proofs.Common.{refl}
use Rattle.device_types.specs.declared.event.Event.TheVariants.{Push}
use Rattle.device_types.specs.declared.event.EventAnswer.TheVariants as told
use Rattle.session_store.specs.Rows.{opening_row}
use Rattle.schedule_laws.specs.Answer.{history}
use Rattle.link_schedule.specs.View.{view_of}
use Rattle.link_schedule.proofs.Calls.{in_row_told, in_row_void}
use Rattle.link_schedule.proofs.Lanes.{pushes}
use Rattle.link_schedule.proofs.Noted.{event_in, notes, notes_void}
use Rattle.link_schedule.proofs.world.World.push.Goals as goal

pub invariant_of-self : goal.invariant_of-self
invariant_of-self c =
    let w = view_of c.self.inside in
    let H = history w.setting w.events in
    let is = c.self.invariant.world in
    let e = Push c.args.d c.args.lane c.args.k in
    let i = event_in c.args.self.now w e c.self.view_is c.requires in
    let row = is.parts.rows.at c.args.d.0 opening_row i.0 in
    let void = in_row_void w.setting H c.args.d c.args.lane c.args.k _ row (λ there. let t = c.is_unsettled.ensures.1 there in cc) in
    record { charter = c.self.invariant.charter; caches = c.self.invariant.caches; world = notes_void w e told.VoidOutbox c.noted.new.self c.noted.ensures.events is i void refl }

pub invariant_of-self-2 : goal.invariant_of-self-2
invariant_of-self-2 c =
    let w = view_of c.self.inside in
    let H = history w.setting w.events in
    let is = c.self.invariant.world in
    let e = Push c.args.d c.args.lane c.args.k in
    let i = event_in c.args.self.now w e c.self.view_is c.requires in
    let row = is.parts.rows.at c.args.d.0 opening_row i.0 in
    let pushed = in_row_told w.setting H c.args.d c.args.lane c.args.k _ row (c.is_unsettled.ensures.0 c.if-not-is_unsettled.false) in
    rw c.index-index.ensures
    (record {
      charter = c.self.invariant.charter;
      caches = c.self.invariant.caches;
      world = notes w e told.Pushed _ c.noted-2.new.self c.noted-2.ensures.events is i pushed
          (pushes w.setting H w.parts c.args.d c.args.lane c.args.k c.index_mut.result.now c.mark.new.self (rw (← c.index-index.ensures) c.index_mut.ensures.value) c.in_ok-mark.ensures.ok i.0 is.parts);
    })
