use Rattle.std.proofs.Common.{◌≡◌, ℕ, ◌-◌, true, false, cond, get_or, refl, sym, ap, ◌∙◌}
use Rattle.std.specs.Arc.{arc_value}
use Rattle.device_types.specs.declared.event.Event.TheVariants.{Take}
use Rattle.device_types.specs.declared.event.EventAnswer.TheVariants as told
use Rattle.device_types.specs.declared.input.Input.TheVariants as inputs
use Rattle.replica_worker.specs.declared.hand.Hand.TheVariants as hands
use Rattle.replica_worker.specs.Replica.{ReplicaState}
use Rattle.schedule_laws.specs.Answer.{answer, history}
use Rattle.schedule_laws.specs.Counts.{message_sent}
use Rattle.schedule_laws.specs.Input.{message_of, no_message}
use Rattle.schedule_laws.specs.Lists.{has}
use Rattle.link_schedule.specs.View.{view_of}
use Rattle.link_schedule.specs.World.{IsWindowOf}
use Rattle.link_schedule.proofs.Events.{window_read, takes}
use Rattle.schedule_laws.proofs.EachAnswer.{take_told, no_replica}
use Rattle.schedule_laws.proofs.Laws.{sent_bound}
use Rattle.link_schedule.proofs.Noted.{event_in, notes_void, notes_hand}
use Rattle.link_schedule.proofs.Remembered.{replica_within, caches_kept}
use Rattle.link_schedule.proofs.world.World.take.Goals as goal
use Rattle.link_schedule.proofs.world.World.take.Goals.{After-has, After-index-2}

on_link : (c : After-has) → message_sent c.args.d.0 c.args.n (history (view_of c.self.inside).setting (view_of c.self.inside).events) ≡ c.has.result
on_link c =
    let w = view_of c.self.inside in
    let i = event_in c.args.self.now w (Take c.args.r c.args.d c.args.n) c.self.view_is c.requires in
    sym (c.has.ensures ∙ ap (has c.args.n) (c.index.ensures ∙ ap (λ (i : ℕ). get_or (view_of c.self.inside).parts.sent i c.index.result.now) c.index-index.ensures) ∙ c.self.invariant.world.parts.sent.at c.args.d.0 c.index.result.now i.1 c.args.n i.2)

pub invariant_of-self : goal.invariant_of-self
invariant_of-self c =
    let w = view_of c.self.inside in
    let e = Take c.args.r c.args.d c.args.n in
    let i = event_in c.args.self.now w e c.self.view_is c.requires in
    record {
      charter = c.self.invariant.charter;
      caches = c.self.invariant.caches;
      world = notes_void w e told.VoidReplica _ c.noted.ensures.events c.self.invariant.world i (no_replica w.setting c.args.r _ c.if-r-self.true) refl;
    }

pub invariant_of-self-then-not-has : goal.invariant_of-self-then-not-has
invariant_of-self-then-not-has c =
    let w = view_of c.self.inside in
    let H = history w.setting w.events in
    let e = Take c.args.r c.args.d c.args.n in
    let i = event_in c.args.self.now w e c.self.view_is c.requires in
    let none : message_sent c.args.d.0 c.args.n H ≡ false = on_link (goal.at.invariant_of-self-then-not-has c).After-has ∙ c.if-not-has.true in
    let given : told.VoidLink ≡ answer w.setting H e = sym (take_told w.setting H c.args.r c.args.d c.args.n c.if-r-self.false ∙ ap (λ b. cond b told.Taken told.VoidLink) none) in
    record {
      charter = c.self.invariant.charter;
      caches = c.self.invariant.caches;
      world = notes_void w e told.VoidLink _ c.noted-then-not-has.ensures.events c.self.invariant.world i given refl;
    }

window_at : (c : After-index-2) → IsWindowOf (view_of c.self.inside).setting (history (view_of c.self.inside).setting (view_of c.self.inside).events) c.args.d.0 c.index-2.result.now
window_at c =
    let w = view_of c.self.inside in
    let i = event_in c.args.self.now w (Take c.args.r c.args.d c.args.n) c.self.view_is c.requires in
    window_read w.setting (history w.setting w.events) w.parts c.args.d.0 c.index-2.result.now (rw (← c.index-index.ensures) c.index-2.ensures) i.1 c.self.invariant.world.parts

pub message_at-requires-clause-within : goal.message_at-requires-clause-within
message_at-requires-clause-within c =
    let w = view_of c.self.inside in
    let H = history w.setting w.events in
    let on : message_sent c.args.d.0 c.args.n H ≡ true = on_link (goal.at.message_at-requires-clause-within c).After-has ∙ c.if-not-has.false in
    let b = sent_bound w.setting c.args.d.0 c.args.n H c.self.invariant.world.lawful on in
    let line = window_at (goal.at.message_at-requires-clause-within c).After-index-2 in
    rw line.line b.2

pub invariant_of-self-2 : goal.invariant_of-self-2
invariant_of-self-2 c =
    let w = view_of c.self.inside in
    let H = history w.setting w.events in
    let e = Take c.args.r c.args.d c.args.n in
    let i = event_in c.args.self.now w e c.self.view_is c.requires in
    let on : message_sent c.args.d.0 c.args.n H ≡ true = on_link (goal.at.invariant_of-self-2 c).After-has ∙ c.if-not-has.false in
    let given : told.Taken ≡ answer w.setting H e = sym (take_told w.setting H c.args.r c.args.d c.args.n c.if-r-self.false ∙ ap (λ b. cond b told.Taken told.VoidLink) on) in
    let window = window_at (goal.at.invariant_of-self-2 c).After-index-2 in
    let message : c.in_ok-message.message ≡ message_of w.setting c.args.d.0 c.args.n = c.in_ok-message.ensures ∙ ap (λ l. get_or l.messages (c.args.n - 1) no_message) window.line in
    let replicas = c.self.inside.replicas.items in
    record {
      charter = c.self.invariant.charter;
      caches = caches_kept (arc_value c.self.inside.law.charter) replicas (c.args.r - 1) c.index_mut.result.now c.take.new.self c.self.invariant.caches
          (replica_within w.setting H w.parts replicas c.args.r refl (i.0.0, c.if-r-self.false) c.self.invariant.world.parts) c.index_mut.ensures.value (ap (λ (x : ReplicaState). x.cache) c.take.ensures);
      world = notes_hand w e told.Taken c.args.r replicas c.take.new.self (hands.Taken c.args.d (inputs.Message c.in_ok-message.message)) _ (ap (λ (x : ReplicaState). x.hand) c.take.ensures ∙ ap (hands.Taken c.args.d) c.in_ok-input.ensures) c.noted-2.ensures.events c.self.invariant.world i given
          (takes w.setting H w.parts c.args.r c.args.d c.args.n c.in_ok-message.message message (i.0.0, c.if-r-self.false) c.self.invariant.world.parts);
    }
