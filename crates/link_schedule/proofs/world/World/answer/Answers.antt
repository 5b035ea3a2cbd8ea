use Rattle.std.proofs.Common.{◌≡◌, ◌-◌, cond, take, Some, None, refl, sym, ap, ◌∙◌, arith}
use Rattle.std.specs.Prelude.{nat_le}
use Rattle.std.specs.Arc.{arc_value}
use Rattle.device_types.specs.declared.event.Event.TheVariants.{Answer}
use Rattle.device_types.specs.declared.event.EventAnswer.TheVariants as told
use Rattle.device_types.specs.declared.input.Input.TheVariants as inputs
use Rattle.device_types.specs.PeerAnswer.{answer_of}
use Rattle.replica_worker.specs.declared.hand.Hand.TheVariants as hands
use Rattle.replica_worker.specs.Replica.{ReplicaState}
use Rattle.schedule_laws.specs.Answer.{answer, history}
use Rattle.schedule_laws.specs.Counts.{accepted}
use Rattle.schedule_laws.specs.Setting.{row_of}
use Rattle.link_schedule.specs.View.{view_of}
use Rattle.link_schedule.specs.World.{accepted_effects}
use Rattle.schedule_laws.specs.Packets.{if_so}
use Rattle.schedule_laws.proofs.Comparisons.{le_of}
use Rattle.link_schedule.proofs.Events.{takes_answer}
use Rattle.link_schedule.proofs.Given.{given_is, some_given, none_given, calls_few}
use Rattle.schedule_laws.proofs.EachAnswer.{answer_told, no_replica}
use Rattle.link_schedule.proofs.Noted.{event_in, notes_void, notes_hand}
use Rattle.link_schedule.proofs.Remembered.{replica_within, caches_kept}
use Rattle.link_schedule.proofs.world.World.answer.Goals as goal
use Rattle.link_schedule.proofs.world.World.answer.Goals.{In_ok-answer}

pub invariant_of-self : goal.invariant_of-self
invariant_of-self c =
    let w = view_of c.self.inside in
    let e = Answer c.args.r c.args.d c.args.lane c.args.k in
    let i = event_in c.args.self.now w e c.self.view_is c.requires in
    record {
      charter = c.self.invariant.charter;
      caches = c.self.invariant.caches;
      world = notes_void w e told.VoidReplica _ c.noted.ensures.events c.self.invariant.world i (no_replica w.setting c.args.r _ c.if-r-self.true) refl;
    }

pub given-requires-clause-count : goal.given-requires-clause-count
given-requires-clause-count c =
    let w = view_of c.self.inside in
    let i = event_in c.args.self.now w (Answer c.args.r c.args.d c.args.lane c.args.k) c.self.view_is c.requires in
    let is = c.self.invariant.world in
    let few = calls_few w.setting (history w.setting w.events) w.parts c.args.d.0 is.setting is.lawful is.parts i.1 in
    rw c.row_at-row.ensures.number (omega arith)

found : (c : In_ok-answer) → let w = view_of c.self.inside in let H = history w.setting w.events in let d = c.args.d.0 in let l = c.args.lane in
    c.in_ok-answer.field-0 ≡ if_so (nat_le c.args.k (accepted d l H)) (Some (answer_of (row_of w.setting d) (take c.args.k (accepted_effects w.setting l H d))))
found c =
    let w = view_of c.self.inside in
    let i = event_in c.args.self.now w (Answer c.args.r c.args.d c.args.lane c.args.k) c.self.view_is c.requires in
    let is = c.self.invariant.world in
    given_is w.setting (history w.setting w.events) w.parts c.args.d.0 c.args.lane c.args.k c.row_at-row.result.now c.in_ok-answer.field-0 is.lawful is.parts i.1 i.2 c.row_at-row.ensures.row
    (rw c.row_at-row.ensures.number at c.in_ok-answer.ensures)

pub invariant_of-self-in_default : goal.invariant_of-self-in_default
invariant_of-self-in_default c =
    let w = view_of c.self.inside in
    let H = history w.setting w.events in
    let d = c.args.d in
    let l = c.args.lane in
    let e = Answer c.args.r d l c.args.k in
    let i = event_in c.args.self.now w e c.self.view_is c.requires in
    let is = found (goal.at.invariant_of-self-in_default c).In_ok-answer in
    let none : c.in_ok-answer.field-0 ≡ None = cc in
    let test = none_given (accepted d.0 l H) c.args.k (answer_of (row_of w.setting d.0) (take c.args.k (accepted_effects w.setting l H d.0))) (sym none ∙ is) in
    let given : told.VoidLink ≡ answer w.setting H e = sym (answer_told w.setting H c.args.r d l c.args.k c.self.invariant.world.lawful c.if-r-self.false i.3 ∙ ap (λ b. cond b told.Taken told.VoidLink) test) in
    record {
      charter = c.self.invariant.charter;
      caches = c.self.invariant.caches;
      world = notes_void w e told.VoidLink _ c.noted-in_default.ensures.events c.self.invariant.world i given refl;
    }

pub invariant_of-self-2 : goal.invariant_of-self-2
invariant_of-self-2 c =
    let w = view_of c.self.inside in
    let H = history w.setting w.events in
    let d = c.args.d in
    let l = c.args.lane in
    let e = Answer c.args.r d l c.args.k in
    let i = event_in c.args.self.now w e c.self.view_is c.requires in
    let is = found (goal.at.invariant_of-self-2 c).In_ok-answer in
    let both = some_given (accepted d.0 l H) c.args.k c.in-Some.answer (answer_of (row_of w.setting d.0) (take c.args.k (accepted_effects w.setting l H d.0))) (sym c.in-Some.is ∙ is) in
    let given : told.Taken ≡ answer w.setting H e = sym (answer_told w.setting H c.args.r d l c.args.k c.self.invariant.world.lawful c.if-r-self.false i.3 ∙ ap (λ b. cond b told.Taken told.VoidLink) both.0) in
    let replicas = c.self.inside.replicas.items in
    record {
      charter = c.self.invariant.charter;
      caches = caches_kept (arc_value c.self.inside.law.charter) replicas (c.args.r - 1) c.index_mut.result.now c.take.new.self c.self.invariant.caches
          (replica_within w.setting H w.parts replicas c.args.r refl (i.0.0, c.if-r-self.false) c.self.invariant.world.parts) c.index_mut.ensures.value (ap (λ (x : ReplicaState). x.cache) c.take.ensures);
      world = notes_hand w e told.Taken c.args.r replicas c.take.new.self (hands.Taken d (inputs.Answer l c.args.k c.in-Some.answer)) _ (ap (λ (x : ReplicaState). x.hand) c.take.ensures ∙ ap (hands.Taken d) c.in_ok-input.ensures) c.noted-2.ensures.events c.self.invariant.world i given
          (takes_answer w.setting H w.parts c.args.r d l c.args.k c.in-Some.answer both.1 (le_of c.args.k (accepted d.0 l H) both.0) (i.0.0, c.if-r-self.false) c.self.invariant.world.parts);
    }
