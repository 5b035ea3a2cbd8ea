use Rattle.std.proofs.Common.{◌≡◌, ◌-◌, refl, sym, ap, subst}
use Rattle.std.specs.Arc.{arc_value}
use Rattle.std.proofs.lemmas.List.Elements.{All-nil}
use Rattle.device_types.specs.declared.event.Event.TheVariants.{Stop}
use Rattle.device_types.specs.declared.event.EventAnswer.TheVariants as told
use Rattle.replica_worker.specs.declared.hand.Hand.TheVariants as hands
use Rattle.replica_worker.specs.Cache.{IsSessionOf, AreSessionsOf}
use Rattle.replica_worker.specs.Replica.{ReplicaState}
use Rattle.schedule_laws.specs.Answer.{answer, history}
use Rattle.schedule_laws.proofs.Comparisons.{le_true}
use Rattle.link_schedule.specs.View.{view_of}
use Rattle.link_schedule.proofs.Events.{stops}
use Rattle.link_schedule.proofs.Noted.{event_in, notes_hand}
use Rattle.link_schedule.proofs.Remembered.{caches_set}
use Rattle.link_schedule.proofs.world.World.stop.Goals as goal

pub invariant_of-self-2 : goal.invariant_of-self-2
invariant_of-self-2 c =
    let w = view_of c.self.inside in
    let H = history w.setting w.events in
    let e = Stop c.args.r in
    let i = event_in c.args.self.now w e c.self.view_is c.requires in
    let charter = arc_value c.self.inside.law.charter in
    let replicas = c.self.inside.replicas.items in
    let now = c.stop.new.self in
    let given : told.Stopped ≡ answer w.setting H e = rw (le_true c.args.r w.setting.replicas c.if-r-self.false) refl in
    record {
      charter = c.self.invariant.charter;
      caches = caches_set charter replicas (c.args.r - 1) now c.self.invariant.caches (subst (λ (x : ReplicaState). AreSessionsOf charter x.cache) (sym c.stop.ensures) (All-nil (IsSessionOf charter)));
      world = notes_hand w e told.Stopped c.args.r replicas now hands.Empty _ (ap (λ (x : ReplicaState). x.hand) c.stop.ensures) c.noted-2.ensures.events c.self.invariant.world i given
          (stops w.setting H w.parts c.args.r (i.0, c.if-r-self.false) c.self.invariant.world.parts);
    }
