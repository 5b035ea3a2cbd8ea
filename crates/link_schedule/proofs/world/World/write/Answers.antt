use Rattle.std.proofs.Common.{◌≡◌, ◌-◌, ◌∷◌, List, set, refl, sym, ◌∙◌, subst}
use Rattle.std.specs.Arc.{arc_value}
use Rattle.device_types.specs.declared.event.Event.TheVariants.{Write}
use Rattle.device_types.specs.declared.event.EventAnswer.TheVariants as told
use Rattle.replica_worker.specs.declared.hand.Hand.{Hand}
use Rattle.replica_worker.specs.declared.hand.Hand.TheVariants as hands
use Rattle.replica_worker.specs.Cache.{AreSessionsOf}
use Rattle.session_store.specs.Rows.{StoreState}
use Rattle.schedule_laws.specs.Answer.{history}
use Rattle.schedule_laws.specs.Counts.{hand}
use Rattle.link_schedule.specs.Told.{commit_answer}
use Rattle.link_schedule.specs.View.{view_of}
use Rattle.link_schedule.specs.World.{hand_of, ArePartsOf, IsWorld}
use Rattle.link_schedule.proofs.Events.{write_void}
use Rattle.link_schedule.proofs.Noted.{ComesTo, notes, notes_void, gives}
use Rattle.link_schedule.proofs.Remembered.{hand_at, hands_set, hands_same, replica_within, cache_at, caches_set}
use Rattle.link_schedule.proofs.Replicas.{may_write, writes_held}
use Rattle.link_schedule.proofs.world.World.write.Goals as goal
use Rattle.link_schedule.proofs.world.World.write.Goals.{In_ok-commit}

pub invariant_of-self-in_default : goal.invariant_of-self-in_default
invariant_of-self-in_default c =
    let w = view_of c.self.inside in
    let H = history w.setting w.events in
    let is = c.self.invariant.world in
    let e = Write c.args.r in
    let is_hand : c.hand.result.now ≡ hand_of w.setting (hand c.args.r H) = c.hand.ensures ∙ hand_at c.self.inside.replicas.items (c.args.r - 1) c.index.result.now c.index.ensures ∙ is.parts.hands.at c.args.r c.index.result.now.hand (c.requires.0, c.if-r-self.false) in
    let n = c.in_default.not-Ready in
    let void = write_void w.setting H c.args.r (hand c.args.r H) (λ d v entry h. n d v entry (is_hand ∙ h)) refl c.if-r-self.false in
    record {
      charter = c.self.invariant.charter;
      caches = c.self.invariant.caches;
      world = notes_void w e told.VoidHand _ c.noted-in_default.ensures.events is c.requires void refl;
    }

pub written-requires-clause-may : goal.written-requires-clause-may
written-requires-clause-may c =
    let w = view_of c.self.inside in
    let is = c.self.invariant.world in
    may_write w.setting (history w.setting w.events) w.parts c.args.r c.index_mut.result.now.hand c.self.inside.store.charter is.setting is.lawful (hand_at c.self.inside.replicas.items (c.args.r - 1) c.index_mut.result.now c.index_mut.ensures.value) c.self.invariant.charter (c.requires.0, c.if-r-self.false) is.parts

pub written-requires-clause-remembers : goal.written-requires-clause-remembers
written-requires-clause-remembers c =
    let w = view_of c.self.inside in
    let replicas = c.self.inside.replicas.items in
    let within = replica_within w.setting (history w.setting w.events) w.parts replicas c.args.r refl (c.requires.0, c.if-r-self.false) c.self.invariant.world.parts in
    subst (λ charter. AreSessionsOf charter c.index_mut.result.now.cache) (sym c.self.invariant.charter)
    (cache_at (arc_value c.self.inside.law.charter) replicas (c.args.r - 1) c.index_mut.result.now c.self.invariant.caches within c.index_mut.ensures.value)

was_written : (c : In_ok-commit) → let w = view_of c.self.inside in
    ComesTo w (Write c.args.r) (commit_answer c.in_ok-commit.commit) (record w.parts { rows = c.written.new.store.rows; hands = set w.parts.hands (c.args.r - 1) hands.Empty })
was_written c =
    let w = view_of c.self.inside in
    let is = c.self.invariant.world in
    let both = writes_held w.setting (history w.setting w.events) w.parts c.args.r c.index_mut.result.now.hand c.self.inside.store c.written.new.store c.in_ok-commit.commit is.lawful (hand_at c.self.inside.replicas.items (c.args.r - 1) c.index_mut.result.now c.index_mut.ensures.value) refl c.in_ok-commit.ensures.store (c.requires.0, c.if-r-self.false) is.parts in
    record { event = c.requires; given = both.0; parts = both.1 }

pub invariant_of-self-2 : goal.invariant_of-self-2
invariant_of-self-2 c =
    let w = view_of c.self.inside in
    let e = Write c.args.r in
    let a = commit_answer c.in_ok-commit.commit in
    let made = was_written (goal.at.invariant_of-self-2 c).In_ok-commit in
    let charter = c.written.ensures.charter ∙ c.self.invariant.charter in
    let replicas = c.self.inside.replicas.items in
    record {
      charter = charter;
      caches = caches_set (arc_value c.self.inside.law.charter) replicas (c.args.r - 1) c.written.new.replica c.self.invariant.caches (subst (λ x. AreSessionsOf x c.written.new.replica.cache) charter c.written.ensures.remembers);
      world = notes w e a _ _ c.noted-2.ensures.events c.self.invariant.world made.event made.given
          (subst (λ (held : List Hand). ArePartsOf w.setting ((e, a) ∷ history w.setting w.events) (record w.parts { rows = c.written.new.store.rows; hands = held })) (sym (hands_set replicas (c.args.r - 1) c.written.new.replica))
          (subst (λ (h : Hand). ArePartsOf w.setting ((e, a) ∷ history w.setting w.events) (record w.parts { rows = c.written.new.store.rows; hands = set w.parts.hands (c.args.r - 1) h })) (sym c.in_ok-commit.ensures.empty) made.parts));
    }

pub returns-clause-ok : goal.returns-clause-ok
returns-clause-ok c =
    let w = view_of c.self.inside in
    let made = was_written (goal.at.returns-clause-ok c).In_ok-commit in
    gives c.args.self.now w (Write c.args.r) c.noted-2.result _ _ c.self.view_is c.noted-2.ensures.events (c.noted-2.ensures.answer ∙ c.commit_answer.ensures ∙ made.given)

pub returns-in_default : goal.returns-in_default
returns-in_default c =
    let w = view_of c.self.inside in
    let H = history w.setting w.events in
    let is = c.self.invariant.world in
    let is_hand : c.hand.result.now ≡ hand_of w.setting (hand c.args.r H) = c.hand.ensures ∙ hand_at c.self.inside.replicas.items (c.args.r - 1) c.index.result.now c.index.ensures ∙ is.parts.hands.at c.args.r c.index.result.now.hand (c.requires.0, c.if-r-self.false) in
    let n = c.in_default.not-Ready in
    let void = write_void w.setting H c.args.r (hand c.args.r H) (λ d v entry h. n d v entry (is_hand ∙ h)) refl c.if-r-self.false in
    record { ok = gives c.args.self.now w (Write c.args.r) c.noted-in_default.result _ _ c.self.view_is c.noted-in_default.ensures.events (c.noted-in_default.ensures.answer ∙ void); err = tt }

pub invariant_of-self-in_err-commit : goal.invariant_of-self-in_err-commit
invariant_of-self-in_err-commit c =
    let w = view_of c.self.inside in
    let replicas = c.self.inside.replicas.items in
    let written = c.in_err-commit.ensures in
    let charter = written.charter ∙ c.self.invariant.charter in
    let hands = hands_same replicas (c.args.r - 1) c.index_mut.result.now c.written.new.replica c.index_mut.ensures.value written.err in
    record {
      charter = charter;
      caches = caches_set (arc_value c.self.inside.law.charter) replicas (c.args.r - 1) c.written.new.replica c.self.invariant.caches (subst (λ x. AreSessionsOf x c.written.new.replica.cache) charter written.remembers);
      world = subst (λ (held : List Hand). IsWorld (record w { parts = record w.parts { rows = c.written.new.store.rows; hands = held } })) (sym hands)
          (subst (λ (store : StoreState). IsWorld (record w { parts = record w.parts { rows = store.rows } })) (sym written.store_err) c.self.invariant.world);
    }
