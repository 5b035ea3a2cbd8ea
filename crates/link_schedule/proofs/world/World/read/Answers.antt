use Rattle.std.proofs.Common.{◌≡◌, ℕ, ◌-◌, ◌∷◌, List, Option, Some, IfSome, length, set, refl, sym, ap, ◌∙◌, subst}
use Rattle.std.specs.Arc.{arc_value}
use Rattle.device_types.specs.declared.event.Event.TheVariants.{Read}
use Rattle.device_types.specs.declared.event.EventAnswer.TheVariants as told
use Rattle.device_types.specs.declared.subscriber.DeviceId.{DeviceId}
use Rattle.replica_worker.specs.declared.hand.Hand.{Hand}
use Rattle.replica_worker.specs.Cache.{AreSessionsOf}
use Rattle.session_row.specs.Row.{RowState}
use Rattle.session_store.specs.Rows.{IsDevice}
use Rattle.schedule_laws.specs.Answer.{answer, history}
use Rattle.schedule_laws.specs.Counts.{hand}
use Rattle.link_schedule.specs.Told.{device_held, IsStillReady}
use Rattle.link_schedule.specs.View.{view_of}
use Rattle.link_schedule.specs.World.{ArePartsOf, IsWorld}
use Rattle.link_schedule.proofs.Noted.{ComesTo, notes, notes_quiet, gives}
use Rattle.link_schedule.proofs.Remembered.{hand_at, hands_set, hands_same, replica_within, cache_at, caches_set}
use Rattle.link_schedule.proofs.Replicas.{same_hand, device_within, device_stored, can_be_read, read_void, reads, reads_again}
use Rattle.link_schedule.proofs.world.World.read.Goals as goal
use Rattle.link_schedule.proofs.world.World.read.Goals.{After-index_mut, In_ok-answer, In-Some-still_ready}

pub still_ready-requires : goal.still_ready-requires
still_ready-requires c =
    let w = view_of c.self.inside in
    let is = c.self.invariant.world in
    let there = device_stored w.setting (history w.setting w.events) w.parts c.args.r c.index.result.now.hand c.in-Some.d is.setting is.lawful (hand_at c.self.inside.replicas.items (c.args.r - 1) c.index.result.now c.index.ensures) (c.in-Some.ensures ∙ ap device_held c.hand-hand.ensures) (c.requires.0, c.if-r-self.false) is.parts in
    subst (λ (held : Option DeviceId). IfSome held (λ d. IsDevice (length w.parts.rows) d.0)) c.in-Some.ensures there

-- nothing has changed since the row was read
not_changed : (c : In-Some-still_ready) → let w = view_of c.self.inside in let H = history w.setting w.events in
    (told.Ready c.in-Some-still_ready.version ≡ answer w.setting H (Read c.args.r)) × ((q : ℕ) → hand q ((Read c.args.r, told.Ready c.in-Some-still_ready.version) ∷ H) ≡ hand q H)
not_changed c =
    let w = view_of c.self.inside in
    let is = c.self.invariant.world in
    reads_again w.setting (history w.setting w.events) w.parts c.args.r c.in-Some-still_ready.version c.index.result.now.hand is.lawful (hand_at c.self.inside.replicas.items (c.args.r - 1) c.index.result.now c.index.ensures) (subst (λ (held : Hand). IsStillReady w.parts.rows held c.in-Some-still_ready.version) c.hand-hand.ensures c.in-Some-still_ready.ensures) (c.requires.0, c.if-r-self.false) is.parts

pub invariant_of-self-in-Some-still_ready : goal.invariant_of-self-in-Some-still_ready
invariant_of-self-in-Some-still_ready c =
    let w = view_of c.self.inside in
    let same = not_changed (goal.at.invariant_of-self-in-Some-still_ready c).In-Some-still_ready in
    record {
      charter = c.self.invariant.charter;
      caches = c.self.invariant.caches;
      world = notes_quiet w (Read c.args.r) (told.Ready c.in-Some-still_ready.version) _ c.noted-in-Some-still_ready.ensures.events c.self.invariant.world c.requires same.0 refl same.1;
    }

pub returns-in-Some-still_ready-clause-ok : goal.returns-in-Some-still_ready-clause-ok
returns-in-Some-still_ready-clause-ok c =
    let w = view_of c.self.inside in
    let same = not_changed (goal.at.returns-in-Some-still_ready-clause-ok c).In-Some-still_ready in
    gives c.args.self.now w (Read c.args.r) c.noted-in-Some-still_ready.result _ _ c.self.view_is c.noted-in-Some-still_ready.ensures.events (c.noted-in-Some-still_ready.ensures.answer ∙ same.0)

pub row_at-row-requires : goal.row_at-row-requires
row_at-row-requires c =
    let w = view_of c.self.inside in
    let is = c.self.invariant.world in
    device_within w.setting (history w.setting w.events) w.parts c.args.r c.index.result.now.hand c.in-Some.d is.setting is.lawful (hand_at c.self.inside.replicas.items (c.args.r - 1) c.index.result.now c.index.ensures) (c.in-Some.ensures ∙ ap device_held c.hand-hand.ensures) (c.requires.0, c.if-r-self.false) is.parts

-- the hand that is read is the one whose device was asked for
held_there : (c : After-index_mut) → Some c.in-Some.d ≡ device_held c.index_mut.result.now.hand
held_there c =
    let w = view_of c.self.inside in
    let same = same_hand w.setting (history w.setting w.events) w.parts c.args.r c.index.result.now.hand c.index_mut.result.now.hand (hand_at c.self.inside.replicas.items (c.args.r - 1) c.index.result.now c.index.ensures) (hand_at c.self.inside.replicas.items (c.args.r - 1) c.index_mut.result.now c.index_mut.ensures.value) (c.requires.0, c.if-r-self.false) c.self.invariant.world.parts in
    c.in-Some.ensures ∙ ap device_held (c.hand-hand.ensures ∙ same)

pub told-requires-clause-held : goal.told-requires-clause-held
told-requires-clause-held c =
    let w = view_of c.self.inside in
    let is = c.self.invariant.world in
    let held = held_there (goal.at.told-requires-clause-held c).After-index_mut in
    can_be_read w.setting (history w.setting w.events) w.parts c.args.r c.index_mut.result.now.hand c.in-Some.d is.setting is.lawful (hand_at c.self.inside.replicas.items (c.args.r - 1) c.index_mut.result.now c.index_mut.ensures.value) held (c.requires.0, c.if-r-self.false) is.parts

was_read : (c : In_ok-answer) → let w = view_of c.self.inside in
    Some c.in-Some.d ≡ device_held c.index_mut.result.now.hand → ComesTo w (Read c.args.r) c.in_ok-answer.answer (record w.parts { hands = set w.parts.hands (c.args.r - 1) c.told.new.replica.hand })
was_read c held =
    let w = view_of c.self.inside in
    let is = c.self.invariant.world in
    let both = reads w.setting (history w.setting w.events) w.parts c.args.r c.index_mut.result.now.hand c.told.new.replica.hand c.in-Some.d c.row_at-row.result.now c.in_ok-answer.answer is.setting is.lawful (hand_at c.self.inside.replicas.items (c.args.r - 1) c.index_mut.result.now c.index_mut.ensures.value) held c.in_ok-answer.ensures.hand c.in_ok-answer.ensures.answer c.row_at-row.ensures.row (c.requires.0, c.if-r-self.false) is.parts in
    record { event = c.requires; given = both.0; parts = both.1 }

pub told-requires-clause-remembers : goal.told-requires-clause-remembers
told-requires-clause-remembers c =
    let w = view_of c.self.inside in
    let replicas = c.self.inside.replicas.items in
    let within = replica_within w.setting (history w.setting w.events) w.parts replicas c.args.r refl (c.requires.0, c.if-r-self.false) c.self.invariant.world.parts in
    subst (λ charter. AreSessionsOf charter c.index_mut.result.now.cache) (sym c.self.invariant.charter)
    (cache_at (arc_value c.self.inside.law.charter) replicas (c.args.r - 1) c.index_mut.result.now c.self.invariant.caches within c.index_mut.ensures.value)

pub invariant_of-self-2 : goal.invariant_of-self-2
invariant_of-self-2 c =
    let w = view_of c.self.inside in
    let e = Read c.args.r in
    let path = goal.at.invariant_of-self-2 c in
    let made = was_read path.In_ok-answer (held_there path.After-index_mut) in
    let charter = c.told.ensures.charter ∙ c.self.invariant.charter in
    let replicas = c.self.inside.replicas.items in
    record {
      charter = charter;
      caches = caches_set (arc_value c.self.inside.law.charter) replicas (c.args.r - 1) c.told.new.replica c.self.invariant.caches (subst (λ x. AreSessionsOf x c.told.new.replica.cache) charter c.told.ensures.remembers);
      world = notes w e c.in_ok-answer.answer _ _ c.noted-2.ensures.events c.self.invariant.world made.event made.given
          (subst (λ (held : List Hand). ArePartsOf w.setting ((e, c.in_ok-answer.answer) ∷ history w.setting w.events) (record w.parts { rows = c.told.new.store.rows; hands = held })) (sym (hands_set replicas (c.args.r - 1) c.told.new.replica))
          (subst (λ (rows : List RowState). ArePartsOf w.setting ((e, c.in_ok-answer.answer) ∷ history w.setting w.events) (record w.parts { rows = rows; hands = set w.parts.hands (c.args.r - 1) c.told.new.replica.hand })) (sym c.told.ensures.store) made.parts));
    }

pub returns-clause-ok : goal.returns-clause-ok
returns-clause-ok c =
    let w = view_of c.self.inside in
    let path = goal.at.returns-clause-ok c in
    let made = was_read path.In_ok-answer (held_there path.After-index_mut) in
    gives c.args.self.now w (Read c.args.r) c.noted-2.result _ _ c.self.view_is c.noted-2.ensures.events (c.noted-2.ensures.answer ∙ made.given)

pub returns-in_default-clause-ok : goal.returns-in_default-clause-ok
returns-in_default-clause-ok c =
    let w = view_of c.self.inside in
    let at = hand_at c.self.inside.replicas.items (c.args.r - 1) c.index.result.now c.index.ensures in
    let void = read_void w.setting (history w.setting w.events) w.parts c.args.r c.index.result.now.hand at (c.in_default.ensures ∙ ap device_held c.hand-hand.ensures) (c.requires.0, c.if-r-self.false) c.self.invariant.world.parts in
    gives c.args.self.now w (Read c.args.r) c.noted-in_default.result _ _ c.self.view_is c.noted-in_default.ensures.events (c.noted-in_default.ensures.answer ∙ void)

pub invariant_of-self-in_err-answer : goal.invariant_of-self-in_err-answer
invariant_of-self-in_err-answer c =
    let w = view_of c.self.inside in
    let replicas = c.self.inside.replicas.items in
    let told = c.in_err-answer.ensures in
    let charter = told.charter ∙ c.self.invariant.charter in
    let hands = hands_same replicas (c.args.r - 1) c.index_mut.result.now c.told.new.replica c.index_mut.ensures.value told.err in
    record {
      charter = charter;
      caches = caches_set (arc_value c.self.inside.law.charter) replicas (c.args.r - 1) c.told.new.replica c.self.invariant.caches (subst (λ x. AreSessionsOf x c.told.new.replica.cache) charter told.remembers);
      world = subst (λ (held : List Hand). IsWorld (record w { parts = record w.parts { rows = c.told.new.store.rows; hands = held } })) (sym hands)
          (subst (λ (rows : List RowState). IsWorld (record w { parts = record w.parts { rows = rows } })) (sym told.store) c.self.invariant.world);
    }
