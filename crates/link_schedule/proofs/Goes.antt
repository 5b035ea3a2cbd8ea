-- A world that goes on loses nothing.
use Rattle.std.proofs.Common.{◌≡◌, ⊎_elim, ℕ, ◌+◌, ◌*◌, ◌≤◌, ◌<◌, List, [], ◌∷◌, ◌++◌, length, refl, sym, ap, ◌∙◌, subst, arith, add-one, length-append}
use Rattle.std.proofs.lemmas.Bool.{cases_lt}
use Rattle.device_types.specs.declared.event.Event.{Event}
use Rattle.device_types.specs.declared.event.Event.TheVariants.{Reply, Settle}
use Rattle.device_types.specs.declared.event.EventAnswer.{EventAnswer}
use Rattle.device_types.specs.declared.event.Lane.{Lane}
use Rattle.device_types.specs.declared.event.Lane.TheVariants.{Down, Gateway, Subscriber}
use Rattle.device_types.specs.declared.subscriber.DeviceId.{DeviceId}
use Rattle.device_types.specs.Journal.{pushed_count, taken_count, effects_of}
use Rattle.device_types.specs.Numbers.{IsWithin}
use Rattle.device_types.proofs.Courses.{few_entries}
use Rattle.schedule_laws.specs.Answer.{turn, history, Lawful}
use Rattle.schedule_laws.specs.Counts.{Turn, acked, settled, journal}
use Rattle.schedule_laws.specs.Setting.{Setting, row_of, messages_of, message_count, entries_to, entries_of}
use Rattle.link_schedule.specs.Settled.{turns_in, journal_in, commits_in, acked_in, accepts_in, settles_in, GoesOn, IsWholeLane, IsDone, IsClearLane, spent_in, Pays, PaysFor, cost, cost_to}
use Rattle.link_schedule.specs.World.{WorldState, IsWorld, Answers}
use Rattle.schedule_laws.proofs.EachAnswer.{history_more}
use Rattle.schedule_laws.proofs.Laws.{version_is, accepted_bound, settled_bound}
use Rattle.schedule_laws.proofs.Runs.{Begins-refl, Begins-trans, Begins-length, effects_begin, to_alone}
use Rattle.schedule_laws.proofs.Steps.{whole_stays, commits_behind, accepted_behind, settled_behind, reply_acknowledged, effect_settled}

-- ---- one event more

pub goes_refl : (w : WorldState) → GoesOn w w
goes_refl w = record { setting = refl; events = Begins-refl w.events }

pub goes_same : (old new : WorldState) → new ≡ old → GoesOn old new
goes_same old new same = subst (λ (w : WorldState). GoesOn old w) (sym same) (goes_refl old)

pub goes_trans : (a b c : WorldState) → GoesOn a b → GoesOn b c → GoesOn a c
goes_trans a b c g h = record { setting = h.setting ∙ g.setting; events = Begins-trans a.events b.events c.events g.events h.events }

pub goes_one : (old new : WorldState) (e : Event) (a : EventAnswer) → Answers old new e a → GoesOn old new
goes_one old new e a x = record { setting = x.same; events = (e ∷ [], sym x.more) }

pub one_more : (old new : WorldState) (e : Event) (a : EventAnswer) → Answers old new e a → length new.events ≡ length old.events + 1
one_more old new e a x = ap length x.more ∙ length-append old.events (e ∷ [])

-- what one event makes of a world whose turns are known
pub turned : (old new : WorldState) (e : Event) (a : EventAnswer) (s : Setting) (H : List Turn) → Answers old new e a → old.setting ≡ s → turns_in old ≡ H → (new.setting ≡ s) × (turns_in new ≡ turn s H e)
turned old new e a s H x is h = (
  x.same ∙ is,
  ap (λ (y : Setting). history y new.events) x.same ∙ ap (history old.setting) x.more ∙ history_more old.setting old.events e ∙ ap (λ (K : List Turn). turn old.setting K e) h ∙ ap (λ (y : Setting). turn y H e) is,
)

-- ---- counts do not fall

pub turns_later : (old new : WorldState) (g : GoesOn old new) → turns_in new ≡ history old.setting (old.events ++ g.events.0)
turns_later old new g = ap (λ (s : Setting). history s new.events) g.setting ∙ ap (history old.setting) (sym g.events.1)

pub commits_grow : (old new : WorldState) (d : ℕ) → GoesOn old new → commits_in old d ≤ commits_in new d
commits_grow old new d g = rw (turns_later old new g) (commits_behind old.setting d old.events g.events.0)

pub accepts_grow : (old new : WorldState) (d : ℕ) (l : Lane) → GoesOn old new → accepts_in old d l ≤ accepts_in new d l
accepts_grow old new d l g = rw (turns_later old new g) (accepted_behind old.setting d l old.events g.events.0)

pub settles_grow : (old new : WorldState) (d : ℕ) (l : Lane) → GoesOn old new → settles_in old d l ≤ settles_in new d l
settles_grow old new d l g = rw (turns_later old new g) (settled_behind old.setting d l old.events g.events.0)

-- ---- what is done stays done

pub journal_same : (old new : WorldState) (d : ℕ) → GoesOn old new → commits_in new d ≡ commits_in old d → journal_in new d ≡ journal_in old d
journal_same old new d g e = ap (λ (v : ℕ). entries_to new.setting d v) e ∙ ap (λ (s : Setting). entries_to s d (commits_in old d)) g.setting

pub journal_stays : (old new : WorldState) (d : ℕ) → GoesOn old new → journal_in old d ≡ entries_of old.setting d → journal_in new d ≡ entries_of new.setting d
journal_stays old new d g whole =
    let v = commits_in new d in
    subst (λ (s : Setting). entries_to s d v ≡ entries_of s d) (sym g.setting)
    (whole_stays (row_of old.setting d) (messages_of old.setting d) (commits_in old d) v (commits_grow old new d g) whole)

pub lane_stays : (old new : WorldState) (d : ℕ) (l : Lane) → GoesOn old new → IsWorld new → journal_in new d ≡ entries_of new.setting d → IsWholeLane old d l → IsWholeLane new d l
lane_stays old new d l g is j whole =
    let up = accepts_grow old new d l g in
    let low = accepted_bound new.setting d l (turns_in new) is.lawful in
    let a : pushed_count l (journal_in new d) ≡ pushed_count l (entries_of new.setting d) = ap (pushed_count l) j in
    let b : pushed_count l (entries_of new.setting d) ≡ pushed_count l (entries_of old.setting d) = ap (λ (s : Setting). pushed_count l (entries_of s d)) g.setting in
    omega arith

pub done_stays : (old new : WorldState) (d : ℕ) → GoesOn old new → IsWorld new → IsDone old d → IsDone new d
done_stays old new d g is done =
    let j = journal_stays old new d g done.journal in
    record { journal = j; lanes = λ l. lane_stays old new d l g is j (done.lanes l) }

whole_lanes : (w : WorldState) (d : ℕ) → IsWholeLane w d Down → IsWholeLane w d Gateway → IsWholeLane w d Subscriber → (l : Lane) → IsWholeLane w d l
whole_lanes w d down gateway subscriber Down = down
whole_lanes w d down gateway subscriber Gateway = gateway
whole_lanes w d down gateway subscriber Subscriber = subscriber

-- a lane of which all that was made was accepted, of a whole journal
lane_whole : (w : WorldState) (d : ℕ) (l : Lane) → journal_in w d ≡ entries_of w.setting d → accepts_in w d l ≡ pushed_count l (journal_in w d) → IsWholeLane w d l
lane_whole w d l j e = e ∙ ap (pushed_count l) j

-- where each lane is so, the device is done
pub done_of : (old new : WorldState) (d : ℕ) → GoesOn old new → journal_in old d ≡ entries_of old.setting d → accepts_in new d Down ≡ pushed_count Down (journal_in new d) → accepts_in new d Gateway ≡ pushed_count Gateway (journal_in new d) → accepts_in new d Subscriber ≡ pushed_count Subscriber (journal_in new d) → IsDone new d
done_of old new d g whole down gateway subscriber =
    let j = journal_stays old new d g whole in
    record { journal = j; lanes = whole_lanes new d (lane_whole new d Down j down) (lane_whole new d Gateway j gateway) (lane_whole new d Subscriber j subscriber) }

-- and where the journal stays, one of which all that was made was accepted stays such a one
pub lane_kept : (old new : WorldState) (d : ℕ) (l : Lane) → GoesOn old new → IsWorld new → commits_in new d ≡ commits_in old d → accepts_in old d l ≡ pushed_count l (journal_in old d) → accepts_in new d l ≡ pushed_count l (journal_in new d)
lane_kept old new d l g is same all =
    let up = accepts_grow old new d l g in
    let low = accepted_bound new.setting d l (turns_in new) is.lawful in
    let made = ap (pushed_count l) (journal_same old new d g same) in
    omega arith

-- ---- how many entries there are

pub commits_most : (w : WorldState) (d : ℕ) → IsWorld w → commits_in w d ≤ length (entries_of w.setting d)
commits_most w d is =
    let exact = version_is w.setting d (turns_in w) is.lawful in
    let low = Begins-length (journal_in w d) (entries_of w.setting d) (to_alone (row_of w.setting d) (messages_of w.setting d) (commits_in w d)) in
    omega arith

pub commits_few : (w : WorldState) (d : ℕ) → IsWorld w → commits_in w d ≤ 3 * message_count w.setting d
commits_few w d is =
    let most = commits_most w d is in
    let few = few_entries (row_of w.setting d) (messages_of w.setting d) in
    omega arith

-- ---- what it takes

-- what is spent does not fall
pub spent_grows : (old new : WorldState) (d : ℕ) → GoesOn old new → spent_in old d ≤ spent_in new d
spent_grows old new d g =
    let a = commits_grow old new d g in
    let down = accepts_grow old new d Down g in
    let gateway = accepts_grow old new d Gateway g in
    let subscriber = accepts_grow old new d Subscriber g in
    omega arith

accepts_most : (w : WorldState) (d : ℕ) (l : Lane) → IsWorld w → accepts_in w d l ≤ pushed_count l (entries_of w.setting d)
accepts_most w d l is =
    let A = entries_of w.setting d in
    let low = accepted_bound w.setting d l (turns_in w) is.lawful in
    let begins = to_alone (row_of w.setting d) (messages_of w.setting d) (commits_in w d) in
    let most = Begins-length (effects_of l (journal_in w d)) (effects_of l A) (effects_begin l (journal_in w d) A begins) in
    omega arith

-- and it is at most the cost
pub spent_most : (w : WorldState) (d : ℕ) → IsWorld w → spent_in w d + 3 ≤ cost w.setting d
spent_most w d is =
    let a = commits_most w d is in
    let down = accepts_most w d Down is in
    let gateway = accepts_most w d Gateway is in
    let subscriber = accepts_most w d Subscriber is in
    omega arith

pub pays_trans : (a b c : WorldState) (d : ℕ) → Pays a b d → Pays b c d → Pays a c d
pays_trans a b c d p q = omega arith

pub pays_entry : (old new : WorldState) (d : ℕ) → GoesOn old new → commits_in new d ≡ commits_in old d + 1 → length new.events ≤ length old.events + 5 → Pays old new d
pays_entry old new d g e few =
    let down = accepts_grow old new d Down g in
    let gateway = accepts_grow old new d Gateway g in
    let subscriber = accepts_grow old new d Subscriber g in
    omega arith

pub pays_effect : (old new : WorldState) (d : ℕ) (l : Lane) → GoesOn old new → accepts_in new d l ≡ accepts_in old d l + 1 → length new.events ≡ length old.events + 2 → Pays old new d
pays_effect old new d Down g e few =
    let a = commits_grow old new d g in
    let gateway = accepts_grow old new d Gateway g in
    let subscriber = accepts_grow old new d Subscriber g in
    omega arith
pays_effect old new d Gateway g e few =
    let a = commits_grow old new d g in
    let down = accepts_grow old new d Down g in
    let subscriber = accepts_grow old new d Subscriber g in
    omega arith
pays_effect old new d Subscriber g e few =
    let a = commits_grow old new d g in
    let down = accepts_grow old new d Down g in
    let gateway = accepts_grow old new d Gateway g in
    omega arith

-- one device more
pub cost_more : (a b e : WorldState) (d : ℕ) → GoesOn a b → GoesOn b e → IsWorld e → PaysFor b e (d + 1) 3 → length b.events ≤ length a.events + cost_to a.setting d → length e.events ≤ length a.events + cost_to a.setting (d + 1)
cost_more a b e d g h is paid few =
    let most = spent_most e (d + 1) is in
    let same : cost e.setting (d + 1) ≡ cost a.setting (d + 1) = ap (λ (s : Setting). cost s (d + 1)) (h.setting ∙ g.setting) in
    let more : cost_to a.setting (d + 1) ≡ cost_to a.setting d + cost a.setting (d + 1) = rw (add-one d) refl in
    omega arith

-- the devices up to the next one are done
pub done_more : (b e : WorldState) (i : ℕ) → GoesOn b e → IsWorld e → ((d : ℕ) → IsWithin i d → IsDone b d) → IsDone e (i + 1) → (d : ℕ) → IsWithin (i + 1) d → IsDone e d
done_more b e i g is before here d within =
    ⊎_elim
    (λ (gt : i < d). let high = within.1 in let same : i + 1 ≡ d = omega arith in subst (IsDone e) same here)
    (λ (le : d ≤ i). done_stays b e d g is (before d (within.0, le)))
    (cases_lt i d)

-- ---- what was accepted is settled

-- by the acknowledgement of the last effect that was accepted
pub settled_to : (old new : WorldState) (e : DeviceId) (l : Lane) (k : ℕ) (a : EventAnswer) → Answers old new (Settle e l k) a → IsWorld old → k ≡ accepts_in old e.0 l → 1 ≤ k → accepts_in old e.0 l ≤ settles_in new e.0 l
settled_to old new e l k a x is last low =
    let t = turned old new (Settle e l k) a old.setting (turns_in old) x refl refl in
    let up = effect_settled old.setting (turns_in old) e l k is.lawful low (omega arith) in
    let here = ap (λ (H : List Turn). settled e.0 l H) t.1 in
    omega arith

-- what was accepted before is settled later on too
pub settled_still : (a b c e : WorldState) (d : ℕ) (l : Lane) → GoesOn a b → GoesOn c e → accepts_in b d l ≤ settles_in c d l → accepts_in a d l ≤ settles_in e d l
settled_still a b c e d l g h up =
    let before = accepts_grow a b d l g in
    let behind = settles_grow c e d l h in
    omega arith

pub by_lane : (old new : WorldState) (d : ℕ) → accepts_in old d Down ≤ settles_in new d Down → accepts_in old d Gateway ≤ settles_in new d Gateway → accepts_in old d Subscriber ≤ settles_in new d Subscriber → (l : Lane) → accepts_in old d l ≤ settles_in new d l
by_lane old new d down gateway subscriber Down = down
by_lane old new d down gateway subscriber Gateway = gateway
by_lane old new d down gateway subscriber Subscriber = subscriber

-- a lane of which all was accepted, and all that was accepted is settled, is clear
pub lane_clear : (old new : WorldState) (d : ℕ) (l : Lane) → GoesOn old new → IsWorld new → IsDone old d → IsDone new d → accepts_in old d l ≤ settles_in new d l → IsClearLane new d l
lane_clear old new d l g is before done up =
    let low = settled_bound new.setting d l (turns_in new) is.lawful in
    let old_whole = before.lanes l in
    let new_whole = done.lanes l in
    let same : pushed_count l (entries_of new.setting d) ≡ pushed_count l (entries_of old.setting d) = ap (λ (s : Setting). pushed_count l (entries_of s d)) g.setting in
    omega arith

-- and stays so
pub clear_stays : (old new : WorldState) (d : ℕ) (l : Lane) → GoesOn old new → IsWorld new → IsDone new d → IsClearLane old d l → IsClearLane new d l
clear_stays old new d l g is done clear =
    let low = settled_bound new.setting d l (turns_in new) is.lawful in
    let up = settles_grow old new d l g in
    let whole = done.lanes l in
    let same : pushed_count l (entries_of new.setting d) ≡ pushed_count l (entries_of old.setting d) = ap (λ (s : Setting). pushed_count l (entries_of s d)) g.setting in
    omega arith

-- the devices up to the next one are clear
pub clear_more : (b e : WorldState) (i : ℕ) → GoesOn b e → IsWorld e → ((d : ℕ) → IsWithin (i + 1) d → IsDone e d) → ((d : ℕ) (l : Lane) → IsWithin i d → IsClearLane b d l) → ((l : Lane) → IsClearLane e (i + 1) l) → (d : ℕ) (l : Lane) → IsWithin (i + 1) d → IsClearLane e d l
clear_more b e i g is done before here d l within =
    ⊎_elim
    (λ (gt : i < d). let high = within.1 in let same : i + 1 ≡ d = omega arith in subst (λ (n : ℕ). IsClearLane e n l) same (here l))
    (λ (le : d ≤ i). clear_stays b e d l g is (done d within) (before d l (within.0, le)))
    (cases_lt i d)

-- ---- an acknowledged reply

pub acknowledged_in : (w : WorldState) (s : Setting) (H : List Turn) (e : DeviceId) (n : ℕ) → w.setting ≡ s → turns_in w ≡ turn s H (Reply e n) → n ≡ taken_count (journal s e.0 H) → Lawful s H → acked e.0 H < n → taken_count (journal_in w e.0) ≤ acked_in w e.0
acknowledged_in w s H e n same is taken L more =
    let a = ap (acked e.0) is ∙ reply_acknowledged s H e n taken L more in
    let j : taken_count (journal_in w e.0) ≡ taken_count (journal s e.0 H) = ap (λ (x : Setting). taken_count (journal x e.0 (turns_in w))) same ∙ ap (λ (K : List Turn). taken_count (journal s e.0 K)) is in
    omega arith
