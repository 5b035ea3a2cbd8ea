-- What the calls of the parts say, as the answer to the event, with the parts after it.
use Rattle.std.proofs.Common.{◌≡◌, ◌==◌, ℕ, ◌+◌, ◌-◌, ◌≤◌, ◌<◌, max, Bool, true, false, cond, List, [], ◌∷◌, length, set, get_or, Some, refl, sym, ap, ◌∙◌, subst, arith}
use Rattle.std.specs.Prelude.{nat_le, slice_get}
use Rattle.std.proofs.lemmas.List.{get_or_default, length-map, set-get_or}
use Rattle.std.proofs.lemmas.List.Elements.{All-get_or}
use Rattle.agent_resend.specs.declared.taken.DownTaken.TheVariants as down
use Rattle.agent_resend.specs.declared.taken.Taken.TheVariants as taken
use Rattle.agent_resend.specs.Window.{WindowState, reply_taken, after_reply, down_taken, after_down}
use Rattle.device_types.specs.declared.down.Down.{Down as DownMessage}
use Rattle.device_types.specs.declared.effect.Effect.TheVariants as effects
use Rattle.device_types.specs.declared.effect.GwCall.{GwCall}
use Rattle.device_types.specs.declared.effect.SubCall.{SubCall}
use Rattle.device_types.specs.declared.event.Event.TheVariants.{Read, Reply, Push, Effect, Settle}
use Rattle.device_types.specs.declared.event.EventAnswer.TheVariants as told
use Rattle.device_types.specs.declared.event.Lane.{Lane}
use Rattle.device_types.specs.declared.event.Lane.TheVariants.{Down, Gateway, Subscriber}
use Rattle.device_types.specs.declared.input.Input.{Input}
use Rattle.device_types.specs.declared.subscriber.DeviceId.{DeviceId}
use Rattle.device_types.specs.Journal.{effects_of, pushed_count, taken_count}
use Rattle.device_types.specs.Numbers.{IsWithin}
use Rattle.device_types.proofs.Courses.{few_pushed, few_entries}
use Rattle.effect_outbox.specs.Outbox.{LaneNumbers, number_on, with_number, settled_by}
use Rattle.session_row.specs.Row.{RowState, look_at as row_look}
use Rattle.session_store.specs.Rows.{opening_row, with_settled}
use Rattle.schedule_laws.specs.Answer.{look_answer, answer, Lawful}
use Rattle.schedule_laws.specs.Counts.{Turn, Arrival, hand, commits, acked, accepted, settled, effect_pushed, journal}
use Rattle.schedule_laws.specs.Input.{input_of}
use Rattle.schedule_laws.specs.Promise.{Holds}
use Rattle.schedule_laws.specs.Setting.{Setting, window, row_of, messages_of, entries_of}
use Rattle.link_schedule.specs.Told.{settle_answer, reply_answer, down_answer}
use Rattle.link_schedule.specs.World.{Parts, IsSetting, IsShort, row_in, row_after, IsWindowOf, AreGatewayCalls, AreSubscriberCalls, ArePartsOf}
use Rattle.link_schedule.proofs.Events.{window_read, stays, acknowledges}
use Rattle.schedule_laws.proofs.EachAnswer.{reply_old, reply_new, push_told, push_void, effect_next, effect_repeat, effect_ahead, settle_old, settle_new}
use Rattle.link_schedule.proofs.Lanes.{settled_is, accepted_length, accepts_down, settles}
use Rattle.schedule_laws.proofs.Laws.{taken_sent, version_is}
use Rattle.schedule_laws.proofs.Promises.{read_is, quiet_stays}
use Rattle.schedule_laws.proofs.Runs.{Begins-length, to_alone}
use Rattle.schedule_laws.proofs.Comparisons.{here, lt_false, le_of, gt_of, same_number}
use Rattle.link_schedule.proofs.Worlds.{held_arrival, look_same}

-- an item is written that is the same
same_items : {X : Type 0} (xs : List X) (i : ℕ) (was now : X) → was ≡ get_or xs i was → now ≡ was → set xs i now ≡ xs
same_items xs i was now at e = ap (set xs i) (e ∙ at) ∙ set-get_or xs i was

-- ---- a reply at the window

-- what the window makes of it
reply_at : (w : WindowState) (n : ℕ) (b : Bool) → n ≤ w.sent → nat_le n w.line.acked ≡ b → reply_taken w n ≡ cond b (taken.Old w.line.acked) (taken.Acked n)
reply_at w n b low e = rw (lt_false w.sent n low, e) refl

pub replies : (s : Setting) (H : List Turn) (p : Parts) (e : DeviceId) (n : ℕ) (was now : WindowState) → Lawful s H → 1 ≤ n → n ≤ taken_count (journal s e.0 H) → was ≡ get_or p.windows (e.0 - 1) was → now ≡ after_reply was (reply_taken was n) → IsWithin (length s.rows) e.0 → ArePartsOf s H p → (reply_answer n (reply_taken was n) ≡ answer s H (Reply e n)) × ArePartsOf s ((Reply e n, reply_answer n (reply_taken was n)) ∷ H) (record p { windows = set p.windows (e.0 - 1) now })
replies s H p e n was now L low high at then within m =
    let i = window_read s H p e.0 was at within m in
    let sent : n ≤ was.sent = let g = i.greatest in let t = taken_sent s e.0 H L in omega arith in
    let last : was.line.acked ≡ acked e.0 H = ap (λ l. l.acked) i.line in
    by (nat_le n was.line.acked) refl (reply_at was n (nat_le n was.line.acked) sent refl) last
  where
    by : (b : Bool) → nat_le n was.line.acked ≡ b → reply_taken was n ≡ cond b (taken.Old was.line.acked) (taken.Acked n) → was.line.acked ≡ acked e.0 H → (reply_answer n (reply_taken was n) ≡ answer s H (Reply e n)) × ArePartsOf s ((Reply e n, reply_answer n (reply_taken was n)) ∷ H) (record p { windows = set p.windows (e.0 - 1) now })
    by true test says last =
        let old : n ≤ acked e.0 H = let f = le_of n was.line.acked test in omega arith in
        let kept : now ≡ was = then ∙ ap (after_reply was) says in
        rw (says, same_items p.windows (e.0 - 1) was now at kept)
        (reply_old s H e n L low high old, stays s H ((Reply e n, told.Old n) ∷ H) p (quiet_stays H (Reply e n) (told.Old n) refl) (λ r. refl) m)
    by false test says last =
        let new : acked e.0 H < n = let f = gt_of n was.line.acked test in omega arith in
        rw says (reply_new s H e n L low high new, acknowledges s H p e n was now at (then ∙ ap (after_reply was) says) new within m)

-- ---- a message to the device at the window

pub downs_count : (s : Setting) (H : List Turn) (d : ℕ) (w : WindowState) → Lawful s H → IsWindowOf s H d w → length w.downs ≡ accepted d Down H
downs_count s H d w L i = sym (length-map w.downs effects.Down) ∙ ap length i.downs ∙ accepted_length s H d Down L

pub gateway_count : (s : Setting) (H : List Turn) (d : ℕ) (calls : List GwCall) → Lawful s H → AreGatewayCalls s H d calls → length calls ≡ accepted d Gateway H
gateway_count s H d calls L i = sym (length-map calls effects.Gateway) ∙ ap length i ∙ accepted_length s H d Gateway L

pub subscriber_count : (s : Setting) (H : List Turn) (d : ℕ) (calls : List SubCall) → Lawful s H → AreSubscriberCalls s H d calls → length calls ≡ accepted d Subscriber H
subscriber_count s H d calls L i = sym (length-map calls effects.Subscriber) ∙ ap length i ∙ accepted_length s H d Subscriber L

pub downs : (s : Setting) (H : List Turn) (p : Parts) (e : DeviceId) (k : ℕ) (message : DownMessage) (was now : WindowState) → Lawful s H → effect_pushed e.0 Down k H ≡ true → was ≡ get_or p.windows (e.0 - 1) was → now ≡ after_down was message (down_taken was.downs k) → slice_get (effects_of Down (entries_of s e.0)) (k - 1) ≡ Some (effects.Down message) → IsWithin (length s.rows) e.0 → ArePartsOf s H p → (down_answer (down_taken was.downs k) ≡ answer s H (Effect e Down k)) × ArePartsOf s ((Effect e Down k, down_answer (down_taken was.downs k)) ∷ H) (record p { windows = set p.windows (e.0 - 1) now })
downs s H p e k message was now L on at then got within m =
    let i = window_read s H p e.0 was at within m in
    let count = downs_count s H e.0 was L i in
    first count (k == length was.downs + 1) refl
  where
    second : length was.downs ≡ accepted e.0 Down H → (k == length was.downs + 1) ≡ false → (b : Bool) → nat_le k (length was.downs) ≡ b → (down_answer (down_taken was.downs k) ≡ answer s H (Effect e Down k)) × ArePartsOf s ((Effect e Down k, down_answer (down_taken was.downs k)) ∷ H) (record p { windows = set p.windows (e.0 - 1) now })
    second count no_next true test =
        let says : down_taken was.downs k ≡ down.Repeat k = rw (no_next, test) refl in
        let low : k ≤ accepted e.0 Down H = let f = le_of k (length was.downs) test in omega arith in
        rw (says, same_items p.windows (e.0 - 1) was now at (then ∙ ap (after_down was message) says))
        (effect_repeat s H e Down k on low, stays s H ((Effect e Down k, told.Repeat k) ∷ H) p (quiet_stays H (Effect e Down k) (told.Repeat k) refl) (λ r. refl) m)
    second count no_next false test =
        let says : down_taken was.downs k ≡ down.Ahead (length was.downs) = rw (no_next, test) refl in
        let apart : k ≡ length was.downs + 1 → ⊥ = λ (is : k ≡ length was.downs + 1). (let t : (k == length was.downs + 1) ≡ true = rw is (here (length was.downs + 1)) in cc) in
        let high : accepted e.0 Down H + 1 < k = let f = gt_of k (length was.downs) test in omega (arith, apart, f, count) in
        let ahead : told.Ahead (length was.downs) ≡ answer s H (Effect e Down k) = ap told.Ahead count ∙ effect_ahead s H e Down k on high in
        rw (says, same_items p.windows (e.0 - 1) was now at (then ∙ ap (after_down was message) says))
        (ahead, stays s H ((Effect e Down k, told.Ahead (length was.downs)) ∷ H) p (quiet_stays H (Effect e Down k) (told.Ahead (length was.downs)) refl) (λ r. refl) m)

    first : length was.downs ≡ accepted e.0 Down H → (b : Bool) → (k == length was.downs + 1) ≡ b → (down_answer (down_taken was.downs k) ≡ answer s H (Effect e Down k)) × ArePartsOf s ((Effect e Down k, down_answer (down_taken was.downs k)) ∷ H) (record p { windows = set p.windows (e.0 - 1) now })
    first count true test =
        let says : down_taken was.downs k ≡ down.Accepted k = rw test refl in
        let is : k ≡ accepted e.0 Down H + 1 = same_number k (length was.downs + 1) test ∙ ap (λ n. n + 1) count in
        rw says (effect_next s H e Down k on is, accepts_down s H p e k k message was now at (then ∙ ap (after_down was message) says) is got within m)
    first count false test = second count test (nat_le k (length was.downs)) refl

-- ---- a read

-- the answer by what the row says to the input of the hand
pub read_told : (s : Setting) (H : List Turn) (r d : ℕ) (what : Arrival) (input : Input) → IsSetting s → Lawful s H → Holds d what (hand r H) → input ≡ input_of s d what → r ≤ s.replicas → answer s H (Read r) ≡ look_answer (commits d H) (row_look window (journal s d H) input)
read_told s H r d what input is L h same low =
    let i = held_arrival s H r d what L h in
    read_is s H r d what low h ∙ ap (look_answer (commits d H)) (sym (look_same s H (journal s d H) d what is L i.0) ∙ ap (row_look window (journal s d H)) (sym same))

-- ---- an effect in the row

-- it was made, and is not settled
abbrev pub IsInRow : RowState → Lane → ℕ → Type 0
IsInRow row l k = (number_on row.settled l < k) × (k ≤ pushed_count l row.journal)

pub in_row_told : (s : Setting) (H : List Turn) (e : DeviceId) (l : Lane) (k : ℕ) (row : RowState) → row ≡ row_after s H e.0 → IsInRow row l k → told.Pushed ≡ answer s H (Push e l k)
in_row_told s H e l k row is there =
    let a : IsInRow (row_after s H e.0) l k = rw is at there in
    push_told s H e l k (subst (λ n. n < k) (settled_is e.0 l H) a.0) a.1

pub in_row_void : (s : Setting) (H : List Turn) (e : DeviceId) (l : Lane) (k : ℕ) (row : RowState) → row ≡ row_after s H e.0 → (IsInRow row l k → ⊥) → told.VoidOutbox ≡ answer s H (Push e l k)
in_row_void s H e l k row is none =
    push_void s H e l k (λ low high. none (rw is (subst (λ n. n < k) (sym (settled_is e.0 l H)) low, high)))

-- ---- an acknowledgement at the row

most_on : (numbers : LaneNumbers) (l : Lane) (k : ℕ) → k ≤ number_on numbers l → with_number numbers l k ≡ numbers
most_on numbers Down k low = let e : max k numbers.down ≡ numbers.down = omega arith in rw e refl
most_on numbers Gateway k low = let e : max k numbers.gateway ≡ numbers.gateway = omega arith in rw e refl
most_on numbers Subscriber k low = let e : max k numbers.subscriber ≡ numbers.subscriber = omega arith in rw e refl

pub settles_at : (s : Setting) (H : List Turn) (p : Parts) (e : DeviceId) (l : Lane) (k : ℕ) (was now : RowState) → Lawful s H → 1 ≤ k → k ≤ accepted e.0 l H → was ≡ get_or p.rows (e.0 - 1) was → now ≡ record was { settled = with_number was.settled l k } → IsWithin (length s.rows) e.0 → ArePartsOf s H p → (settle_answer k (settled_by (number_on was.settled l) k) ≡ answer s H (Settle e l k)) × ArePartsOf s ((Settle e l k, settle_answer k (settled_by (number_on was.settled l) k)) ∷ H) (record p { rows = set p.rows (e.0 - 1) now })
settles_at s H p e l k was now L low high at then within m =
    let row : was ≡ row_after s H e.0 = at ∙ m.rows.at e.0 was within in
    let number : number_on was.settled l ≡ settled e.0 l H = ap (λ (x : RowState). number_on x.settled l) row ∙ settled_is e.0 l H in
    by number (nat_le k (number_on was.settled l)) refl
  where
    by : number_on was.settled l ≡ settled e.0 l H → (b : Bool) → nat_le k (number_on was.settled l) ≡ b → (settle_answer k (settled_by (number_on was.settled l) k) ≡ answer s H (Settle e l k)) × ArePartsOf s ((Settle e l k, settle_answer k (settled_by (number_on was.settled l) k)) ∷ H) (record p { rows = set p.rows (e.0 - 1) now })
    by number true test =
        let f = le_of k (number_on was.settled l) test in
        let old : k ≤ settled e.0 l H = omega arith in
        let kept : now ≡ was = then ∙ ap (λ (x : LaneNumbers). let y : RowState = record was { settled = x } in y) (most_on was.settled l k f) in
        rw (test, same_items p.rows (e.0 - 1) was now at kept)
        (settle_old s H e l k L low high old, stays s H ((Settle e l k, told.Old k) ∷ H) p (quiet_stays H (Settle e l k) (told.Old k) refl) (λ r. refl) m)
    by number false test =
        let f = gt_of k (number_on was.settled l) test in
        let new : settled e.0 l H < k = omega arith in
        rw test (settle_new s H e l k L low high new, settles s H p e l k was now at then within m)

-- the same at the store, whose rows these are then
pub settles_stored : (s : Setting) (H : List Turn) (p : Parts) (e : DeviceId) (l : Lane) (k : ℕ) (rows : List RowState) → Lawful s H → 1 ≤ k → k ≤ accepted e.0 l H → rows ≡ set p.rows (e.0 - 1) (with_settled (row_in p e.0) l k) → IsWithin (length s.rows) e.0 → ArePartsOf s H p → (settle_answer k (settled_by (number_on (row_in p e.0).settled l) k) ≡ answer s H (Settle e l k)) × ArePartsOf s ((Settle e l k, settle_answer k (settled_by (number_on (row_in p e.0).settled l) k)) ∷ H) (record p { rows = rows })
settles_stored s H p e l k rows L low high then within m =
    let was = row_in p e.0 in
    let at : was ≡ get_or p.rows (e.0 - 1) was = get_or_default p.rows (e.0 - 1) opening_row was (omega (arith, m.rows.long, within.0, within.1)) in
    let both = settles_at s H p e l k was (with_settled was l k) L low high at refl within m in
    (both.0, subst (λ (xs : List RowState). ArePartsOf s ((Settle e l k, settle_answer k (settled_by (number_on was.settled l) k)) ∷ H) (record p { rows = xs })) (sym then) both.1)

-- ---- how many there may be

-- a device makes at most 300,000 steps
pub steps_few : (s : Setting) (H : List Turn) (d : ℕ) → IsSetting s → Lawful s H → IsWithin (length s.rows) d → commits d H ≤ 300000
steps_few s H d is L within =
    let short = All-get_or IsShort s.book (d - 1) [] (omega (arith, is.each, within.0, within.1)) is.short in
    let few = few_entries (row_of s d) (messages_of s d) in
    let begins = Begins-length (journal s d H) (entries_of s d) (to_alone (row_of s d) (messages_of s d) (commits d H)) in
    let count = version_is s d H L in
    omega arith

-- and at most 1,200,000 effects of a lane
pub effects_few : (s : Setting) (H : List Turn) (d : ℕ) (l : Lane) → IsSetting s → Lawful s H → IsWithin (length s.rows) d → pushed_count l (journal s d H) ≤ 1200000
effects_few s H d l is L within =
    let steps = steps_few s H d is L within in
    let few = few_pushed (row_of s d) (messages_of s d) l (commits d H) in
    omega arith
