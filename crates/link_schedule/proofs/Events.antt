-- Each event keeps the parts of a world.
use Rattle.std.proofs.Common.{◌≡◌, ◌==◌, ℕ, suc, ◌+◌, ◌-◌, ◌≤◌, ◌<◌, max, Bool, true, false, cond, List, [], ◌∷◌, ◌++◌, length, take, set, get_or, Some, refl, sym, ap, ◌∙◌, subst, arith}
use Rattle.std.proofs.lemmas.List.{take-take}
use Rattle.agent_order.specs.Order.{LineState}
use Rattle.agent_resend.specs.Window.{WindowState, may_send, with_sent}
use Rattle.device_types.specs.declared.event.Event.{Event}
use Rattle.device_types.specs.declared.event.Event.TheVariants.{Send, Take, Answer, Read, Write, Stop, Reply, Push, Effect, Settle}
use Rattle.device_types.specs.declared.event.EventAnswer.{EventAnswer}
use Rattle.device_types.specs.declared.event.EventAnswer.TheVariants as told
use Rattle.device_types.specs.declared.event.Lane.{Lane}
use Rattle.device_types.specs.declared.event.Lane.TheVariants.{Down, Gateway, Subscriber}
use Rattle.device_types.specs.declared.input.Answer.{Answer as AnswerValue}
use Rattle.device_types.specs.declared.input.Input.{Input}
use Rattle.device_types.specs.declared.input.Input.TheVariants as inputs
use Rattle.device_types.specs.declared.look.Look.{Look}
use Rattle.device_types.specs.declared.look.Look.TheVariants as look
use Rattle.device_types.specs.declared.message.Message.{Message}
use Rattle.device_types.specs.declared.step.Entry.{Entry}
use Rattle.device_types.specs.declared.subscriber.DeviceId.{DeviceId}
use Rattle.device_types.specs.Alone.{entry_of, next_input}
use Rattle.device_types.specs.Journal.{effects_of}
use Rattle.device_types.specs.Numbers.{IsWithin}
use Rattle.device_types.specs.PeerAnswer.{answer_of}
use Rattle.effect_outbox.specs.Outbox.{LaneNumbers}
use Rattle.replica_worker.specs.declared.hand.Hand.{Hand}
use Rattle.replica_worker.specs.declared.hand.Hand.TheVariants as hands
use Rattle.session_row.specs.declared.commit.Commit.{Commit}
use Rattle.session_row.specs.declared.commit.Commit.TheVariants as commit
use Rattle.session_row.specs.Row.{RowState, Commits}
use Rattle.schedule_laws.specs.Answer.{look_answer, answer, Lawful}
use Rattle.schedule_laws.specs.Counts.{Turn, Arrival, Held, is_written, hand, after_read, commits, acked, accepted, greatest_sent, journal}
use Rattle.schedule_laws.specs.Counts.Held.{Nothing, Taken, Ready}
use Rattle.schedule_laws.specs.Input.{message_of, input_of, IsHand}
use Rattle.schedule_laws.specs.Lists.{AddsMark, Each}
use Rattle.schedule_laws.specs.Promise.{Holds, HasSameCounts}
use Rattle.schedule_laws.specs.Setting.{Setting, row_of, messages_of, entries_to, entries_of}
use Rattle.link_schedule.specs.Told.{commit_answer}
use Rattle.link_schedule.specs.World.{Parts, settled_numbers, row_after, hand_of, accepted_effects, IsWindowOf, AreGatewayCalls, AreSubscriberCalls, AreSent, ArePushed, ArePartsOf}
use Rattle.schedule_laws.proofs.Items.{Each-set, Each-keep}
use Rattle.schedule_laws.proofs.Laws.{version_is, hand_ok}
use Rattle.schedule_laws.proofs.Runs.{to_push}
use Rattle.schedule_laws.proofs.Comparisons.{here, not_here, nor_here, le_true}

-- ---- events that change no part

row_same : (s : Setting) (H K : List Turn) (d : ℕ) → HasSameCounts H K → row_after s K d ≡ row_after s H d
row_same s H K d same = rw (same.committed d, same.settles d Down, same.settles d Gateway, same.settles d Subscriber) refl

accepted_same : (s : Setting) (H K : List Turn) (l : Lane) (d : ℕ) → HasSameCounts H K → accepted_effects s l H d ≡ accepted_effects s l K d
accepted_same s H K l d same = rw (same.accepts d l) refl

pub window_same : (s : Setting) (H K : List Turn) (d : ℕ) (w : WindowState) → acked d K ≡ acked d H → greatest_sent d K ≡ greatest_sent d H → accepted d Down K ≡ accepted d Down H → IsWindowOf s H d w → IsWindowOf s K d w
window_same s H K d w a g c i = record { line = rw a i.line; greatest = rw g i.greatest; downs = rw c i.downs }

-- the window of a device, as it is read
pub window_read : (s : Setting) (H : List Turn) (p : Parts) (d : ℕ) (w : WindowState) → w ≡ get_or p.windows (d - 1) w → IsWithin (length s.rows) d → ArePartsOf s H p → IsWindowOf s H d w
window_read s H p d w at within m = rw (← at) at (m.windows.at d w within)

-- the counts are as before, and the hands are others
pub with_hands : (s : Setting) (H K : List Turn) (p : Parts) (hands : List Hand) → HasSameCounts H K → Each hands s.replicas (λ r held. held ≡ hand_of s (hand r K)) → ArePartsOf s H p → ArePartsOf s K (record p { hands = hands })
with_hands s H K p hands same h m =
    record {
      hands = h;
      rows = Each-keep p.rows (length s.rows) (λ d row. row ≡ row_after s H d) (λ d row. row ≡ row_after s K d) m.rows (λ d x e. e ∙ sym (row_same s H K d same));
      windows = Each-keep p.windows (length s.rows) (IsWindowOf s H) (IsWindowOf s K) m.windows (λ d w i. window_same s H K d w (same.acknowledged d) (same.greatest d) (same.accepts d Down) i);
      gateway = Each-keep p.gateway (length s.rows) (AreGatewayCalls s H) (AreGatewayCalls s K) m.gateway (λ d x e. e ∙ accepted_same s H K Gateway d same);
      subscriber = Each-keep p.subscriber (length s.rows) (AreSubscriberCalls s H) (AreSubscriberCalls s K) m.subscriber (λ d x e. e ∙ accepted_same s H K Subscriber d same);
      sent = Each-keep p.sent (length s.rows) (AreSent H) (AreSent K) m.sent (λ d x e n low. e n low ∙ sym (same.messages d n));
      pushed = Each-keep p.pushed (length s.rows) (ArePushed H) (ArePushed K) m.pushed (λ d x e l k low. e l k low ∙ sym (same.effects d l k));
    }

pub stays : (s : Setting) (H K : List Turn) (p : Parts) → HasSameCounts H K → ((r : ℕ) → hand r K ≡ hand r H) → ArePartsOf s H p → ArePartsOf s K p
stays s H K p same hands m =
    with_hands s H K p p.hands same
    (Each-keep p.hands s.replicas (λ r held. held ≡ hand_of s (hand r H)) (λ r held. held ≡ hand_of s (hand r K)) m.hands (λ r x e. e ∙ sym (ap (hand_of s) (hands r))))
    m

-- ---- a message is sent

pub send_told : (s : Setting) (H : List Turn) (e : DeviceId) (n : ℕ) (w : WindowState) → IsWindowOf s H e.0 w → answer s H (Send e n) ≡ cond (may_send 4 w.line n) told.Sent told.VoidWindow
send_told s H e n w i = rw i.line refl

pub sends : (s : Setting) (H : List Turn) (p : Parts) (e : DeviceId) (n : ℕ) (was now : WindowState) (old new : List Bool) → was ≡ get_or p.windows (e.0 - 1) was → now ≡ with_sent was n → old ≡ get_or p.sent (e.0 - 1) old → AddsMark old new n → IsWithin (length s.rows) e.0 → ArePartsOf s H p → ArePartsOf s ((Send e n, told.Sent) ∷ H) (record p { windows = set p.windows (e.0 - 1) now; sent = set p.sent (e.0 - 1) new })
sends s H p e n was now old new at then before marks within m =
    let K = (Send e n, told.Sent) ∷ H in
    let i = window_read s H p e.0 was at within m in
    record {
      rows = m.rows;
      hands = m.hands;
      gateway = m.gateway;
      subscriber = m.subscriber;
      pushed = m.pushed;
      windows = Each-set p.windows (length s.rows) (IsWindowOf s H) (IsWindowOf s K) e.0 now m.windows within
          (record { line = rw then i.line; greatest = rw (then, here e.0, i.greatest) (omega arith); downs = rw then i.downs })
          (λ j w ne g. let none = not_here e.0 j ne in window_same s H K j w refl (rw none refl) refl g);
      sent = Each-set p.sent (length s.rows) (AreSent H) (AreSent K) e.0 new m.sent within
          (λ k low. let q : AreSent H e.0 old = rw (← before) at (m.sent.at e.0 old within) in rw (marks k low, q k low, here e.0) refl)
          (λ j x ne g k low. rw (g k low, not_here e.0 j ne) refl);
    }

-- ---- a hand changes

hands-set : (s : Setting) (H K : List Turn) (hands : List Hand) (r : ℕ) (h : Hand) → Each hands s.replicas (λ r held. held ≡ hand_of s (hand r H)) → IsWithin s.replicas r → h ≡ hand_of s (hand r K) → ((j : ℕ) → (j ≡ r → ⊥) → hand j K ≡ hand j H) → Each (set hands (r - 1) h) s.replicas (λ r held. held ≡ hand_of s (hand r K))
hands-set s H K hands r h m within e others =
    Each-set hands s.replicas (λ r held. held ≡ hand_of s (hand r H)) (λ r held. held ≡ hand_of s (hand r K)) r h m within e
    (λ j x ne g. g ∙ sym (ap (hand_of s) (others j ne)))

-- these events change one hand alone
abbrev is_of_hand : Event → Bool
is_of_hand (Take r d n) = true
is_of_hand (Answer r d l k) = true
is_of_hand (Read r) = true
is_of_hand (Stop r) = true
is_of_hand _ = false

hand_counts : (H : List Turn) (e : Event) (a : EventAnswer) → is_of_hand e ≡ true → HasSameCounts H ((e, a) ∷ H)
hand_counts H (Send d n) a h = absurd (cc)
hand_counts H (Write r) a h = absurd (cc)
hand_counts H (Reply d n) a h = absurd (cc)
hand_counts H (Push d l k) a h = absurd (cc)
hand_counts H (Effect d l k) a h = absurd (cc)
hand_counts H (Settle d l k) a h = absurd (cc)
hand_counts H _ a h = record { committed = λ d. refl; acknowledged = λ d. refl; greatest = λ d. refl; accepts = λ d l. refl; settles = λ d l. refl; messages = λ d n. refl; effects = λ d l k. refl }

with_hand : (s : Setting) (H : List Turn) (p : Parts) (e : Event) (a : EventAnswer) (r : ℕ) (h : Hand) → is_of_hand e ≡ true → IsWithin s.replicas r → h ≡ hand_of s (hand r ((e, a) ∷ H)) → ((j : ℕ) → (j ≡ r → ⊥) → hand j ((e, a) ∷ H) ≡ hand j H) → ArePartsOf s H p → ArePartsOf s ((e, a) ∷ H) (record p { hands = set p.hands (r - 1) h })
with_hand s H p e a r h of within is others m = with_hands s H ((e, a) ∷ H) p (set p.hands (r - 1) h) (hand_counts H e a of) (hands-set s H ((e, a) ∷ H) p.hands r h m.hands within is others) m

-- a message arrives
pub takes : (s : Setting) (H : List Turn) (p : Parts) (r : ℕ) (e : DeviceId) (n : ℕ) (message : Message) → message ≡ message_of s e.0 n → IsWithin s.replicas r → ArePartsOf s H p → ArePartsOf s ((Take r e n, told.Taken) ∷ H) (record p { hands = set p.hands (r - 1) (hands.Taken e (inputs.Message message)) })
takes s H p r e n message is within m =
    with_hand s H p (Take r e n) told.Taken r (hands.Taken e (inputs.Message message)) refl within
    (rw (here r, is) refl)
    (λ j ne. rw (nor_here r j ne) refl) m

-- the answer to a call arrives: that to the first k of the calls that were accepted
pub takes_answer : (s : Setting) (H : List Turn) (p : Parts) (r : ℕ) (e : DeviceId) (l : Lane) (k : ℕ) (value : AnswerValue) → value ≡ answer_of (row_of s e.0) (take k (accepted_effects s l H e.0)) → k ≤ accepted e.0 l H → IsWithin s.replicas r → ArePartsOf s H p → ArePartsOf s ((Answer r e l k, told.Taken) ∷ H) (record p { hands = set p.hands (r - 1) (hands.Taken e (inputs.Answer l k value)) })
takes_answer s H p r e l k value is low within m =
    let content : value ≡ answer_of (row_of s e.0) (take k (effects_of l (entries_of s e.0))) = is ∙ ap (answer_of (row_of s e.0)) (take-take k (accepted e.0 l H) (effects_of l (entries_of s e.0)) low) in
    with_hand s H p (Answer r e l k) told.Taken r (hands.Taken e (inputs.Answer l k value)) refl within
    (rw (here r, content) refl)
    (λ j ne. rw (nor_here r j ne) refl) m

-- a replica stops
pub stops : (s : Setting) (H : List Turn) (p : Parts) (r : ℕ) → IsWithin s.replicas r → ArePartsOf s H p → ArePartsOf s ((Stop r, told.Stopped) ∷ H) (record p { hands = set p.hands (r - 1) hands.Empty })
stops s H p r within m =
    with_hand s H p (Stop r) told.Stopped r hands.Empty refl within
    (rw (here r) refl)
    (λ j ne. rw (nor_here r j ne) refl) m

-- ---- a reply is acknowledged

acked_line : (l : LineState) (messages : List Message) (a b : ℕ) → l ≡ record { messages = messages; acked = a } → ◌≡◌ {A = LineState} (record l { acked = b }) (record { messages = messages; acked = b })
acked_line l messages a b e = rw e refl

pub acknowledges : (s : Setting) (H : List Turn) (p : Parts) (e : DeviceId) (n : ℕ) (was now : WindowState) → was ≡ get_or p.windows (e.0 - 1) was → now ≡ record was { line = record was.line { acked = n } } → acked e.0 H < n → IsWithin (length s.rows) e.0 → ArePartsOf s H p → ArePartsOf s ((Reply e n, told.Acked n) ∷ H) (record p { windows = set p.windows (e.0 - 1) now })
acknowledges s H p e n was now at then more within m =
    let K = (Reply e n, told.Acked n) ∷ H in
    let i = window_read s H p e.0 was at within m in
    let most : max n (acked e.0 H) ≡ n = omega arith in
    record {
      rows = m.rows;
      hands = m.hands;
      gateway = m.gateway;
      subscriber = m.subscriber;
      sent = m.sent;
      pushed = m.pushed;
      windows = Each-set p.windows (length s.rows) (IsWindowOf s H) (IsWindowOf s K) e.0 now m.windows within
          (record { line = rw (then, here e.0, most) (acked_line was.line (messages_of s e.0) (acked e.0 H) n i.line); greatest = rw then i.greatest; downs = rw then i.downs })
          (λ j w ne g. let none = not_here e.0 j ne in window_same s H K j w (rw none refl) refl refl g);
    }

-- ---- a replica reads

after_ready : (d : ℕ) (what : Arrival) (v : ℕ) (x : Held) → Holds d what x → after_read (told.Ready v) x ≡ Ready d what v
after_ready d what v Nothing i = absurd (i)
after_ready d what v (Taken e other) i = rw (i.0, i.1) refl
after_ready d what v (Ready e other w) i = rw (i.0, i.1) refl

after_other : (d : ℕ) (what : Arrival) (v : ℕ) (l : Look) (x : Held) → (l ≡ look.Ready → ⊥) → Holds d what x → after_read (look_answer v l) x ≡ Taken d what
after_other d what v l Nothing not i = absurd (i)
after_other d what v look.Ready x not i = absurd (not refl)
after_other d what v (look.Repeat k) (Taken e other) not i = rw (i.0, i.1) refl
after_other d what v (look.Settled k) (Taken e other) not i = rw (i.0, i.1) refl
after_other d what v (look.Ahead k) (Taken e other) not i = rw (i.0, i.1) refl
after_other d what v (look.Waiting l k) (Taken e other) not i = rw (i.0, i.1) refl
after_other d what v (look.Old l k) (Taken e other) not i = rw (i.0, i.1) refl
after_other d what v (look.NotAwaited k) (Taken e other) not i = rw (i.0, i.1) refl
after_other d what v (look.Repeat k) (Ready e other w) not i = rw (i.0, i.1) refl
after_other d what v (look.Settled k) (Ready e other w) not i = rw (i.0, i.1) refl
after_other d what v (look.Ahead k) (Ready e other w) not i = rw (i.0, i.1) refl
after_other d what v (look.Waiting l k) (Ready e other w) not i = rw (i.0, i.1) refl
after_other d what v (look.Old l k) (Ready e other w) not i = rw (i.0, i.1) refl
after_other d what v (look.NotAwaited k) (Ready e other w) not i = rw (i.0, i.1) refl

-- the row says Ready: the hand has the step at that version
pub reads_ready : (s : Setting) (H : List Turn) (p : Parts) (r d : ℕ) (what : Arrival) (v : ℕ) (entry : Entry) → Holds d what (hand r H) → v ≡ commits d H → entry ≡ entry_of (row_of s d) (journal s d H) (input_of s d what) → IsWithin s.replicas r → ArePartsOf s H p → ArePartsOf s ((Read r, told.Ready v) ∷ H) (record p { hands = set p.hands (r - 1) (hands.Ready (record { 0 = d }) v entry) })
reads_ready s H p r d what v entry i now is within m =
    with_hand s H p (Read r) (told.Ready v) r (hands.Ready (record { 0 = d }) v entry) refl within
    (rw (here r, after_ready d what v (hand r H) i, is, now) refl)
    (λ j ne. rw (nor_here r j ne) refl) m

-- it says something else: the hand has what arrived
pub reads_other : (s : Setting) (H : List Turn) (p : Parts) (r d : ℕ) (what : Arrival) (v : ℕ) (l : Look) (input : Input) → Holds d what (hand r H) → (l ≡ look.Ready → ⊥) → input ≡ input_of s d what → IsWithin s.replicas r → ArePartsOf s H p → ArePartsOf s ((Read r, look_answer v l) ∷ H) (record p { hands = set p.hands (r - 1) (hands.Taken (record { 0 = d }) input) })
reads_other s H p r d what v l input i not is within m =
    with_hand s H p (Read r) (look_answer v l) r (hands.Taken (record { 0 = d }) input) refl within
    (rw (here r, after_other d what v l (hand r H) not i, is) refl)
    (λ j ne. rw (nor_here r j ne) refl) m

-- ---- a replica writes

-- what the hand computed
abbrev pub entry_held : Setting → ℕ → Arrival → ℕ → Entry
entry_held s d what v = entry_of (row_of s d) (entries_to s d v) (input_of s d what)

write_told : (s : Setting) (H : List Turn) (r d : ℕ) (what : Arrival) (v : ℕ) (b : Bool) → hand r H ≡ Ready d what v → r ≤ s.replicas → (commits d H == v) ≡ b → answer s H (Write r) ≡ cond b (told.Committed (v + 1)) (told.Stale v (commits d H))
write_told s H r d what v b h low e = rw (le_true r s.replicas low, h, e) refl

with_entry : (was : RowState) (entry : Entry) (J : List Entry) (numbers : LaneNumbers) → was ≡ record { journal = J; settled = numbers } → ◌≡◌ {A = RowState} (record was { journal = was.journal ++ entry ∷ [] }) (record { journal = J ++ entry ∷ []; settled = numbers })
with_entry was entry J numbers e = rw e refl

committed_row : (s : Setting) (H : List Turn) (d : ℕ) (what : Arrival) (v : ℕ) (was : RowState) → was ≡ row_after s H d → v ≡ commits d H → next_input (row_of s d) (messages_of s d) (entries_to s d v) ≡ Some (input_of s d what) → ◌≡◌ {A = RowState} (record was { journal = was.journal ++ entry_held s d what v ∷ [] }) (record { journal = entries_to s d (suc (commits d H)); settled = settled_numbers d H })
committed_row s H d what v was row same next =
    let grows : entries_to s d v ++ entry_held s d what v ∷ [] ≡ entries_to s d (suc v) = sym (to_push (row_of s d) (messages_of s d) v (input_of s d what) next) in
    let at : was ≡ record { journal = entries_to s d v; settled = settled_numbers d H } = rw same row in
    with_entry was (entry_held s d what v) (entries_to s d v) (settled_numbers d H) at
    ∙ ap (λ (J : List Entry). let row : RowState = record { journal = J; settled = settled_numbers d H } in row) (grows ∙ ap (λ w. entries_to s d (suc w)) same)

-- it was written or is stale: its row is this, the other rows are as before, and the hand is empty
written : (s : Setting) (H : List Turn) (p : Parts) (r d : ℕ) (a : EventAnswer) (now : RowState) → is_written a ≡ true → now ≡ row_after s ((Write r, a) ∷ H) d → ((j : ℕ) → (j ≡ d → ⊥) → row_after s ((Write r, a) ∷ H) j ≡ row_after s H j) → IsWithin s.replicas r → IsWithin (length s.rows) d → ArePartsOf s H p → ArePartsOf s ((Write r, a) ∷ H) (record p { rows = set p.rows (d - 1) now; hands = set p.hands (r - 1) hands.Empty })
written s H p r d a now wrote row others lt ld m =
    let K = (Write r, a) ∷ H in
    record {
      windows = m.windows;
      gateway = m.gateway;
      subscriber = m.subscriber;
      sent = m.sent;
      pushed = m.pushed;
      rows = Each-set p.rows (length s.rows) (λ d row. row ≡ row_after s H d) (λ i row. row ≡ row_after s K i) d now m.rows ld row (λ j x ne g. g ∙ sym (others j ne));
      hands = hands-set s H K p.hands r hands.Empty m.hands lt
          (rw (here r, wrote) refl)
          (λ j ne. rw (nor_here r j ne, wrote) refl);
    }

pub writes : (s : Setting) (H : List Turn) (p : Parts) (r d : ℕ) (what : Arrival) (v : ℕ) (c : Commit) (was now : RowState) → Lawful s H → hand r H ≡ Ready d what v → was ≡ get_or p.rows (d - 1) was → Commits was now v (entry_held s d what v) c → IsWithin s.replicas r → IsWithin (length s.rows) d → ArePartsOf s H p → (commit_answer c ≡ answer s H (Write r)) × ArePartsOf s ((Write r, commit_answer c) ∷ H) (record p { rows = set p.rows (d - 1) now; hands = set p.hands (r - 1) hands.Empty })
writes s H p r d what v (commit.Committed w) was now L h at k lt ld m =
    let row : was ≡ row_after s H d = at ∙ m.rows.at d was ld in
    let same : v ≡ commits d H = k.0 ∙ ap (λ (x : RowState). length x.journal) row ∙ version_is s d H L in
    let next = (subst (IsHand s H) h (hand_ok s r H L)).3 in
    let test : (commits d H == v) ≡ true = rw same (here (commits d H)) in (
      ap told.Committed k.1 ∙ sym (write_told s H r d what v true h lt.1 test),
      written s H p r d (told.Committed w) now refl
          (rw (h, here d) (k.2 ∙ committed_row s H d what v was row same next))
          (λ j ne. rw (h, not_here d j ne) refl) lt ld m,
    )
writes s H p r d what v (commit.Stale a b) was now L h at k lt ld m =
    let row : was ≡ row_after s H d = at ∙ m.rows.at d was ld in
    let same : b ≡ commits d H = k.2 ∙ ap (λ (x : RowState). length x.journal) row ∙ version_is s d H L in
    let test : (commits d H == v) ≡ false = let other : commits d H ≡ v → ⊥ = (λ e. k.0 (sym e ∙ sym same ∙ k.2)) in not_here v (commits d H) other in (
      (let e : told.Stale a b ≡ told.Stale v (commits d H) = rw (k.1, same) refl in e) ∙ sym (write_told s H r d what v false h lt.1 test),
      written s H p r d (told.Stale a b) now refl (k.3 ∙ row) (λ j ne. refl) lt ld m,
    )

pub write_void : (s : Setting) (H : List Turn) (r : ℕ) (x : Held) → ((d : DeviceId) (v : ℕ) (entry : Entry) → hand_of s x ≡ hands.Ready d v entry → ⊥) → hand r H ≡ x → r ≤ s.replicas → told.VoidHand ≡ answer s H (Write r)
write_void s H r Nothing not e low = rw (le_true r s.replicas low, e) refl
write_void s H r (Taken d what) not e low = rw (le_true r s.replicas low, e) refl
write_void s H r (Ready d what v) not e low = absurd (not (record { 0 = d }) v _ refl)

-- a hand that has a step holds this
pub made_hand : (s : Setting) (x : Held) (d : DeviceId) (v : ℕ) (entry : Entry) → hand_of s x ≡ hands.Ready d v entry → (what : Arrival) × (x ≡ Ready d.0 what v) × (entry ≡ entry_held s d.0 what v)
made_hand s Nothing d v entry h = absurd (cc)
made_hand s (Taken f what) d v entry h = absurd (cc)
made_hand s (Ready f what w) d v entry h =
    let g : DeviceId = record { 0 = f } in
    let a : g ≡ d = cc in
    let n : f ≡ d.0 = ap (λ (x : DeviceId). x.0) a in
    let b : w ≡ v = cc in
    let e : entry_held s f what w ≡ entry = cc in
    (what, (let q : Ready f what w ≡ Ready d.0 what v = rw (n, b) refl in q), sym e ∙ ap (λ x. entry_held s x what w) n ∙ ap (entry_held s d.0 what) b)
