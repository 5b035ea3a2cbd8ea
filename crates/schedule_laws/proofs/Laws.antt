-- What holds of every lawful list of turns.
use Rattle.std.proofs.Common.{◌≡◌, ◌==◌, ◌⊎◌, ⊎_elim, ℕ, suc, ◌+◌, ◌-◌, ◌≤◌, ◌<◌, max, Bool, true, false, cond, ◌&&◌, ◌||◌, List, [], ◌∷◌, length, take, Option, Some, None, refl, sym, ap, ◌∙◌, subst, arith, add-zero, length-append}
use Rattle.std.specs.Prelude.{option_map, nat_le, nat_lt, slice_index_or}
use Rattle.std.proofs.lemmas.Grind.{common_steps}
use Rattle.std.proofs.lemmas.Option.{slice_get-get_or}
use Rattle.device_types.specs.declared.event.Event.TheVariants.{Send, Take, Answer, Read, Write, Stop, Reply, Push, Effect, Settle}
use Rattle.device_types.specs.declared.event.EventAnswer.{EventAnswer}
use Rattle.device_types.specs.declared.event.EventAnswer.TheVariants as told
use Rattle.device_types.specs.declared.event.Lane.{Lane}
use Rattle.device_types.specs.declared.input.Input.TheVariants as inputs
use Rattle.device_types.specs.declared.look.Look.{Look}
use Rattle.device_types.specs.declared.look.Look.TheVariants as look
use Rattle.device_types.specs.declared.step.Entry.{Entry}
use Rattle.device_types.specs.Alone.{input_at, next_input, entry_of}
use Rattle.device_types.specs.Journal.{effects_of, pushed_count, taken_count, is_message, awaited_call}
use Rattle.device_types.specs.Look.{same_lane, unless_awaited, is_call}
use Rattle.device_types.specs.Numbers.{IsWithin}
use Rattle.device_types.specs.PeerAnswer.{answer_of}
use Rattle.device_types.proofs.Journals.{taken_more}
use Rattle.schedule_laws.specs.Answer.{look_at, look_answer, read_answer, write_answer, on_replica, Lawful}
use Rattle.schedule_laws.specs.Counts.{Turn, Arrival, Held, hand, after_read, commits, acked, accepted, settled, greatest_sent, message_sent, reply_sent, effect_pushed, effect_received, journal, is_sent, is_taken, is_acked, is_accepted, is_received, is_committed, is_written, is_stopped, is_settled, is_pushed, is_ready_for, is_ready_with}
use Rattle.schedule_laws.specs.Counts.Arrival.{TheMessage, TheAnswer}
use Rattle.schedule_laws.specs.Counts.Held.{Nothing, Taken, Ready}
use Rattle.schedule_laws.specs.Input.{no_message, input_of, IsArrival, IsHand}
use Rattle.schedule_laws.specs.Lists.{Begins}
use Rattle.schedule_laws.specs.Setting.{Setting, row_of, messages_of, message_count, entries_to, entries_of}
use Rattle.schedule_laws.proofs.Runs.{Begins-refl, Begins-length, Begins-take, effects_begin, taken_begins, to_next, to_alone, to_push}
use Rattle.schedule_laws.proofs.Comparisons.{or_true, or_right, and_true, max_if, le_if, max_of, same_number, all_of, all_on, same_on, same_lane_true, sent_if, pushed_if, taken_if, acked_if, settled_if, committed_if, accepted_if, effect_cases, in_window, in_outbox, next_number, ready_message, ready_answer, le_of}

-- ---- a journal only grows

next_if : (s : Setting) (d v : ℕ) (b : Bool) → Begins (entries_to s d v) (entries_to s d (cond b (suc v) v))
next_if s d v true = to_next (row_of s d) (messages_of s d) v
next_if s d v false = Begins-refl (entries_to s d v)

pub journal_more : (s : Setting) (d : ℕ) (t : Turn) (H : List Turn) → Begins (journal s d H) (journal s d (t ∷ H))
journal_more s d (Write r, a) H = next_if s d (commits d H) (is_committed a && is_ready_for d (hand r H))
journal_more s d (_, a) H = Begins-refl (journal s d H)

lane_more : (s : Setting) (d : ℕ) (l : Lane) (t : Turn) (H : List Turn) → pushed_count l (journal s d H) ≤ pushed_count l (journal s d (t ∷ H))
lane_more s d l t H = Begins-length (effects_of l (journal s d H)) (effects_of l (journal s d (t ∷ H))) (effects_begin l (journal s d H) (journal s d (t ∷ H)) (journal_more s d t H))

taken_grows : (s : Setting) (d : ℕ) (t : Turn) (H : List Turn) → taken_count (journal s d H) ≤ taken_count (journal s d (t ∷ H))
taken_grows s d t H = taken_begins (journal s d H) (journal s d (t ∷ H)) (journal_more s d t H)

pub commits_more : (d : ℕ) (t : Turn) (H : List Turn) → commits d H ≤ commits d (t ∷ H)
commits_more d (Write r, a) H = le_if (is_committed a && is_ready_for d (hand r H)) (commits d H)
commits_more d (_, a) H = omega arith

-- ---- messages

-- a message that is sent is in its line, within the window
pub sent_bound : (s : Setting) (d n : ℕ) (H : List Turn) → Lawful s H → message_sent d n H ≡ true → IsWithin (length s.rows) d × (1 ≤ n) × (n ≤ message_count s d) × (n ≤ acked d H + 4)
sent_bound s d n [] L h = absurd (cc)
sent_bound s d n ((Send e m, a) ∷ H) L h =
    ⊎_elim
    (λ (now : (is_sent a && (d == e.0) && (n == m)) ≡ true).
    let t = all_of (is_sent a) d e.0 n m now in
    let w = in_window (acked e.0 H) m (message_count s e.0) (sent_if _ a L.1 t.0) in
    let r : IsWithin (length s.rows) d × (1 ≤ n) × (n ≤ message_count s d) × (n ≤ acked d H + 4) = rw (t.1, t.2) (L.0.0, L.0.1, w.2, w.1) in
    r)
    (sent_bound s d n H L.2)
    (or_true (is_sent a && (d == e.0) && (n == m)) (message_sent d n H) h)
sent_bound s d n ((Reply e m, a) ∷ H) L h =
    let ih = sent_bound s d n H L.2 h in
    let up = max_if (is_acked a && (d == e.0)) m (acked d H) in
    (ih.0, ih.1, ih.2, omega arith)
sent_bound s d n ((_, a) ∷ H) L h = sent_bound s d n H L.2 h

-- none above the greatest was sent
greatest_if : (n m : ℕ) (x b : Bool) (g : ℕ) → (b ≡ true → n ≤ g) → ((x && (n == m)) || b) ≡ true → n ≤ cond x (max m g) g
greatest_if n m true b g k h = ⊎_elim (λ (e : (n == m) ≡ true). let q = same_number n m e in omega arith) (λ (e : b ≡ true). let q = k e in omega arith) (or_true (n == m) b h)
greatest_if n m false b g k h = k h

pub sent_greatest : (d n : ℕ) (H : List Turn) → message_sent d n H ≡ true → n ≤ greatest_sent d H
sent_greatest d n [] h = absurd (cc)
sent_greatest d n ((Send e m, a) ∷ H) h = greatest_if n m (is_sent a && (d == e.0)) (message_sent d n H) (greatest_sent d H) (sent_greatest d n H) h
sent_greatest d n ((_, a) ∷ H) h = sent_greatest d n H h

-- ---- effects

pub pushed_bound : (s : Setting) (d : ℕ) (l : Lane) (k : ℕ) (H : List Turn) → Lawful s H → effect_pushed d l k H ≡ true → IsWithin (length s.rows) d × (1 ≤ k) × (k ≤ pushed_count l (journal s d H))
pushed_bound s d l k [] L h = absurd (cc)
pushed_bound s d l k ((Push e m j, a) ∷ H) L h =
    ⊎_elim
    (λ (now : (is_pushed a && (d == e.0) && same_lane l m && (k == j)) ≡ true).
    let t = all_on (is_pushed a) d e.0 l m k j now in
    let w = in_outbox (settled e.0 m H) j (pushed_count m (journal s e.0 H)) (pushed_if _ a L.1 t.0) in
    let r : IsWithin (length s.rows) d × (1 ≤ k) × (k ≤ pushed_count l (journal s d H)) = rw (t.1, t.2, t.3) (L.0.0, L.0.1, w.1) in
    r)
    (pushed_bound s d l k H L.2)
    (or_true (is_pushed a && (d == e.0) && same_lane l m && (k == j)) (effect_pushed d l k H) h)
pushed_bound s d l k ((Write r, a) ∷ H) L h =
    let ih = pushed_bound s d l k H L.2 h in
    let up = lane_more s d l (Write r, a) H in
    (ih.0, ih.1, omega arith)
pushed_bound s d l k ((_, a) ∷ H) L h = pushed_bound s d l k H L.2 h

-- what was accepted was made
pub accepted_bound : (s : Setting) (d : ℕ) (l : Lane) (H : List Turn) → Lawful s H → accepted d l H ≤ pushed_count l (journal s d H)
accepted_bound s d l [] L = omega arith
accepted_bound s d l ((Effect e m k, a) ∷ H) L =
    max_of (is_accepted a && (d == e.0) && same_lane l m) k (accepted d l H) (pushed_count l (journal s d H))
    (λ (now : (is_accepted a && (d == e.0) && same_lane l m) ≡ true).
    let p = and_true (is_accepted a && (d == e.0)) (same_lane l m) now in
    let q = and_true (is_accepted a) (d == e.0) p.0 in
    let f = accepted_if (k == accepted e.0 m H + 1) (nat_le k (accepted e.0 m H)) k (accepted e.0 m H) (effect_pushed e.0 m k H) a L.1 q.0 in
    let same : d ≡ e.0 = same_number d e.0 q.1 in
    let r : k ≤ pushed_count l (journal s d H) = rw (same, same_lane_true l m p.1) ((pushed_bound s e.0 m k H L.2 f.0).2) in
    r)
    (accepted_bound s d l H L.2)
accepted_bound s d l ((Write r, a) ∷ H) L =
    let ih = accepted_bound s d l H L.2 in
    let up = lane_more s d l (Write r, a) H in
    omega arith
accepted_bound s d l ((_, a) ∷ H) L = accepted_bound s d l H L.2

accept_step : (k j m : ℕ) (hit b : Bool) → (hit ≡ true → j ≡ m + 1) → 1 ≤ k → b ≡ nat_le k m → ((hit && (k == j)) || b) ≡ nat_le k (cond hit (max j m) m)
accept_step k j m true b is h e = let j_is = is refl in rw (e, j_is) (grind (arith, common_steps))
accept_step k j m false b is h e = e

repeat_step : (k j m : ℕ) (hit b : Bool) → (hit ≡ true → j ≤ m) → 1 ≤ k → b ≡ nat_le k m → ((hit && (k == j)) || b) ≡ nat_le k m
repeat_step k j m true b is h e = let j_is = is refl in rw e (grind (arith, common_steps))
repeat_step k j m false b is h e = e

-- an effect was received exactly where it is at most the last one that was accepted
pub received_is : (s : Setting) (d : ℕ) (l : Lane) (k : ℕ) (H : List Turn) → Lawful s H → 1 ≤ k → effect_received d l k H ≡ nat_le k (accepted d l H)
received_is s d l k [] L h = grind (arith, common_steps)
received_is s d l k ((Effect e m j, a) ∷ H) L h =
    let ih = received_is s d l k H L.2 h in
    ⊎_elim
    (λ (c : (is_accepted a ≡ true) × (is_received a ≡ true) × ((j == accepted e.0 m H + 1) ≡ true)).
    rw (c.0, c.1) (accept_step k j (accepted d l H) ((d == e.0) && same_lane l m) (effect_received d l k H)
    (λ same. let q = same_on d e.0 l m same in let r : j ≡ accepted d l H + 1 = rw (q.0, q.1) (same_number j (accepted e.0 m H + 1) c.2) in r) h ih))
    (λ (other : ((is_accepted a ≡ false) × (is_received a ≡ true) × (nat_le j (accepted e.0 m H) ≡ true)) ⊎ ((is_accepted a ≡ false) × (is_received a ≡ false))).
    ⊎_elim
    (λ (c : (is_accepted a ≡ false) × (is_received a ≡ true) × (nat_le j (accepted e.0 m H) ≡ true)).
    rw (c.0, c.1) (repeat_step k j (accepted d l H) ((d == e.0) && same_lane l m) (effect_received d l k H)
    (λ same. let q = same_on d e.0 l m same in let r : j ≤ accepted d l H = rw (q.0, q.1) (le_of j (accepted e.0 m H) c.2) in r) h ih))
    (λ (c : (is_accepted a ≡ false) × (is_received a ≡ false)). rw (c.0, c.1) ih)
    other)
    (effect_cases (j == accepted e.0 m H + 1) (nat_le j (accepted e.0 m H)) j (accepted e.0 m H) (effect_pushed e.0 m j H) a L.1)
received_is s d l k ((_, a) ∷ H) L h = received_is s d l k H L.2 h

pub received_device : (s : Setting) (d : ℕ) (l : Lane) (k : ℕ) (H : List Turn) → Lawful s H → effect_received d l k H ≡ true → IsWithin (length s.rows) d
received_device s d l k [] L h = absurd (cc)
received_device s d l k ((Effect e m j, a) ∷ H) L h =
    ⊎_elim
    (λ (now : (is_received a && (d == e.0) && same_lane l m && (k == j)) ≡ true).
    let t = all_on (is_received a) d e.0 l m k j now in
    let r : IsWithin (length s.rows) d = rw t.1 L.0.0 in
    r)
    (received_device s d l k H L.2)
    (or_true (is_received a && (d == e.0) && same_lane l m && (k == j)) (effect_received d l k H) h)
received_device s d l k ((_, a) ∷ H) L h = received_device s d l k H L.2 h

pub settled_bound : (s : Setting) (d : ℕ) (l : Lane) (H : List Turn) → Lawful s H → settled d l H ≤ accepted d l H
settled_bound s d l [] L = omega arith
settled_bound s d l ((Settle e m k, a) ∷ H) L =
    max_of (is_settled a && (d == e.0) && same_lane l m) k (settled d l H) (accepted d l H)
    (λ b. let p = and_true (is_settled a && (d == e.0)) (same_lane l m) b in
    let q = and_true (is_settled a) (d == e.0) p.0 in
    let same : d ≡ e.0 = same_number d e.0 q.1 in
    let on = settled_if (effect_received e.0 m k H) (nat_le k (settled e.0 m H)) k a L.1 q.0 in
    let low : k ≤ accepted e.0 m H = le_of k (accepted e.0 m H) (sym (received_is s e.0 m k H L.2 L.0.1) ∙ on) in
    let r : k ≤ accepted d l H = rw (same, same_lane_true l m p.1) low in
    r)
    (settled_bound s d l H L.2)
settled_bound s d l ((Effect e m k, a) ∷ H) L =
    let ih = settled_bound s d l H L.2 in
    let up = max_if (is_accepted a && (d == e.0) && same_lane l m) k (accepted d l H) in
    omega arith
settled_bound s d l ((_, a) ∷ H) L = settled_bound s d l H L.2

-- ---- hands

pub sent_more : (d n : ℕ) (t : Turn) (H : List Turn) → message_sent d n H ≡ true → message_sent d n (t ∷ H) ≡ true
sent_more d n (Send e m, a) H h = or_right _ _ h
sent_more d n (_, a) H h = h

pub received_more : (d : ℕ) (l : Lane) (k : ℕ) (t : Turn) (H : List Turn) → effect_received d l k H ≡ true → effect_received d l k (t ∷ H) ≡ true
received_more d l k (Effect e m j, a) H h = or_right _ _ h
received_more d l k (_, a) H h = h

arrival_more : (d : ℕ) (what : Arrival) (t : Turn) (H : List Turn) → IsArrival H d what → IsArrival (t ∷ H) d what
arrival_more d (TheMessage n) t H i = (i.0, sent_more d n t H i.1)
arrival_more d (TheAnswer l k) t H i = (i.0, i.1, received_more d l k t H i.2)

hand_more : (s : Setting) (h : Held) (t : Turn) (H : List Turn) → IsHand s H h → IsHand s (t ∷ H) h
hand_more s Nothing t H i = tt
hand_more s (Taken d what) t H i = arrival_more d what t H i
hand_more s (Ready d what v) t H i = (arrival_more d what t H i.0, (let up = commits_more d t H in let low = i.1 in omega arith), i.2, i.3)

pub arrival_device : (s : Setting) (H : List Turn) (d : ℕ) (what : Arrival) → Lawful s H → IsArrival H d what → IsWithin (length s.rows) d
arrival_device s H d (TheMessage n) L i = (sent_bound s d n H L i.1).0
arrival_device s H d (TheAnswer l k) L i = received_device s d l k H L i.2

-- the answer to a call arrives only where the call was made
pub answer_made : (s : Setting) (H : List Turn) (d : ℕ) (l : Lane) (k : ℕ) → Lawful s H → IsArrival H d (TheAnswer l k) → k ≤ pushed_count l (journal s d H)
answer_made s H d l k L i =
    let low : k ≤ accepted d l H = le_of k (accepted d l H) (sym (received_is s d l k H L i.1) ∙ i.2) in
    let made = accepted_bound s d l H L in
    omega arith

not_awaited : (o : Option (Lane × ℕ)) → unless_awaited o ≡ look.Ready → o ≡ None
not_awaited None h = refl
not_awaited (Some call) h = absurd (cc)

awaited_is : (o : Option (Lane × ℕ)) (l : Lane) (k : ℕ) → is_call o l k ≡ true → o ≡ Some (l, k)
awaited_is None l k h = absurd (cc)
awaited_is (Some call) l k h = let p = and_true (same_lane call.0 l) (call.1 == k) h in rw (← same_lane_true call.0 l p.0, ← same_number call.1 k p.1) refl

-- where the row says Ready, what arrived comes next
pub look_ready : (s : Setting) (H : List Turn) (d : ℕ) (what : Arrival) → Lawful s H → IsArrival H d what → look_at (journal s d H) what ≡ look.Ready → next_input (row_of s d) (messages_of s d) (journal s d H) ≡ Some (input_of s d what)
look_ready s H d (TheMessage n) L i h =
    let J = journal s d H in
    let ms = messages_of s d in
    let r = ready_message _ _ _ n (taken_count J) (unless_awaited (awaited_call J)) h in
    let is : n ≡ taken_count J + 1 = next_number n (taken_count J) r.0 r.1 in
    let low : taken_count J < length ms = let b = (sent_bound s d n H L i.1).2 in omega arith in
    let less : taken_count J ≡ n - 1 = omega arith in
    ap (λ o. input_at (row_of s d) ms J o) (not_awaited (awaited_call J) r.2)
    ∙ ap (option_map inputs.Message) (slice_get-get_or ms (taken_count J) no_message low)
    ∙ ap (λ j. Some (inputs.Message (slice_index_or ms j no_message))) less
look_ready s H d (TheAnswer l k) L i h =
    let J = journal s d H in
    let row = row_of s d in
    let call = awaited_is (awaited_call J) l k (ready_answer _ _ (pushed_count l J) l k h) in
    let same : take k (effects_of l J) ≡ take k (effects_of l (entries_of s d)) = sym (Begins-take (effects_of l J) (effects_of l (entries_of s d)) k (effects_begin l J (entries_of s d) (to_alone row (messages_of s d) (commits d H))) (answer_made s H d l k L i)) in
    ap (λ o. input_at row (messages_of s d) J o) call ∙ ap (λ calls. Some (inputs.Answer l k (answer_of row calls))) same

after_look : (s : Setting) (H : List Turn) (d : ℕ) (what : Arrival) (l : Look) (a : EventAnswer) → Lawful s H → IsArrival H d what → look_at (journal s d H) what ≡ l → a ≡ look_answer (commits d H) l → IsHand s H (after_read a (Taken d what))
after_look s H d what look.Ready a L i h e = rw e (i, omega arith, h, look_ready s H d what L i h)
after_look s H d what (look.Repeat n) a L i h e = rw e i
after_look s H d what (look.Settled n) a L i h e = rw e i
after_look s H d what (look.Ahead n) a L i h e = rw e i
after_look s H d what (look.Waiting l k) a L i h e = rw e i
after_look s H d what (look.Old l k) a L i h e = rw e i
after_look s H d what (look.NotAwaited n) a L i h e = rw e i

-- a second read is as the first
pub read_again : (a : EventAnswer) (d : ℕ) (what : Arrival) (v : ℕ) → after_read a (Ready d what v) ≡ after_read a (Taken d what)
read_again (told.Ready w) d what v = refl
read_again _ d what v = refl

pub read_nothing : (a : EventAnswer) → after_read a Nothing ≡ Nothing
read_nothing (told.Ready w) = refl
read_nothing _ = refl

read_keeps : (s : Setting) (H : List Turn) (h : Held) (a : EventAnswer) → Lawful s H → a ≡ read_answer s H h → IsHand s H h → IsHand s H (after_read a h)
read_keeps s H Nothing a L e i = rw (read_nothing a) tt
read_keeps s H (Taken d what) a L e i = after_look s H d what (look_at (journal s d H) what) a L i refl e
read_keeps s H (Ready d what v) a L e i = rw (read_again a d what v) (after_look s H d what (look_at (journal s d H) what) a L i.0 refl e)

-- a read by a replica that there is not makes no step
void_keeps : (s : Setting) (H : List Turn) (h : Held) → IsHand s H h → IsHand s H (after_read told.VoidReplica h)
void_keeps s H Nothing i = tt
void_keeps s H (Taken d what) i = i
void_keeps s H (Ready d what v) i = i.0

read_or_void : (s : Setting) (H : List Turn) (h : Held) (b : Bool) (a : EventAnswer) → Lawful s H → a ≡ cond b (read_answer s H h) told.VoidReplica → IsHand s H h → IsHand s H (after_read a h)
read_or_void s H h true a L e i = read_keeps s H h a L e i
read_or_void s H h false a L e i = rw e (void_keeps s H h i)

hand_if : (s : Setting) (H : List Turn) (b : Bool) (x y : Held) → (b ≡ true → IsHand s H x) → IsHand s H y → IsHand s H (cond b x y)
hand_if s H true x y i j = i refl
hand_if s H false x y i j = j

-- what a replica holds was on its link, and its step is of the input that comes next behind the version that was read
pub hand_ok : (s : Setting) (r : ℕ) (H : List Turn) → Lawful s H → IsHand s H (hand r H)
hand_ok s r [] L = tt
hand_ok s r ((Take q d n, a) ∷ H) L =
    hand_if s H (is_taken a && (q == r)) (Taken d.0 (TheMessage n)) (hand r H)
    (λ b. (L.0.2, taken_if _ _ a L.1 (and_true (is_taken a) (q == r) b).0))
    (hand_ok s r H L.2)
hand_ok s r ((Answer q d l k, a) ∷ H) L =
    hand_if s H (is_taken a && (q == r)) (Taken d.0 (TheAnswer l k)) (hand r H)
    (λ b. (L.0.2, L.0.3, taken_if _ _ a L.1 (and_true (is_taken a) (q == r) b).0))
    (hand_ok s r H L.2)
hand_ok s r ((Read q, a) ∷ H) L =
    hand_if s H (q == r) (after_read a (hand r H)) (hand r H)
    (λ b. let same : q ≡ r = same_number q r b in
    let e : a ≡ on_replica s r (read_answer s H (hand r H)) = rw same at L.1 in
    read_or_void s H (hand r H) (nat_le r s.replicas) a L.2 e (hand_ok s r H L.2))
    (hand_ok s r H L.2)
hand_ok s r ((Write q, a) ∷ H) L =
    hand_if s ((Write q, a) ∷ H) (is_written a && (q == r)) Nothing (hand r H) (λ b. tt) (hand_more s (hand r H) (Write q, a) H (hand_ok s r H L.2))
hand_ok s r ((Stop q, a) ∷ H) L = hand_if s H (is_stopped a && (q == r)) Nothing (hand r H) (λ b. tt) (hand_ok s r H L.2)
hand_ok s r ((e, a) ∷ H) L = hand_more s (hand r H) (e, a) H (hand_ok s r H L.2)

-- ---- commits

-- a commit of device d is by a hand with its step, at the version that d has
committed_hand : (s : Setting) (H : List Turn) (d : ℕ) (h : Held) (b : Bool) (a : EventAnswer) → a ≡ cond b (write_answer H h) told.VoidReplica → (is_committed a && is_ready_for d h) ≡ true → (what : Arrival) × (h ≡ Ready d what (commits d H))
committed_hand s H d h false a e t = absurd (let f = ap is_committed e in let p = and_true (is_committed a) (is_ready_for d h) t in cc)
committed_hand s H d Nothing true a e t = absurd (let p = and_true (is_committed a) false t in cc)
committed_hand s H d (Taken f what) true a e t = absurd (let p = and_true (is_committed a) false t in cc)
committed_hand s H d (Ready f what v) true a e t =
    let p = and_true (is_committed a) (d == f) t in
    let same : d ≡ f = same_number d f p.1 in
    let at : commits f H ≡ v = same_number (commits f H) v (committed_if (commits f H == v) (v + 1) (commits f H) v a e p.0) in
    (what, let r : Ready f what v ≡ Ready d what (commits d H) = rw (same, at) refl in r)

-- at a commit the next entry is that of the hand
pub commit_entry : (s : Setting) (H : List Turn) (r d : ℕ) (a : EventAnswer) → Lawful s H → a ≡ on_replica s r (write_answer H (hand r H)) → (is_committed a && is_ready_for d (hand r H)) ≡ true → (what : Arrival) × (hand r H ≡ Ready d what (commits d H)) × IsArrival H d what × (look_at (journal s d H) what ≡ look.Ready) × (next_input (row_of s d) (messages_of s d) (journal s d H) ≡ Some (input_of s d what))
commit_entry s H r d a L e t =
    let c = committed_hand s H d (hand r H) (nat_le r s.replicas) a e t in
    let i = subst (IsHand s H) c.1 (hand_ok s r H L) in
    (c.0, c.1, i.0, i.2, i.3)

-- the version of a row is the number of its commits
pub version_is : (s : Setting) (d : ℕ) (H : List Turn) → Lawful s H → length (journal s d H) ≡ commits d H
version_is s d [] L = refl
version_is s d ((Write r, a) ∷ H) L = at (version_is s d H L.2) (is_committed a && is_ready_for d (hand r H)) refl
  where
    at : length (journal s d H) ≡ commits d H → (b : Bool) → (is_committed a && is_ready_for d (hand r H)) ≡ b → length (entries_to s d (cond b (suc (commits d H)) (commits d H))) ≡ cond b (suc (commits d H)) (commits d H)
    at ih false t = ih
    at ih true t =
        let c = commit_entry s H r d a L.2 L.1 t in
        let e = entry_of (row_of s d) (journal s d H) (input_of s d c.0) in
        let long = ap length (to_push (row_of s d) (messages_of s d) (commits d H) (input_of s d c.0) c.4) in
        let one = length-append (journal s d H) (e ∷ []) in
        omega arith
version_is s d ((_, a) ∷ H) L = version_is s d H L.2

-- ---- messages that were taken

-- a message that the row takes is the first that was not taken
ready_number : (J : List Entry) (n : ℕ) → look_at J (TheMessage n) ≡ look.Ready → n ≡ taken_count J + 1
ready_number J n h = let r = ready_message _ _ _ n (taken_count J) (unless_awaited (awaited_call J)) h in next_number n (taken_count J) r.0 r.1

-- what a commit makes of the number of messages that were taken
taken_then : (s : Setting) (d : ℕ) (H : List Turn) (what : Arrival) → next_input (row_of s d) (messages_of s d) (journal s d H) ≡ Some (input_of s d what) → taken_count (entries_to s d (suc (commits d H))) ≡ taken_count (journal s d H) + cond (is_message (input_of s d what)) 1 0
taken_then s d H what h = ap taken_count (to_push (row_of s d) (messages_of s d) (commits d H) (input_of s d what) h) ∙ taken_more (journal s d H) (entry_of (row_of s d) (journal s d H) (input_of s d what))

not_with : (d n : ℕ) (g : Held) (x : Bool) → (x && is_ready_for d g) ≡ false → (x && is_ready_with d n g) ≡ false
not_with d n g false e = refl
not_with d n (Ready f (TheMessage m) v) true e = rw e refl
not_with d n (Ready f (TheAnswer l k) v) true e = refl
not_with d n (Taken f what) true e = refl
not_with d n Nothing true e = refl

reply_step : (d n m t : ℕ) (b : Bool) → b ≡ nat_le n t → m ≡ t + 1 → (((d == d) && (n == m)) || b) ≡ nat_le n (t + 1)
reply_step d n m t b e is = rw (e, is) (grind (arith, common_steps))

reply_then : (s : Setting) (d n : ℕ) (H : List Turn) (what : Arrival) → 1 ≤ n → reply_sent d n H ≡ nat_le n (taken_count (journal s d H)) → look_at (journal s d H) what ≡ look.Ready → next_input (row_of s d) (messages_of s d) (journal s d H) ≡ Some (input_of s d what) → (is_ready_with d n (Ready d what (commits d H)) || reply_sent d n H) ≡ nat_le n (taken_count (entries_to s d (suc (commits d H))))
reply_then s d n H (TheMessage m) low ih ready next = rw (taken_then s d H (TheMessage m) next) (reply_step d n m (taken_count (journal s d H)) (reply_sent d n H) ih (ready_number (journal s d H) m ready))
reply_then s d n H (TheAnswer l k) low ih ready next = rw (taken_then s d H (TheAnswer l k) next, add-zero) ih

-- a reply is on its link exactly where its message was taken
pub reply_is : (s : Setting) (d n : ℕ) (H : List Turn) → Lawful s H → 1 ≤ n → reply_sent d n H ≡ nat_le n (taken_count (journal s d H))
reply_is s d n [] L h = grind (arith, common_steps)
reply_is s d n ((Write r, a) ∷ H) L h = at (reply_is s d n H L.2 h) (is_committed a && is_ready_for d (hand r H)) refl
  where
    at : reply_sent d n H ≡ nat_le n (taken_count (journal s d H)) → (b : Bool) → (is_committed a && is_ready_for d (hand r H)) ≡ b → ((is_committed a && is_ready_with d n (hand r H)) || reply_sent d n H) ≡ nat_le n (taken_count (entries_to s d (cond b (suc (commits d H)) (commits d H))))
    at ih false t = rw (not_with d n (hand r H) (is_committed a) t) ih
    at ih true t =
        let c = commit_entry s H r d a L.2 L.1 t in
        rw (c.1, (and_true (is_committed a) (is_ready_for d (hand r H)) t).0) (reply_then s d n H c.0 h ih c.3 c.4)
reply_is s d n ((_, a) ∷ H) L h = reply_is s d n H L.2 h

-- an acknowledged message was taken
pub acked_bound : (s : Setting) (d : ℕ) (H : List Turn) → Lawful s H → acked d H ≤ taken_count (journal s d H)
acked_bound s d [] L = omega arith
acked_bound s d ((Reply e n, a) ∷ H) L =
    max_of (is_acked a && (d == e.0)) n (acked d H) (taken_count (journal s d H))
    (λ b. let p = and_true (is_acked a) (d == e.0) b in
    let same : d ≡ e.0 = same_number d e.0 p.1 in
    let on = acked_if (reply_sent e.0 n H) (nat_lt (acked e.0 H) n) n a L.1 p.0 in
    let low : n ≤ taken_count (journal s e.0 H) = le_of n (taken_count (journal s e.0 H)) (sym (reply_is s e.0 n H L.2 L.0.1) ∙ on) in
    let r : n ≤ taken_count (journal s d H) = rw same low in
    r)
    (acked_bound s d H L.2)
acked_bound s d ((Write r, a) ∷ H) L =
    let ih = acked_bound s d H L.2 in
    let up = taken_grows s d (Write r, a) H in
    omega arith
acked_bound s d ((_, a) ∷ H) L = acked_bound s d H L.2

-- no more is taken than was sent, and than the window lets through
taken_low : (s : Setting) (d bound : ℕ) (H : List Turn) (r : ℕ) (a : EventAnswer) → Lawful s H → a ≡ on_replica s r (write_answer H (hand r H)) → ((n : ℕ) → message_sent d n H ≡ true → n ≤ bound) → taken_count (journal s d H) ≤ bound → taken_count (journal s d ((Write r, a) ∷ H)) ≤ bound
taken_low s d bound H r a L is low ih = at (is_committed a && is_ready_for d (hand r H)) refl
  where
    with : (what : Arrival) → IsArrival H d what → look_at (journal s d H) what ≡ look.Ready → next_input (row_of s d) (messages_of s d) (journal s d H) ≡ Some (input_of s d what) → taken_count (entries_to s d (suc (commits d H))) ≤ bound
    with (TheMessage m) i ready next =
        let n = ready_number (journal s d H) m ready in
        let b = low m i.1 in
        let e = taken_then s d H (TheMessage m) next in
        omega arith
    with (TheAnswer l k) i ready next = let e = taken_then s d H (TheAnswer l k) next in omega arith

    at : (b : Bool) → (is_committed a && is_ready_for d (hand r H)) ≡ b → taken_count (entries_to s d (cond b (suc (commits d H)) (commits d H))) ≤ bound
    at false t = ih
    at true t =
        let c = commit_entry s H r d a L is t in
        with c.0 c.2 c.3 c.4

pub taken_bound : (s : Setting) (d : ℕ) (H : List Turn) → Lawful s H → taken_count (journal s d H) ≤ acked d H + 4
taken_bound s d [] L = omega arith
taken_bound s d ((Reply e n, a) ∷ H) L =
    let ih = taken_bound s d H L.2 in
    let up = max_if (is_acked a && (d == e.0)) n (acked d H) in
    omega arith
taken_bound s d ((Write r, a) ∷ H) L = taken_low s d (acked d H + 4) H r a L.2 L.1 (λ n h. (sent_bound s d n H L.2 h).3) (taken_bound s d H L.2)
taken_bound s d ((_, a) ∷ H) L = taken_bound s d H L.2

pub taken_sent : (s : Setting) (d : ℕ) (H : List Turn) → Lawful s H → taken_count (journal s d H) ≤ greatest_sent d H
taken_sent s d [] L = omega arith
taken_sent s d ((Send e n, a) ∷ H) L =
    let ih = taken_sent s d H L.2 in
    let up = max_if (is_sent a && (d == e.0)) n (greatest_sent d H) in
    omega arith
taken_sent s d ((Write r, a) ∷ H) L = taken_low s d (greatest_sent d H) H r a L.2 L.1 (λ n h. sent_greatest d n H h) (taken_sent s d H L.2)
taken_sent s d ((_, a) ∷ H) L = taken_sent s d H L.2
