-- What is promised of every list of events.
use Rattle.std.proofs.Common.{◌≡◌, ◌==◌, ◌⊎◌, ⊎_elim, inl, inr, ℕ, suc, ◌+◌, ◌-◌, ◌≤◌, ◌<◌, Bool, true, false, cond, ◌&&◌, List, [], ◌∷◌, ◌++◌, length, take, Option, Some, None, All, refl, sym, ap, ◌∙◌, subst, arith, append_assoc, append-nil, length-append}
use Rattle.std.specs.Prelude.{◌≢◌, ◌↔◌, slice_get, option_map, nat_le, nat_lt, IsSome, IsSomeAnd}
use Rattle.std.specs.List.{fold}
use Rattle.std.proofs.lemmas.Bool.{cases_eq, cases_lt}
use Rattle.std.proofs.lemmas.List.Elements.{All-head, All-tail}
use Rattle.std.proofs.lemmas.Option.{slice_get-get_or}
use Rattle.device_types.specs.declared.event.Event.{Event}
use Rattle.device_types.specs.declared.event.Event.TheVariants.{Send, Take, Answer, Read, Write, Stop, Reply, Push, Effect, Settle}
use Rattle.device_types.specs.declared.event.EventAnswer.{EventAnswer}
use Rattle.device_types.specs.declared.event.EventAnswer.TheVariants as told
use Rattle.device_types.specs.declared.event.Lane.{Lane}
use Rattle.device_types.specs.declared.look.Look.{Look}
use Rattle.device_types.specs.declared.look.Look.TheVariants as look
use Rattle.device_types.specs.declared.step.Entry.{Entry}
use Rattle.device_types.specs.Alone.{entry_of}
use Rattle.device_types.specs.Journal.{pushed_count, effects_of, taken_count, reply_of, replies_of, awaited_call}
use Rattle.device_types.specs.Look.{unless_awaited, same_lane, is_call}
use Rattle.device_types.proofs.Journals.{reply_stays, length-replies, taken_more}
use Rattle.device_types.proofs.Prefixes.{full, prefix, entry_at}
use Rattle.device_types.specs.declared.step.Reply.{Reply as StepReply}
use Rattle.schedule_laws.specs.Answer.{look_at, look_answer, looked, read_answer, write_answer, on_replica, answer, turn, history, IsEvent, Lawful}
use Rattle.schedule_laws.specs.Counts.{greatest_sent, settled, effect_pushed, Turn, Arrival, Held, hand, after_read, commits, acked, accepted, message_sent, reply_sent, effect_received, journal, is_sent, is_taken, is_acked, is_accepted, is_received, is_committed, is_written, is_stopped, is_settled, is_pushed}
use Rattle.schedule_laws.specs.Counts.Arrival.{TheMessage, TheAnswer}
use Rattle.schedule_laws.specs.Counts.Held.{Nothing, Taken, Ready}
use Rattle.device_types.specs.declared.effect.Effect.TheVariants as effects
use Rattle.device_types.specs.declared.effect.SubCall.TheVariants as calls
use Rattle.schedule_laws.specs.Input.{IsArrival, no_message, input_of, IsHand}
use Rattle.schedule_laws.specs.Packets.{if_so, message_packet, reply_packet, effect_packet}
use Rattle.schedule_laws.specs.Promise.{is_void, HasSameCounts, IsAsBefore, Holds}
use Rattle.schedule_laws.specs.Setting.{Setting, row_of, messages_of, entries_to, entries_of}
use Rattle.schedule_laws.proofs.Laws.{answer_made, sent_bound, pushed_bound, version_is, accepted_bound, received_is, reply_is, hand_ok, taken_bound, read_nothing, read_again}
use Rattle.schedule_laws.proofs.Runs.{Begins-length, Begins-take, effects_begin, to_alone, to_push}
use Rattle.schedule_laws.proofs.Comparisons.{max_if, or_right, lt_false, and_true, same_number, le_true, le_false, here, not_here, le_of, gt_of}

-- ---- events make a lawful history

lawful_fold : (s : Setting) (H : List Turn) (es : List Event) → Lawful s H → All (IsEvent s) es → Lawful s (fold (turn s) H es)
lawful_fold s H [] L a = L
lawful_fold s H (e ∷ es) L a = lawful_fold s (turn s H e) es (All-head (IsEvent s) e es a, refl, L) (All-tail (IsEvent s) e es a)

pub lawful : (s : Setting) (es : List Event) → All (IsEvent s) es → Lawful s (history s es)
lawful s es a = lawful_fold s [] es tt a

-- ---- committed steps

pub journal_alone : (s : Setting) (d : ℕ) (H : List Turn) → Lawful s H → journal s d H ≡ take (commits d H) (entries_of s d)
journal_alone s d H L =
    let b = Begins-length (journal s d H) (entries_of s d) (to_alone (row_of s d) (messages_of s d) (commits d H)) in
    let v = version_is s d H L in
    sym (prefix (row_of s d) (messages_of s d) (commits d H) (omega arith))

-- ---- accepted effects

pub accepted_alone : (s : Setting) (d : ℕ) (l : Lane) (H : List Turn) → Lawful s H → take (accepted d l H) (effects_of l (journal s d H)) ≡ take (accepted d l H) (effects_of l (entries_of s d))
accepted_alone s d l H L = sym (Begins-take (effects_of l (journal s d H)) (effects_of l (entries_of s d)) (accepted d l H) (effects_begin l (journal s d H) (entries_of s d) (to_alone (row_of s d) (messages_of s d) (commits d H))) (accepted_bound s d l H L))

-- ---- writes

on : (s : Setting) (r : ℕ) (a : EventAnswer) → r ≤ s.replicas → on_replica s r a ≡ a
on s r a h = rw (le_true r s.replicas h) refl

commits_here : (H : List Turn) (d v : ℕ) → commits d H ≡ v → (commits d H == v) ≡ true
commits_here H d v h = rw h (here v)

committed_here : (b : Bool) (v w : ℕ) → cond b (told.Committed (v + 1)) (told.Stale v w) ≡ told.Committed (v + 1) → b ≡ true
committed_here true v w h = refl
committed_here false v w h = absurd (let f = ap is_committed h in cc)

-- a step is committed exactly where the version that was read is current
pub writes_current : (s : Setting) (H : List Turn) (r d v : ℕ) (what : Arrival) → r ≤ s.replicas → hand r H ≡ Ready d what v → (answer s H (Write r) ≡ told.Committed (v + 1)) ↔ (commits d H ≡ v)
writes_current s H r d v what low h =
    let e : answer s H (Write r) ≡ cond (commits d H == v) (told.Committed (v + 1)) (told.Stale v (commits d H)) = on s r (write_answer H (hand r H)) low ∙ ap (write_answer H) h in
    ((λ c. same_number (commits d H) v (committed_here (commits d H == v) v (commits d H) (sym e ∙ c))), (λ c. e ∙ ap (λ b. cond b (told.Committed (v + 1)) (told.Stale v (commits d H))) (commits_here H d v c)))

-- and is stale otherwise
pub writes_stale : (s : Setting) (H : List Turn) (r d v : ℕ) (what : Arrival) → r ≤ s.replicas → hand r H ≡ Ready d what v → commits d H ≢ v → answer s H (Write r) ≡ told.Stale v (commits d H)
writes_stale s H r d v what low h ne =
    on s r (write_answer H (hand r H)) low ∙ ap (write_answer H) h ∙ ap (λ b. cond b (told.Committed (v + 1)) (told.Stale v (commits d H))) (not_here v (commits d H) ne)

-- the step of a hand is the next one of the machine that never fails
pub step_is_next : (s : Setting) (H : List Turn) (r d v : ℕ) (what : Arrival) → Lawful s H → hand r H ≡ Ready d what v → slice_get (entries_of s d) v ≡ Some (entry_of (row_of s d) (entries_to s d v) (input_of s d what))
step_is_next s H r d v what L h =
    let row = row_of s d in
    let ms = messages_of s d in
    let i = subst (IsHand s H) h (hand_ok s r H L) in
    let e = entry_of row (entries_to s d v) (input_of s d what) in
    let more = ap length (to_push row ms v (input_of s d what) i.3) ∙ length-append (entries_to s d v) (e ∷ []) in
    let room = Begins-length (entries_to s d (suc v)) (entries_of s d) (to_alone row ms (suc v)) in
    let all = full row ms v (input_of s d what) i.3 in
    sym (entry_at row ms v (omega arith)) ∙ ap (option_map (entry_of row (entries_to s d v))) i.3

-- ---- with one replica

abbrev IsCurrent : List Turn → Held → Type 0
IsCurrent H Nothing = Unit {0}
IsCurrent H (Taken d what) = Unit {0}
IsCurrent H (Ready d what v) = v ≡ commits d H

current_more : (H K : List Turn) (h : Held) → ((d : ℕ) → commits d K ≡ commits d H) → IsCurrent H h → IsCurrent K h
current_more H K Nothing same c = tt
current_more H K (Taken d what) same c = tt
current_more H K (Ready d what v) same c = c ∙ sym (same d)

current_if : (H : List Turn) (b : Bool) (x y : Held) → (b ≡ true → IsCurrent H x) → (b ≡ false → IsCurrent H y) → IsCurrent H (cond b x y)
current_if H true x y i j = i refl
current_if H false x y i j = j refl

look_current : (H : List Turn) (d : ℕ) (what : Arrival) (l : Look) (a : EventAnswer) → a ≡ look_answer (commits d H) l → IsCurrent H (after_read a (Taken d what))
look_current H d what look.Ready a e = rw e refl
look_current H d what (look.Repeat n) a e = rw e tt
look_current H d what (look.Settled n) a e = rw e tt
look_current H d what (look.Ahead n) a e = rw e tt
look_current H d what (look.Waiting l k) a e = rw e tt
look_current H d what (look.Old l k) a e = rw e tt
look_current H d what (look.NotAwaited n) a e = rw e tt

read_current : (s : Setting) (H : List Turn) (h : Held) (b : Bool) (a : EventAnswer) → a ≡ cond b (read_answer s H h) told.VoidReplica → IsCurrent H (after_read a h)
read_current s H Nothing b a e = rw (read_nothing a) tt
read_current s H (Taken d what) true a e = look_current H d what (look_at (journal s d H) what) a e
read_current s H (Taken d what) false a e = rw e tt
read_current s H (Ready d what v) true a e = rw (read_again a d what v) (look_current H d what (look_at (journal s d H) what) a e)
read_current s H (Ready d what v) false a e = rw e tt

skips : (b : Bool) (x y : Held) → (b ≡ true → ⊥) → cond b x y ≡ y
skips true x y h = absurd (h refl)
skips false x y h = refl

both : (b : Bool) (x : Held) → cond b x x ≡ x
both true x = refl
both false x = refl

-- a replica that there is not holds nothing
pub no_hand : (s : Setting) (r : ℕ) (H : List Turn) → Lawful s H → nat_le r s.replicas ≡ false → hand r H ≡ Nothing
no_hand s r [] L none = refl
no_hand s r ((Take q d n, a) ∷ H) L none =
    skips (is_taken a && (q == r)) _ (hand r H)
    (λ b. let p = and_true (is_taken a) (q == r) b in
    let e : is_taken a ≡ false = ap is_taken L.1 ∙ ap (λ i. is_taken (on_replica s i (cond (message_sent d.0 n H) told.Taken told.VoidLink))) (same_number q r p.1) ∙ ap (λ c. is_taken (cond c (cond (message_sent d.0 n H) told.Taken told.VoidLink) told.VoidReplica)) none in
    let f = p.0 in cc)
    ∙ no_hand s r H L.2 none
no_hand s r ((Answer q d l k, a) ∷ H) L none =
    skips (is_taken a && (q == r)) _ (hand r H)
    (λ b. let p = and_true (is_taken a) (q == r) b in
    let e : is_taken a ≡ false = ap is_taken L.1 ∙ ap (λ i. is_taken (on_replica s i (cond (effect_received d.0 l k H) told.Taken told.VoidLink))) (same_number q r p.1) ∙ ap (λ c. is_taken (cond c (cond (effect_received d.0 l k H) told.Taken told.VoidLink) told.VoidReplica)) none in
    let f = p.0 in cc)
    ∙ no_hand s r H L.2 none
no_hand s r ((Read q, a) ∷ H) L none = rw (no_hand s r H L.2 none, read_nothing a) (both (q == r) Nothing)
no_hand s r ((Write q, a) ∷ H) L none = rw (no_hand s r H L.2 none) (both (is_written a && (q == r)) Nothing)
no_hand s r ((Stop q, a) ∷ H) L none = rw (no_hand s r H L.2 none) (both (is_stopped a && (q == r)) Nothing)
no_hand s r ((_, a) ∷ H) L none = no_hand s r H L.2 none

-- what was not written was not committed
written_if : (a : EventAnswer) → is_written a ≡ false → is_committed a ≡ false
written_if (told.Committed v) h = absurd (cc)
written_if _ h = refl

commits_if : (d r : ℕ) (H : List Turn) (a : EventAnswer) → is_committed a ≡ false → commits d ((Write r, a) ∷ H) ≡ commits d H
commits_if d r H a h = rw h refl

and_false : (b c : Bool) → (b && c) ≡ false → (b ≡ false) ⊎ (c ≡ false)
and_false true c h = inr h
and_false false c h = inl refl

none_above : (s : Setting) (r : ℕ) → s.replicas ≤ 1 → 1 < r → nat_le r s.replicas ≡ false
none_above s r one more = le_false r s.replicas (omega arith)

-- the one replica's step is at the version that its device has
pub current : (s : Setting) (r : ℕ) (H : List Turn) → Lawful s H → s.replicas ≤ 1 → 1 ≤ r → IsCurrent H (hand r H)
current s r [] L one low = tt
current s r ((Take q d n, a) ∷ H) L one low =
    let K = (Take q d n, a) ∷ H in
    current_if K (is_taken a && (q == r)) (Taken d.0 (TheMessage n)) (hand r H) (λ b. tt) (λ b. current_more H K (hand r H) (λ d. refl) (current s r H L.2 one low))
current s r ((Answer q d l k, a) ∷ H) L one low =
    let K = (Answer q d l k, a) ∷ H in
    current_if K (is_taken a && (q == r)) (Taken d.0 (TheAnswer l k)) (hand r H) (λ b. tt) (λ b. current_more H K (hand r H) (λ d. refl) (current s r H L.2 one low))
current s r ((Read q, a) ∷ H) L one low =
    let K = (Read q, a) ∷ H in
    current_if K (q == r) (after_read a (hand r H)) (hand r H)
    (λ b. let e : a ≡ on_replica s r (read_answer s H (hand r H)) = rw (same_number q r b) at L.1 in
    current_more H K (after_read a (hand r H)) (λ d. refl) (read_current s H (hand r H) (nat_le r s.replicas) a e))
    (λ b. current_more H K (hand r H) (λ d. refl) (current s r H L.2 one low))
current s r ((Write q, a) ∷ H) L one low =
    let K = (Write q, a) ∷ H in
    current_if K (is_written a && (q == r)) Nothing (hand r H) (λ b. tt)
    (λ b. ⊎_elim
    (λ (not : is_written a ≡ false). current_more H K (hand r H) (λ d. commits_if d q H a (written_if a not)) (current s r H L.2 one low))
    (λ (other : (q == r) ≡ false).
    ⊎_elim
    (λ (above : 1 < q).
    let void : a ≡ told.VoidReplica = L.1 ∙ ap (λ c. cond c (write_answer H (hand q H)) told.VoidReplica) (none_above s q one above) in
    current_more H K (hand r H) (λ d. commits_if d q H a (ap is_committed void)) (current s r H L.2 one low))
    (λ (first : q ≤ 1).
    let is : q ≡ 1 = let at = L.0.0 in omega arith in
    let apart : q ≡ r → ⊥ = λ (e : q ≡ r). (let t : (q == r) ≡ true = rw e (here r) in cc) in
    let above : 1 < r = ⊎_elim (λ (e : r ≡ 1). absurd (apart (is ∙ sym e))) (λ (ne : r ≡ 1 → ⊥). omega (arith, low, ne)) (cases_eq r 1) in
    rw (no_hand s r H L.2 (none_above s r one above)) tt)
    (cases_lt 1 q))
    (and_false (is_written a) (q == r) b))
current s r ((Stop q, a) ∷ H) L one low =
    let K = (Stop q, a) ∷ H in
    current_if K (is_stopped a && (q == r)) Nothing (hand r H) (λ b. tt) (λ b. current_more H K (hand r H) (λ d. refl) (current s r H L.2 one low))
current s r ((Send d n, a) ∷ H) L one low = current_more H ((Send d n, a) ∷ H) (hand r H) (λ d. refl) (current s r H L.2 one low)
current s r ((Reply d n, a) ∷ H) L one low = current_more H ((Reply d n, a) ∷ H) (hand r H) (λ d. refl) (current s r H L.2 one low)
current s r ((Push d l k, a) ∷ H) L one low = current_more H ((Push d l k, a) ∷ H) (hand r H) (λ d. refl) (current s r H L.2 one low)
current s r ((Effect d l k, a) ∷ H) L one low = current_more H ((Effect d l k, a) ∷ H) (hand r H) (λ d. refl) (current s r H L.2 one low)
current s r ((Settle d l k, a) ∷ H) L one low = current_more H ((Settle d l k, a) ∷ H) (hand r H) (λ d. refl) (current s r H L.2 one low)

abbrev is_stale : EventAnswer → Bool
is_stale (told.Stale v w) = true
is_stale _ = false

fresh : (H : List Turn) (h : Held) (b : Bool) → IsCurrent H h → is_stale (cond b (write_answer H h) told.VoidReplica) ≡ false
fresh H h false c = refl
fresh H Nothing true c = refl
fresh H (Taken d what) true c = refl
fresh H (Ready d what v) true c = rw (commits_here H d v (sym c)) refl

pub never_stale : (s : Setting) (H : List Turn) (r v w : ℕ) → Lawful s H → s.replicas ≤ 1 → 1 ≤ r → answer s H (Write r) ≢ told.Stale v w
never_stale s H r v w L one low = λ h. let f = fresh H (hand r H) (nat_le r s.replicas) (current s r H L one low) in let g = ap is_stale h in cc

-- ---- reads

reads : (s : Setting) (H : List Turn) (d : ℕ) (what : Arrival) (h : Held) → Holds d what h → read_answer s H h ≡ looked s H d what
reads s H d what Nothing i = absurd (i)
reads s H d what (Taken e other) i = rw (i.0, i.1) refl
reads s H d what (Ready e other v) i = rw (i.0, i.1) refl

pub read_is : (s : Setting) (H : List Turn) (r d : ℕ) (what : Arrival) → r ≤ s.replicas → Holds d what (hand r H) → answer s H (Read r) ≡ looked s H d what
read_is s H r d what low i = on s r (read_answer s H (hand r H)) low ∙ reads s H d what (hand r H) i

abbrev is_settled_look : Look → Bool
is_settled_look (look.Settled n) = true
is_settled_look _ = false

abbrev is_repeat_look : Look → Bool
is_repeat_look (look.Repeat n) = true
is_repeat_look _ = false

settled_look : (v n : ℕ) (l : Look) → look_answer v l ≡ told.Settled n → is_settled_look l ≡ true
settled_look v n look.Ready h = absurd (let f = ap is_settled h in cc)
settled_look v n (look.Repeat m) h = absurd (let f = ap is_settled h in cc)
settled_look v n (look.Settled m) h = refl
settled_look v n (look.Ahead m) h = absurd (let f = ap is_settled h in cc)
settled_look v n (look.Waiting l k) h = absurd (let f = ap is_settled h in cc)
settled_look v n (look.Old l k) h = absurd (let f = ap is_settled h in cc)
settled_look v n (look.NotAwaited m) h = absurd (let f = ap is_settled h in cc)

abbrev is_repeat : EventAnswer → Bool
is_repeat (told.Repeat n) = true
is_repeat _ = false

repeat_look : (v n : ℕ) (l : Look) → look_answer v l ≡ told.Repeat n → is_repeat_look l ≡ true
repeat_look v n look.Ready h = absurd (let f = ap is_repeat h in cc)
repeat_look v n (look.Repeat m) h = refl
repeat_look v n (look.Settled m) h = absurd (let f = ap is_repeat h in cc)
repeat_look v n (look.Ahead m) h = absurd (let f = ap is_repeat h in cc)
repeat_look v n (look.Waiting l k) h = absurd (let f = ap is_repeat h in cc)
repeat_look v n (look.Old l k) h = absurd (let f = ap is_repeat h in cc)
repeat_look v n (look.NotAwaited m) h = absurd (let f = ap is_repeat h in cc)

unless : (o : Option (Lane × ℕ)) → (is_settled_look (unless_awaited o) ≡ false) × (is_repeat_look (unless_awaited o) ≡ false)
unless None = (refl, refl)
unless (Some call) = (refl, refl)

settled_first : (b1 b2 b3 : Bool) (n t : ℕ) (w : Look) → is_settled_look w ≡ false → is_settled_look (cond b1 (look.Settled n) (cond b2 (look.Repeat n) (cond b3 (look.Ahead t) w))) ≡ true → b1 ≡ true
settled_first true b2 b3 n t w not h = refl
settled_first false true b3 n t w not h = absurd (cc)
settled_first false false true n t w not h = absurd (cc)
settled_first false false false n t w not h = absurd (cc)

repeat_second : (b1 b2 b3 : Bool) (n t : ℕ) (w : Look) → is_repeat_look w ≡ false → is_repeat_look (cond b1 (look.Settled n) (cond b2 (look.Repeat n) (cond b3 (look.Ahead t) w))) ≡ true → (b1 ≡ false) × (b2 ≡ true)
repeat_second true b2 b3 n t w not h = absurd (cc)
repeat_second false true b3 n t w not h = (refl, refl)
repeat_second false false true n t w not h = absurd (cc)
repeat_second false false false n t w not h = absurd (cc)

-- a message that is not acknowledged is never told to be settled
pub not_settled : (s : Setting) (H : List Turn) (r d n : ℕ) → Lawful s H → r ≤ s.replicas → Holds d (TheMessage n) (hand r H) → acked d H < n → answer s H (Read r) ≢ told.Settled n
not_settled s H r d n L low i more = λ h.
    let J = journal s d H in
    let t = taken_count J in
    let b = settled_first (nat_le (n + 4) t) (nat_le n t) (nat_lt (t + 1) n) n t (unless_awaited (awaited_call J)) (unless (awaited_call J)).0 (settled_look (commits d H) n (look_at J (TheMessage n)) (sym (read_is s H r d (TheMessage n) low i) ∙ h)) in
    let behind = le_of (n + 4) t b in
    let near = taken_bound s d H L in
    omega arith

-- a message is repeated exactly where it was taken, and its reply is kept
pub repeats : (s : Setting) (H : List Turn) (r d n : ℕ) → r ≤ s.replicas → Holds d (TheMessage n) (hand r H) → (answer s H (Read r) ≡ told.Repeat n) ↔ ((n ≤ taken_count (journal s d H)) × (taken_count (journal s d H) < n + 4))
repeats s H r d n low i =
    let J = journal s d H in
    let t = taken_count J in
    let e = read_is s H r d (TheMessage n) low i in (
      (λ h.
          let b = repeat_second (nat_le (n + 4) t) (nat_le n t) (nat_lt (t + 1) n) n t (unless_awaited (awaited_call J)) (unless (awaited_call J)).1 (repeat_look (commits d H) n (look_at J (TheMessage n)) (sym e ∙ h)) in
          (le_of n t b.1, gt_of (n + 4) t b.0)),
      (λ h. let kept : look_at J (TheMessage n) ≡ look.Repeat n = rw (le_false (n + 4) t h.1, le_true n t h.0) refl in
          e ∙ ap (look_answer (commits d H)) kept),
    )

-- ---- replies

no_reply : StepReply
no_reply = record { number = 0; version = 0; downs = [] }

reply_begins : (J rest : List Entry) (n : ℕ) → 1 ≤ n → n ≤ taken_count J → reply_of (J ++ rest) n ≡ reply_of J n
reply_begins J [] n low high = ap (λ K. reply_of K n) (append-nil J)
reply_begins J (e ∷ rest) n low high =
    let more = taken_more J e in
    ap (λ K. reply_of K n) (sym (append_assoc J (e ∷ []) rest)) ∙ reply_begins (J ++ e ∷ []) rest n low (omega arith) ∙ reply_stays J e n low high

-- the stored reply to a message is that of the machine that never fails
pub reply_alone : (s : Setting) (d n : ℕ) (H : List Turn) → 1 ≤ n → n ≤ taken_count (journal s d H) → reply_of (journal s d H) n ≡ reply_of (entries_of s d) n
reply_alone s d n H low high =
    let b = to_alone (row_of s d) (messages_of s d) (commits d H) in
    sym (ap (λ K. reply_of K n) (sym b.1) ∙ reply_begins (journal s d H) b.0 n low high)

pub reply_there : (s : Setting) (d n : ℕ) (H : List Turn) → 1 ≤ n → n ≤ taken_count (journal s d H) → IsSome (reply_of (journal s d H) n)
reply_there s d n H low high =
    let J = journal s d H in
    let count = length-replies J in
    subst IsSome (sym (slice_get-get_or (replies_of J) (n - 1) no_reply (omega arith))) refl

-- ---- events that leave the counts

-- nothing was sent, pushed, committed, acknowledged, accepted or settled
abbrev pub is_quiet : EventAnswer → Bool
is_quiet told.Sent = false
is_quiet told.Pushed = false
is_quiet (told.Committed v) = false
is_quiet (told.Acked n) = false
is_quiet (told.Accepted k) = false
is_quiet (told.Settled n) = false
is_quiet _ = true

record IsQuiet (a : EventAnswer) : Type 0 where
  sent : is_sent a ≡ false
  pushed : is_pushed a ≡ false
  committed : is_committed a ≡ false
  acknowledged : is_acked a ≡ false
  accepts : is_accepted a ≡ false
  settles : is_settled a ≡ false

quiet : (a : EventAnswer) → is_quiet a ≡ true → IsQuiet a
quiet told.Sent h = absurd (cc)
quiet told.Pushed h = absurd (cc)
quiet (told.Committed v) h = absurd (cc)
quiet (told.Acked n) h = absurd (cc)
quiet (told.Accepted k) h = absurd (cc)
quiet (told.Settled n) h = absurd (cc)
quiet _ h = record { sent = refl; pushed = refl; committed = refl; acknowledged = refl; accepts = refl; settles = refl }

commits_stay : (d : ℕ) (e : Event) (a : EventAnswer) (H : List Turn) → is_committed a ≡ false → commits d ((e, a) ∷ H) ≡ commits d H
commits_stay d (Write r) a H h = rw h refl
commits_stay d _ a H h = refl

acked_stays : (d : ℕ) (e : Event) (a : EventAnswer) (H : List Turn) → is_acked a ≡ false → acked d ((e, a) ∷ H) ≡ acked d H
acked_stays d (Reply f n) a H h = rw h refl
acked_stays d _ a H h = refl

greatest_stays : (d : ℕ) (e : Event) (a : EventAnswer) (H : List Turn) → is_sent a ≡ false → greatest_sent d ((e, a) ∷ H) ≡ greatest_sent d H
greatest_stays d (Send f n) a H h = rw h refl
greatest_stays d _ a H h = refl

accepted_stays : (d : ℕ) (l : Lane) (e : Event) (a : EventAnswer) (H : List Turn) → is_accepted a ≡ false → accepted d l ((e, a) ∷ H) ≡ accepted d l H
accepted_stays d l (Effect f m k) a H h = rw h refl
accepted_stays d l _ a H h = refl

settled_stays : (d : ℕ) (l : Lane) (e : Event) (a : EventAnswer) (H : List Turn) → is_settled a ≡ false → settled d l ((e, a) ∷ H) ≡ settled d l H
settled_stays d l (Settle f m k) a H h = rw h refl
settled_stays d l _ a H h = refl

messages_stay : (d n : ℕ) (e : Event) (a : EventAnswer) (H : List Turn) → is_sent a ≡ false → message_sent d n ((e, a) ∷ H) ≡ message_sent d n H
messages_stay d n (Send f m) a H h = rw h refl
messages_stay d n _ a H h = refl

effects_stay : (d : ℕ) (l : Lane) (k : ℕ) (e : Event) (a : EventAnswer) (H : List Turn) → is_pushed a ≡ false → effect_pushed d l k ((e, a) ∷ H) ≡ effect_pushed d l k H
effects_stay d l k (Push f m j) a H h = rw h refl
effects_stay d l k _ a H h = refl

pub quiet_stays : (H : List Turn) (e : Event) (a : EventAnswer) → is_quiet a ≡ true → HasSameCounts H ((e, a) ∷ H)
quiet_stays H e a h =
    let q = quiet a h in
    record {
      committed = λ d. commits_stay d e a H q.committed;
      acknowledged = λ d. acked_stays d e a H q.acknowledged;
      greatest = λ d. greatest_stays d e a H q.sent;
      accepts = λ d l. accepted_stays d l e a H q.accepts;
      settles = λ d l. settled_stays d l e a H q.settles;
      messages = λ d n. messages_stay d n e a H q.sent;
      effects = λ d l k. effects_stay d l k e a H q.pushed;
    }

-- ---- void events

void_quiet : (a : EventAnswer) → is_void a ≡ true → is_quiet a ≡ true
void_quiet told.VoidReplica h = refl
void_quiet told.VoidWindow h = refl
void_quiet told.VoidLink h = refl
void_quiet told.VoidHand h = refl
void_quiet told.VoidOutbox h = refl
void_quiet _ h = absurd (cc)

void_taken : (a : EventAnswer) → is_void a ≡ true → is_taken a ≡ false
void_taken told.Taken h = absurd (cc)
void_taken _ h = refl

void_written : (a : EventAnswer) → is_void a ≡ true → is_written a ≡ false
void_written (told.Committed v) h = absurd (cc)
void_written (told.Stale v w) h = absurd (cc)
void_written _ h = refl

void_stopped : (a : EventAnswer) → is_void a ≡ true → is_stopped a ≡ false
void_stopped told.Stopped h = absurd (cc)
void_stopped _ h = refl

void_received : (a : EventAnswer) → is_void a ≡ true → is_received a ≡ false
void_received (told.Accepted k) h = absurd (cc)
void_received (told.Repeat k) h = absurd (cc)
void_received _ h = refl

look_not_void : (v : ℕ) (l : Look) → is_void (look_answer v l) ≡ false
look_not_void v look.Ready = refl
look_not_void v (look.Repeat m) = refl
look_not_void v (look.Settled m) = refl
look_not_void v (look.Ahead m) = refl
look_not_void v (look.Waiting l k) = refl
look_not_void v (look.Old l k) = refl
look_not_void v (look.NotAwaited m) = refl

void_read : (s : Setting) (H : List Turn) (h : Held) (b : Bool) (a : EventAnswer) → (b ≡ false → h ≡ Nothing) → a ≡ cond b (read_answer s H h) told.VoidReplica → is_void a ≡ true → after_read a h ≡ h
void_read s H h false a none e v = rw (none refl) (read_nothing a)
void_read s H Nothing true a none e v = read_nothing a
void_read s H (Taken d what) true a none e v = absurd (let f = look_not_void (commits d H) (look_at (journal s d H) what) in let g = ap is_void e in cc)
void_read s H (Ready d what w) true a none e v = absurd (let f = look_not_void (commits d H) (look_at (journal s d H) what) in let g = ap is_void e in cc)

read_stays : (s : Setting) (H : List Turn) (q r : ℕ) (b : Bool) (a : EventAnswer) → Lawful s H → a ≡ answer s H (Read q) → is_void a ≡ true → (q == r) ≡ b → cond b (after_read a (hand r H)) (hand r H) ≡ hand r H
read_stays s H q r false a L e v same = refl
read_stays s H q r true a L e v same =
    let at : a ≡ on_replica s r (read_answer s H (hand r H)) = rw (same_number q r same) at e in
    void_read s H (hand r H) (nat_le r s.replicas) a (λ none. no_hand s r H L none) at v

hand_stays : (s : Setting) (H : List Turn) (e : Event) (a : EventAnswer) (r : ℕ) → Lawful s H → a ≡ answer s H e → is_void a ≡ true → hand r ((e, a) ∷ H) ≡ hand r H
hand_stays s H (Take q d n) a r L is v = rw (void_taken a v) refl
hand_stays s H (Answer q d l k) a r L is v = rw (void_taken a v) refl
hand_stays s H (Read q) a r L is v = read_stays s H q r (q == r) a L is v refl
hand_stays s H (Write q) a r L is v = rw (void_written a v) refl
hand_stays s H (Stop q) a r L is v = rw (void_stopped a v) refl
hand_stays s H _ a r L is v = refl

replies_stay : (d n : ℕ) (e : Event) (a : EventAnswer) (H : List Turn) → is_committed a ≡ false → reply_sent d n ((e, a) ∷ H) ≡ reply_sent d n H
replies_stay d n (Write r) a H h = rw h refl
replies_stay d n _ a H h = refl

received_stays : (d : ℕ) (l : Lane) (k : ℕ) (e : Event) (a : EventAnswer) (H : List Turn) → is_received a ≡ false → effect_received d l k ((e, a) ∷ H) ≡ effect_received d l k H
received_stays d l k (Effect f m j) a H h = rw h refl
received_stays d l k _ a H h = refl

-- a void event changes nothing
pub void_stays : (s : Setting) (H : List Turn) (e : Event) (a : EventAnswer) → Lawful s H → a ≡ answer s H e → is_void a ≡ true → IsAsBefore H ((e, a) ∷ H)
void_stays s H e a L is v =
    record {
      counts = quiet_stays H e a (void_quiet a v);
      hands = λ r. hand_stays s H e a r L is v;
      replies = λ d n. replies_stay d n e a H (written_if a (void_written a v));
      answers = λ d l k. received_stays d l k e a H (void_received a v);
    }

-- ---- tests and bounds

pub received_where : (s : Setting) (d : ℕ) (l : Lane) (k : ℕ) (H : List Turn) → Lawful s H → 1 ≤ k → (effect_received d l k H ≡ true) ↔ (k ≤ accepted d l H)
received_where s d l k H L low =
    let e = received_is s d l k H L low in
    ((λ h. le_of k (accepted d l H) (sym e ∙ h)), (λ h. e ∙ le_true k (accepted d l H) h))

pub reply_where : (s : Setting) (d n : ℕ) (H : List Turn) → Lawful s H → 1 ≤ n → (reply_sent d n H ≡ true) ↔ (n ≤ taken_count (journal s d H))
reply_where s d n H L low =
    let e = reply_is s d n H L low in
    ((λ h. le_of n (taken_count (journal s d H)) (sym e ∙ h)), (λ h. e ∙ le_true n (taken_count (journal s d H)) h))

-- ---- nothing is taken back

pub acked_more : (d : ℕ) (t : Turn) (H : List Turn) → acked d H ≤ acked d (t ∷ H)
acked_more d (Reply e n, a) H = max_if (is_acked a && (d == e.0)) n (acked d H)
acked_more d (_, a) H = omega arith

pub accepted_more : (d : ℕ) (l : Lane) (t : Turn) (H : List Turn) → accepted d l H ≤ accepted d l (t ∷ H)
accepted_more d l (Effect e m k, a) H = max_if (is_accepted a && (d == e.0) && same_lane l m) k (accepted d l H)
accepted_more d l (_, a) H = omega arith

pub settled_more : (d : ℕ) (l : Lane) (t : Turn) (H : List Turn) → settled d l H ≤ settled d l (t ∷ H)
settled_more d l (Settle e m k, a) H = max_if (is_settled a && (d == e.0) && same_lane l m) k (settled d l H)
settled_more d l (_, a) H = omega arith

pub reply_more : (d n : ℕ) (t : Turn) (H : List Turn) → reply_sent d n H ≡ true → reply_sent d n (t ∷ H) ≡ true
reply_more d n (Write r, a) H h = or_right _ _ h
reply_more d n (_, a) H h = h

pub pushed_more : (d : ℕ) (l : Lane) (k : ℕ) (t : Turn) (H : List Turn) → effect_pushed d l k H ≡ true → effect_pushed d l k (t ∷ H) ≡ true
pushed_more d l k (Push e m j, a) H h = or_right _ _ h
pushed_more d l k (_, a) H h = h

-- ---- what is on a link

-- what there is is itself
itself : {X : Type 0} → (o : Option X) → IsSome o → IsSomeAnd o (λ x. o ≡ Some x)
itself None h = absurd (cc)
itself (Some x) h = refl

-- on the link, where it was sent
carried : {X : Type 0} → (sent : Bool) (o : Option X) → sent ≡ true → IsSome o → IsSomeAnd (if_so sent o) (λ x. o ≡ Some x)
carried true o on h = itself o h
carried false o on h = absurd (cc)

pub message_carried : (s : Setting) (d n : ℕ) (H : List Turn) → Lawful s H → message_sent d n H ≡ true → IsSomeAnd (message_packet s H d n) (λ m. slice_get (messages_of s d) (n - 1) ≡ Some m)
message_carried s d n H L h =
    let b = sent_bound s d n H L h in
    let low = b.1 in
    let high = b.2 in
    rw h (slice_get-get_or (messages_of s d) (n - 1) no_message (omega arith))

pub effect_there : (s : Setting) (d : ℕ) (l : Lane) (k : ℕ) (H : List Turn) → Lawful s H → effect_pushed d l k H ≡ true → IsSome (slice_get (effects_of l (entries_of s d)) (k - 1))
effect_there s d l k H L h =
    let b = pushed_bound s d l k H L h in
    let low = b.1 in
    let high = b.2 in
    let long = Begins-length (effects_of l (journal s d H)) (effects_of l (entries_of s d)) (effects_begin l (journal s d H) (entries_of s d) (to_alone (row_of s d) (messages_of s d) (commits d H))) in
    subst IsSome (sym (slice_get-get_or (effects_of l (entries_of s d)) (k - 1) (effects.Subscriber calls.Purge) (omega arith))) refl

pub effect_carried : (s : Setting) (d : ℕ) (l : Lane) (k : ℕ) (H : List Turn) → Lawful s H → effect_pushed d l k H ≡ true → IsSomeAnd (effect_packet s H d l k) (λ x. slice_get (effects_of l (entries_of s d)) (k - 1) ≡ Some x)
effect_carried s d l k H L h = carried (effect_pushed d l k H) (slice_get (effects_of l (entries_of s d)) (k - 1)) h (effect_there s d l k H L h)

pub reply_carried : (s : Setting) (d n : ℕ) (H : List Turn) → Lawful s H → 1 ≤ n → reply_sent d n H ≡ true → IsSomeAnd (reply_packet s H d n) (λ x. reply_of (entries_of s d) n ≡ Some x)
reply_carried s d n H L low h =
    let high = le_of n (taken_count (journal s d H)) (sym (reply_is s d n H L low) ∙ h) in
    carried (reply_sent d n H) (reply_of (entries_of s d) n) h (subst IsSome (reply_alone s d n H low high) (reply_there s d n H low high))

-- an answer is to a call that was made
pub answer_carried : (s : Setting) (d : ℕ) (l : Lane) (k : ℕ) (H : List Turn) → Lawful s H → 1 ≤ k → effect_received d l k H ≡ true → k ≤ pushed_count l (entries_of s d)
answer_carried s d l k H L low h =
    let here = le_of k (accepted d l H) (sym (received_is s d l k H L low) ∙ h) in
    let made = accepted_bound s d l H L in
    let more = Begins-length (effects_of l (journal s d H)) (effects_of l (entries_of s d)) (effects_begin l (journal s d H) (entries_of s d) (to_alone (row_of s d) (messages_of s d) (commits d H))) in
    omega arith

-- ---- answers to calls

pub arrival_of : (s : Setting) (H : List Turn) (d : ℕ) (what : Arrival) (x : Held) → Holds d what x → IsHand s H x → IsArrival H d what
arrival_of s H d what Nothing h i = absurd (h)
arrival_of s H d what (Taken e other) h i = rw (h.0, h.1) i
arrival_of s H d what (Ready e other v) h i = rw (h.0, h.1) i.0

abbrev is_ahead : EventAnswer → Bool
is_ahead (told.Ahead n) = true
is_ahead _ = false

answer_look : (v : ℕ) (b1 b2 : Bool) (n : ℕ) (l : Lane) (k : ℕ) → b2 ≡ false → is_ahead (look_answer v (cond b1 look.Ready (cond b2 (look.NotAwaited n) (look.Old l k)))) ≡ false
answer_look v true b2 n l k h = refl
answer_look v false true n l k h = absurd (cc)
answer_look v false false n l k h = refl

pub answer_not_ahead : (s : Setting) (H : List Turn) (r d : ℕ) (l : Lane) (k m : ℕ) → Lawful s H → r ≤ s.replicas → Holds d (TheAnswer l k) (hand r H) → answer s H (Read r) ≢ told.Ahead m
answer_not_ahead s H r d l k m L low i = λ h.
    let J = journal s d H in
    let arrived = arrival_of s H d (TheAnswer l k) (hand r H) i (hand_ok s r H L) in
    let made = answer_made s H d l k L arrived in
    let test : nat_lt (pushed_count l J) k ≡ false = lt_false (pushed_count l J) k made in
    let f = answer_look (commits d H) (is_call (awaited_call J) l k) (nat_lt (pushed_count l J) k) (pushed_count l J) l k test in
    let g = ap is_ahead (sym (read_is s H r d (TheAnswer l k) low i) ∙ h) in
    cc

-- ---- at every replica

read_void : (s : Setting) (H : List Turn) (r : ℕ) → s.replicas < r → answer s H (Read r) ≡ told.VoidReplica
read_void s H r above = rw (le_false r s.replicas above) refl

-- a replica whose read is not void is there
there : (s : Setting) (H : List Turn) (r : ℕ) → is_void (answer s H (Read r)) ≡ false → r ≤ s.replicas
there s H r h =
    ⊎_elim
    (λ (above : s.replicas < r). let f = ap is_void (read_void s H r above) in absurd (cc))
    (λ (low : r ≤ s.replicas). low)
    (cases_lt s.replicas r)

-- the reply on the link of a message that is answered as a repeat is the stored one
pub repeat_carried : (s : Setting) (H : List Turn) (r d n : ℕ) → Lawful s H → Holds d (TheMessage n) (hand r H) → answer s H (Read r) ≡ told.Repeat n → IsSomeAnd (reply_packet s H d n) (λ x. reply_of (journal s d H) n ≡ Some x)
repeat_carried s H r d n L i a =
    let low = there s H r (ap is_void a) in
    let arrived = arrival_of s H d (TheMessage n) (hand r H) i (hand_ok s r H L) in
    let kept = (repeats s H r d n low i).0 a in
    let sent = (reply_where s d n H L arrived.0).1 kept.0 in
    rw (reply_alone s d n H arrived.0 kept.0) (reply_carried s d n H L arrived.0 sent)

pub never_settled : (s : Setting) (H : List Turn) (r d n : ℕ) → Lawful s H → Holds d (TheMessage n) (hand r H) → acked d H < n → answer s H (Read r) ≢ told.Settled n
never_settled s H r d n L i more = λ h.
    ⊎_elim
    (λ (above : s.replicas < r). let f = ap is_settled (sym (read_void s H r above) ∙ h) in cc)
    (λ (low : r ≤ s.replicas). not_settled s H r d n L low i more h)
    (cases_lt s.replicas r)

pub never_ahead : (s : Setting) (H : List Turn) (r d : ℕ) (l : Lane) (k m : ℕ) → Lawful s H → Holds d (TheAnswer l k) (hand r H) → answer s H (Read r) ≢ told.Ahead m
never_ahead s H r d l k m L i = λ h.
    ⊎_elim
    (λ (above : s.replicas < r). let f = ap is_ahead (sym (read_void s H r above) ∙ h) in cc)
    (λ (low : r ≤ s.replicas). answer_not_ahead s H r d l k m L low i h)
    (cases_lt s.replicas r)
