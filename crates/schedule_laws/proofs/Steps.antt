-- What a few events in a row do: a message is committed, an answer is, an effect is accepted, a reply acknowledged. A world that settles by
-- itself goes by these.
use Rattle.std.proofs.Common.{◌≡◌, ◌==◌, ℕ, suc, ◌+◌, ◌*◌, ◌-◌, ◌≤◌, ◌<◌, ⊎_elim, max, Bool, true, false, cond, List, [], ◌∷◌, ◌++◌, length, take, Option, Some, None, refl, sym, ap, ◌∙◌, subst, arith}
use Rattle.std.specs.Prelude.{nat_le, nat_lt, option_map, option_and_then, position}
use Rattle.std.specs.List.{fold}
use Rattle.std.proofs.lemmas.Bool.{cases_lt}
use Rattle.std.proofs.lemmas.List.Sums.{fold-append}
use Rattle.std.proofs.lemmas.Option.{slice_get_past, some_pair_parts}
use Rattle.device_types.specs.declared.effect.Effect.{Effect as EffectValue}
use Rattle.device_types.specs.declared.event.Event.{Event}
use Rattle.device_types.specs.declared.event.Event.TheVariants.{Send, Take, Answer, Read, Write, Reply, Push, Effect, Settle}
use Rattle.device_types.specs.declared.event.EventAnswer.{EventAnswer}
use Rattle.device_types.specs.declared.event.EventAnswer.TheVariants as told
use Rattle.device_types.specs.declared.event.Lane.{Lane}
use Rattle.device_types.specs.declared.input.Input.TheVariants as inputs
use Rattle.device_types.specs.declared.look.Look.{Look}
use Rattle.device_types.specs.declared.look.Look.TheVariants as look
use Rattle.device_types.specs.declared.message.Message.{Message}
use Rattle.device_types.specs.declared.step.Entry.{Entry}
use Rattle.device_types.specs.declared.subscriber.DeviceId.{DeviceId}
use Rattle.device_types.specs.declared.subscriber.Subscriber.{Subscriber}
use Rattle.device_types.specs.Alone.{input_at, next_input, alone_to, alone_of}
use Rattle.device_types.specs.Awaited.{awaited_by, lane_of}
use Rattle.device_types.specs.declared.event.Lane.TheVariants as lanes
use Rattle.device_types.specs.Event.{IsCallLane}
use Rattle.device_types.specs.Journal.{last_of, effects_on, is_awaited, awaited_on, awaited_behind, first_call, session_of, pushed_count, taken_count, awaited_call}
use Rattle.device_types.specs.Look.{is_call, unless_awaited}
use Rattle.device_types.proofs.Alone.{awaits, fine_alone, alone_ends, stays_so, made_all}
use Rattle.schedule_laws.specs.Answer.{look_at, answer, turn, history, Lawful}
use Rattle.schedule_laws.specs.Counts.{Turn, commits, acked, accepted, settled, effect_received, journal}
use Rattle.schedule_laws.specs.Counts.Arrival.{TheMessage, TheAnswer}
use Rattle.schedule_laws.specs.Setting.{Setting, row_of, messages_of, message_count}
use Rattle.schedule_laws.proofs.EachAnswer.{reply_new, settle_new}
use Rattle.schedule_laws.proofs.Laws.{acked_bound, settled_bound, received_is, commits_more}
use Rattle.schedule_laws.proofs.Promises.{accepted_more, settled_more}
use Rattle.schedule_laws.proofs.Comparisons.{here, lane_here, le_true, le_false, lt_true, lt_false}

-- ---- a message is sent, taken, read and written

message_ready : (b1 b2 b3 : Bool) (n t : ℕ) (w : Look) → b1 ≡ false → b2 ≡ false → b3 ≡ false → w ≡ look.Ready → cond b1 (look.Settled n) (cond b2 (look.Repeat n) (cond b3 (look.Ahead t) w)) ≡ look.Ready
message_ready b1 b2 b3 n t w a b c d = rw (a, b, c) d

-- the next message, once all that were taken are acknowledged
pub message_committed : (s : Setting) (H : List Turn) (e : DeviceId) (n : ℕ) → n ≡ taken_count (journal s e.0 H) + 1 → Lawful s H → 1 ≤ s.replicas → taken_count (journal s e.0 H) ≤ acked e.0 H → awaited_call (journal s e.0 H) ≡ None → taken_count (journal s e.0 H) < message_count s e.0 → commits e.0 (turn s (turn s (turn s (turn s H (Send e n)) (Take 1 e n)) (Read 1)) (Write 1)) ≡ suc (commits e.0 H)
message_committed s H e n is L r seen free low =
    let t = taken_count (journal s e.0 H) in
    let b = acked_bound s e.0 H L in
    let more : nat_lt (acked e.0 H) n ≡ true = lt_true (acked e.0 H) n (omega arith) in
    let near : nat_le n (acked e.0 H + 4) ≡ true = le_true n (acked e.0 H + 4) (omega arith) in
    let there : nat_le n (message_count s e.0) ≡ true = le_true n (message_count s e.0) (omega arith) in
    let in_range : nat_le 1 s.replicas ≡ true = le_true 1 s.replicas r in
    let h1 : nat_le (n + 4) t ≡ false = le_false (n + 4) t (omega arith) in
    let h2 : nat_le n t ≡ false = le_false n t (omega arith) in
    let h3 : nat_lt (t + 1) n ≡ false = lt_false (t + 1) n (omega arith) in
    let ready : look_at (journal s e.0 H) (TheMessage n) ≡ look.Ready = message_ready _ _ _ n t (unless_awaited (awaited_call (journal s e.0 H))) h1 h2 h3 (ap unless_awaited free) in
    let H1 = (Send e n, told.Sent) ∷ H in
    let H2 = (Take 1 e n, told.Taken) ∷ H1 in
    let H3 = (Read 1, told.Ready (commits e.0 H)) ∷ H2 in
    let a1 : answer s H (Send e n) ≡ told.Sent = rw (more, near, there) refl in
    let a2 : answer s H1 (Take 1 e n) ≡ told.Taken = rw (in_range, here e.0, here n) refl in
    let a3 : answer s H2 (Read 1) ≡ told.Ready (commits e.0 H) = rw (in_range, ready) refl in
    let a4 : answer s H3 (Write 1) ≡ told.Committed (commits e.0 H + 1) = rw (in_range, here (commits e.0 H)) refl in
    let done : commits e.0 ((Write 1, told.Committed (commits e.0 H + 1)) ∷ H3) ≡ suc (commits e.0 H) = rw (here e.0) refl in
    rw (a1, a2, a3, a4) done

-- ---- an answer is taken, read and written

-- the awaited answer, once its call was accepted
pub answer_committed : (s : Setting) (H : List Turn) (e : DeviceId) (l : Lane) (k : ℕ) → awaited_call (journal s e.0 H) ≡ Some (l, k) → Lawful s H → 1 ≤ s.replicas → 1 ≤ k → k ≤ accepted e.0 l H → commits e.0 (turn s (turn s (turn s H (Answer 1 e l k)) (Read 1)) (Write 1)) ≡ suc (commits e.0 H)
answer_committed s H e l k awaited L r low high =
    let in_range : nat_le 1 s.replicas ≡ true = le_true 1 s.replicas r in
    let on_link : effect_received e.0 l k H ≡ true = received_is s e.0 l k H L low ∙ le_true k (accepted e.0 l H) high in
    let test : is_call (awaited_call (journal s e.0 H)) l k ≡ true = ap (λ o. is_call o l k) awaited ∙ (let q : is_call (Some (l, k)) l k ≡ true = rw (lane_here l, here k) refl in q) in
    let ready : look_at (journal s e.0 H) (TheAnswer l k) ≡ look.Ready = rw test refl in
    let H1 = (Answer 1 e l k, told.Taken) ∷ H in
    let H2 = (Read 1, told.Ready (commits e.0 H)) ∷ H1 in
    let a1 : answer s H (Answer 1 e l k) ≡ told.Taken = rw (in_range, on_link) refl in
    let a2 : answer s H1 (Read 1) ≡ told.Ready (commits e.0 H) = rw (in_range, ready) refl in
    let a3 : answer s H2 (Write 1) ≡ told.Committed (commits e.0 H + 1) = rw (in_range, here (commits e.0 H)) refl in
    let done : commits e.0 ((Write 1, told.Committed (commits e.0 H + 1)) ∷ H2) ≡ suc (commits e.0 H) = rw (here e.0) refl in
    rw (a1, a2, a3) done

-- ---- an effect is pushed and arrives

pub effect_delivered : (s : Setting) (H : List Turn) (e : DeviceId) (l : Lane) (k : ℕ) → k ≡ accepted e.0 l H + 1 → Lawful s H → k ≤ pushed_count l (journal s e.0 H) → accepted e.0 l (turn s (turn s H (Push e l k)) (Effect e l k)) ≡ k
effect_delivered s H e l k next L made =
    let b = settled_bound s e.0 l H L in
    let behind : nat_lt (settled e.0 l H) k ≡ true = lt_true (settled e.0 l H) k (omega arith) in
    let within : nat_le k (pushed_count l (journal s e.0 H)) ≡ true = le_true k (pushed_count l (journal s e.0 H)) made in
    let a1 : answer s H (Push e l k) ≡ told.Pushed = rw (behind, within) refl in
    let H1 = (Push e l k, told.Pushed) ∷ H in
    let test : (k == accepted e.0 l H + 1) ≡ true = ap (λ m. m == accepted e.0 l H + 1) next ∙ here (accepted e.0 l H + 1) in
    let a2 : answer s H1 (Effect e l k) ≡ told.Accepted k = rw (here e.0, here k, lane_here l, test) refl in
    let most : max k (accepted e.0 l H) ≡ k = omega arith in
    let done : accepted e.0 l ((Effect e l k, told.Accepted k) ∷ H1) ≡ k = rw (here e.0, lane_here l, most) refl in
    rw (a1, a2) done

-- ---- a reply arrives

pub reply_acknowledged : (s : Setting) (H : List Turn) (e : DeviceId) (n : ℕ) → n ≡ taken_count (journal s e.0 H) → Lawful s H → acked e.0 H < n → acked e.0 (turn s H (Reply e n)) ≡ n
reply_acknowledged s H e n is L more =
    let says = reply_new s H e n L (omega arith) (omega arith) more in
    let most : max n (acked e.0 H) ≡ n = omega arith in
    let done : acked e.0 ((Reply e n, told.Acked n) ∷ H) ≡ n = rw (here e.0) most in
    subst (λ (a : EventAnswer). acked e.0 ((Reply e n, a) ∷ H) ≡ n) says done

-- ---- an acknowledgement arrives

pub effect_settled : (s : Setting) (H : List Turn) (e : DeviceId) (l : Lane) (k : ℕ) → Lawful s H → 1 ≤ k → k ≤ accepted e.0 l H → k ≤ settled e.0 l (turn s H (Settle e l k))
effect_settled s H e l k L low high =
    ⊎_elim
    (λ (new : settled e.0 l H < k).
    let done : k ≤ settled e.0 l ((Settle e l k, told.Settled k) ∷ H) = rw (here e.0, lane_here l) (omega arith) in
    subst (λ (a : EventAnswer). k ≤ settled e.0 l ((Settle e l k, a) ∷ H)) (settle_new s H e l k L low high new) done)
    (λ (old : k ≤ settled e.0 l H).
    let more = settled_more e.0 l (Settle e l k, answer s H (Settle e l k)) H in
    omega arith)
    (cases_lt (settled e.0 l H) k)

-- ---- the end of a device

-- a journal behind which no input comes is whole
pub journal_whole : (row : Subscriber) (ms : List Message) (v : ℕ) → next_input row ms (alone_to row ms v) ≡ None → alone_to row ms v ≡ alone_of row ms
unfolding alone_of
journal_whole row ms v end =
    let n = 3 * length ms in
    ⊎_elim
    (λ (lt : n < v). let e : v ≡ n + (v - n) = omega arith in rw (e, stays_so row ms n (v - n) (alone_ends row ms)) refl)
    (λ (le : v ≤ n). made_all row ms v le end)
    (cases_lt n v)

-- no input comes where none is awaited and all messages were taken
pub none_next : (row : Subscriber) (ms : List Message) (J : List Entry) → awaited_call J ≡ None → length ms ≤ taken_count J → next_input row ms J ≡ None
none_next row ms J free all = ap (input_at row ms J) free ∙ ap (option_map inputs.Message) (slice_get_past ms (taken_count J) all)

-- a whole journal stays whole
pub whole_stays : (row : Subscriber) (ms : List Message) (v w : ℕ) → v ≤ w → alone_to row ms v ≡ alone_of row ms → alone_to row ms w ≡ alone_of row ms
whole_stays row ms v w more whole =
    let e : w ≡ v + (w - v) = omega arith in
    ap (alone_to row ms) e ∙ stays_so row ms v (w - v) (ap (next_input row ms) whole ∙ alone_ends row ms) ∙ whole

-- ---- more events

pub history_behind : (s : Setting) (es rest : List Event) → history s (es ++ rest) ≡ fold (turn s) (history s es) rest
history_behind s es rest = fold-append (turn s) [] es rest

-- a count that no turn makes smaller is no smaller behind more events
later : (count : List Turn → ℕ) → ((t : Turn) (H : List Turn) → count H ≤ count (t ∷ H)) → (s : Setting) (H : List Turn) (es : List Event) → count H ≤ count (fold (turn s) H es)
later count more s H [] = omega arith
later count more s H (e ∷ es) =
    let one = more (e, answer s H e) H in
    let rest = later count more s (turn s H e) es in
    omega arith

behind : (count : List Turn → ℕ) → ((t : Turn) (H : List Turn) → count H ≤ count (t ∷ H)) → (s : Setting) (es rest : List Event) → count (history s es) ≤ count (history s (es ++ rest))
behind count more s es rest = rw (history_behind s es rest) (later count more s (history s es) rest)

-- commits, accepted and settled effects are no fewer behind more events
pub commits_behind : (s : Setting) (d : ℕ) (es rest : List Event) → commits d (history s es) ≤ commits d (history s (es ++ rest))
commits_behind s d es rest = behind (commits d) (commits_more d) s es rest

pub accepted_behind : (s : Setting) (d : ℕ) (l : Lane) (es rest : List Event) → accepted d l (history s es) ≤ accepted d l (history s (es ++ rest))
accepted_behind s d l es rest = behind (accepted d l) (accepted_more d l) s es rest

pub settled_behind : (s : Setting) (d : ℕ) (l : Lane) (es rest : List Event) → settled d l (history s es) ≤ settled d l (history s (es ++ rest))
settled_behind s d l es rest = behind (settled d l) (settled_more d l) s es rest

-- ---- the awaited call

last_call : (J : List Entry) (calls : List EffectValue) (l : Lane) (k : ℕ) → awaits J calls ≡ Some (l, k) → k ≡ pushed_count l J
last_call J [] l k h = absurd (cc)
last_call J (c ∷ cs) l k h =
    let p = some_pair_parts (lane_of c) l (pushed_count (lane_of c) J) k h in
    sym p.1 ∙ ap (λ m. pushed_count m J) p.0

-- it is the last of its lane
pub awaited_is_last : (s : Setting) (d : ℕ) (H : List Turn) (l : Lane) (k : ℕ) → awaited_call (journal s d H) ≡ Some (l, k) → k ≡ pushed_count l (journal s d H)
awaited_is_last s d H l k h =
    last_call (journal s d H) (awaited_by (session_of (journal s d H))) l k (sym (fine_alone (row_of s d) (messages_of s d) (commits d H)).awaiting ∙ h)

abbrev IsCallIn : Option (Lane × ℕ) → Type 0
IsCallIn None = Unit {0}
IsCallIn (Some call) = IsCallLane call.0 × (1 ≤ call.1)

call_on : (l : Lane) (before : ℕ) (o : Option ℕ) → IsCallLane l → IsCallIn (option_map (λ i. (l, before + i + 1)) o)
call_on l before None i = tt
call_on l before (Some n) i = (i, omega arith)

call_first : (o p : Option (Lane × ℕ)) → IsCallIn o → IsCallIn p → IsCallIn (first_call o p)
call_first None p i j = j
call_first (Some call) p i j = i

call_behind : (J : List Entry) (es : List EffectValue) → IsCallIn (awaited_behind J es)
call_behind J es =
    call_first (awaited_on lanes.Gateway (pushed_count lanes.Gateway J) es) (awaited_on lanes.Subscriber (pushed_count lanes.Subscriber J) es)
    (call_on lanes.Gateway (pushed_count lanes.Gateway J) (position is_awaited (effects_on lanes.Gateway es)) tt)
    (call_on lanes.Subscriber (pushed_count lanes.Subscriber J) (position is_awaited (effects_on lanes.Subscriber es)) tt)

call_in : (before : List Entry) (o : Option Entry) → IsCallIn (option_and_then (λ (e : Entry). awaited_behind before e.step.effects) o)
call_in before None = tt
call_in before (Some e) = call_behind before e.step.effects

-- it is on a lane of calls, and they are numbered from 1
pub awaited_is_call : (J : List Entry) (l : Lane) (k : ℕ) → awaited_call J ≡ Some (l, k) → IsCallLane l × (1 ≤ k)
awaited_is_call J l k h = subst IsCallIn h (call_in (take (length J - 1) J) (last_of J))
