-- What an event comes to, by counts.
use Rattle.std.proofs.Common.{◌≡◌, ℕ, ◌+◌, ◌≤◌, ◌<◌, Bool, true, false, cond, ◌&&◌, List, [], ◌∷◌, ◌++◌, refl, ◌∙◌, arith}
use Rattle.std.specs.Prelude.{nat_le, nat_lt}
use Rattle.std.proofs.lemmas.Grind.{common_steps}
use Rattle.std.proofs.lemmas.List.Sums.{fold-append}
use Rattle.device_types.specs.declared.event.Event.{Event}
use Rattle.device_types.specs.declared.event.Event.TheVariants.{Take, Answer, Reply, Push, Effect, Settle}
use Rattle.device_types.specs.declared.event.EventAnswer.{EventAnswer}
use Rattle.device_types.specs.declared.event.EventAnswer.TheVariants as told
use Rattle.device_types.specs.declared.event.Lane.{Lane}
use Rattle.device_types.specs.declared.subscriber.DeviceId.{DeviceId}
use Rattle.device_types.specs.Journal.{pushed_count, taken_count}
use Rattle.schedule_laws.specs.Answer.{on_replica, answer, turn, history, Lawful}
use Rattle.schedule_laws.specs.Counts.{Turn, acked, accepted, settled, message_sent, reply_sent, effect_pushed, effect_received, journal}
use Rattle.schedule_laws.specs.Setting.{Setting}
use Rattle.schedule_laws.proofs.Laws.{reply_is, received_is}
use Rattle.schedule_laws.proofs.Comparisons.{here, not_here, le_true, le_false, lt_true, lt_false}

-- one more event is one more turn
pub history_more : (s : Setting) (es : List Event) (e : Event) → history s (es ++ e ∷ []) ≡ turn s (history s es) e
history_more s es e = fold-append (turn s) [] es (e ∷ [])

-- ---- at a replica

-- there is no such replica
pub no_replica : (s : Setting) (r : ℕ) (a : EventAnswer) → s.replicas < r → told.VoidReplica ≡ on_replica s r a
no_replica s r a high = rw (le_false r s.replicas high) refl

pub take_told : (s : Setting) (H : List Turn) (r : ℕ) (e : DeviceId) (n : ℕ) → r ≤ s.replicas → answer s H (Take r e n) ≡ cond (message_sent e.0 n H) told.Taken told.VoidLink
take_told s H r e n low = rw (le_true r s.replicas low) refl

pub answer_told : (s : Setting) (H : List Turn) (r : ℕ) (e : DeviceId) (l : Lane) (k : ℕ) → Lawful s H → r ≤ s.replicas → 1 ≤ k → answer s H (Answer r e l k) ≡ cond (nat_le k (accepted e.0 l H)) told.Taken told.VoidLink
answer_told s H r e l k L low one = rw (le_true r s.replicas low, received_is s e.0 l k H L one) refl

-- ---- at the agent

pub reply_void : (s : Setting) (H : List Turn) (e : DeviceId) (n : ℕ) → Lawful s H → 1 ≤ n → taken_count (journal s e.0 H) < n → told.VoidLink ≡ answer s H (Reply e n)
reply_void s H e n L low high = let f : reply_sent e.0 n H ≡ false = reply_is s e.0 n H L low ∙ le_false n (taken_count (journal s e.0 H)) high in rw f refl

pub reply_old : (s : Setting) (H : List Turn) (e : DeviceId) (n : ℕ) → Lawful s H → 1 ≤ n → n ≤ taken_count (journal s e.0 H) → n ≤ acked e.0 H → told.Old n ≡ answer s H (Reply e n)
reply_old s H e n L low high old = let f : reply_sent e.0 n H ≡ true = reply_is s e.0 n H L low ∙ le_true n (taken_count (journal s e.0 H)) high in rw (f, lt_false (acked e.0 H) n old) refl

pub reply_new : (s : Setting) (H : List Turn) (e : DeviceId) (n : ℕ) → Lawful s H → 1 ≤ n → n ≤ taken_count (journal s e.0 H) → acked e.0 H < n → told.Acked n ≡ answer s H (Reply e n)
reply_new s H e n L low high new = let f : reply_sent e.0 n H ≡ true = reply_is s e.0 n H L low ∙ le_true n (taken_count (journal s e.0 H)) high in rw (f, lt_true (acked e.0 H) n new) refl

-- ---- on a lane

pub push_told : (s : Setting) (H : List Turn) (e : DeviceId) (l : Lane) (k : ℕ) → settled e.0 l H < k → k ≤ pushed_count l (journal s e.0 H) → told.Pushed ≡ answer s H (Push e l k)
push_told s H e l k a b = rw (lt_true (settled e.0 l H) k a, le_true k (pushed_count l (journal s e.0 H)) b) refl

pub push_void : (s : Setting) (H : List Turn) (e : DeviceId) (l : Lane) (k : ℕ) → (settled e.0 l H < k → k ≤ pushed_count l (journal s e.0 H) → ⊥) → told.VoidOutbox ≡ answer s H (Push e l k)
push_void s H e l k never = at (nat_lt (settled e.0 l H) k) (nat_le k (pushed_count l (journal s e.0 H))) refl refl
  where
    at : (x y : Bool) → nat_lt (settled e.0 l H) k ≡ x → nat_le k (pushed_count l (journal s e.0 H)) ≡ y → told.VoidOutbox ≡ cond (x && y) told.Pushed told.VoidOutbox
    at false y f g = refl
    at true false f g = refl
    at true true f g = absurd (never (grind (arith, common_steps, f)) (grind (arith, common_steps, g)))

pub effect_void : (s : Setting) (H : List Turn) (e : DeviceId) (l : Lane) (k : ℕ) → effect_pushed e.0 l k H ≡ false → told.VoidLink ≡ answer s H (Effect e l k)
effect_void s H e l k off = rw off refl

pub effect_next : (s : Setting) (H : List Turn) (e : DeviceId) (l : Lane) (k : ℕ) → effect_pushed e.0 l k H ≡ true → k ≡ accepted e.0 l H + 1 → told.Accepted k ≡ answer s H (Effect e l k)
effect_next s H e l k on is = rw (on, is, here (accepted e.0 l H + 1)) refl

pub effect_repeat : (s : Setting) (H : List Turn) (e : DeviceId) (l : Lane) (k : ℕ) → effect_pushed e.0 l k H ≡ true → k ≤ accepted e.0 l H → told.Repeat k ≡ answer s H (Effect e l k)
effect_repeat s H e l k on low =
    let apart : k ≡ accepted e.0 l H + 1 → ⊥ = λ (is : k ≡ accepted e.0 l H + 1). omega arith in
    rw (on, not_here (accepted e.0 l H + 1) k apart, le_true k (accepted e.0 l H) low) refl

pub effect_ahead : (s : Setting) (H : List Turn) (e : DeviceId) (l : Lane) (k : ℕ) → effect_pushed e.0 l k H ≡ true → accepted e.0 l H + 1 < k → told.Ahead (accepted e.0 l H) ≡ answer s H (Effect e l k)
effect_ahead s H e l k on high =
    let apart : k ≡ accepted e.0 l H + 1 → ⊥ = λ (is : k ≡ accepted e.0 l H + 1). omega arith in
    rw (on, not_here (accepted e.0 l H + 1) k apart, le_false k (accepted e.0 l H) (omega arith)) refl

pub settle_void : (s : Setting) (H : List Turn) (e : DeviceId) (l : Lane) (k : ℕ) → Lawful s H → 1 ≤ k → accepted e.0 l H < k → told.VoidLink ≡ answer s H (Settle e l k)
settle_void s H e l k L low high = let off : effect_received e.0 l k H ≡ false = received_is s e.0 l k H L low ∙ le_false k (accepted e.0 l H) high in rw off refl

pub settle_old : (s : Setting) (H : List Turn) (e : DeviceId) (l : Lane) (k : ℕ) → Lawful s H → 1 ≤ k → k ≤ accepted e.0 l H → k ≤ settled e.0 l H → told.Old k ≡ answer s H (Settle e l k)
settle_old s H e l k L low high old = let on : effect_received e.0 l k H ≡ true = received_is s e.0 l k H L low ∙ le_true k (accepted e.0 l H) high in rw (on, le_true k (settled e.0 l H) old) refl

pub settle_new : (s : Setting) (H : List Turn) (e : DeviceId) (l : Lane) (k : ℕ) → Lawful s H → 1 ≤ k → k ≤ accepted e.0 l H → settled e.0 l H < k → told.Settled k ≡ answer s H (Settle e l k)
settle_new s H e l k L low high new = let on : effect_received e.0 l k H ≡ true = received_is s e.0 l k H L low ∙ le_true k (accepted e.0 l H) high in rw (on, le_false k (settled e.0 l H) new) refl
