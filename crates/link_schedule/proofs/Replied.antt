-- What the row says to a message whose reply arrives.
use Rattle.std.proofs.Common.{◌≡◌, ℕ, zero, suc, ◌+◌, ◌-◌, ◌≤◌, ◌<◌, Bool, true, false, cond, List, [], ◌∷◌, length, map, Option, Some, None, refl, sym, ap, ◌∙◌, subst, arith}
use Rattle.std.specs.List.{enumerate_from}
use Rattle.std.specs.Prelude.{◌↔◌, IsSome, nat_le, nat_lt, slice_get}
use Rattle.device_types.specs.declared.event.Event.TheVariants.{Reply as ReplyEvent}
use Rattle.device_types.specs.declared.event.EventAnswer.TheVariants as told
use Rattle.device_types.specs.declared.event.Lane.{Lane}
use Rattle.device_types.specs.declared.look.Look.{Look}
use Rattle.device_types.specs.declared.look.Look.TheVariants as look
use Rattle.device_types.specs.declared.step.Entry.{Entry}
use Rattle.device_types.specs.declared.step.Reply.{Reply}
use Rattle.device_types.specs.declared.subscriber.DeviceId.{DeviceId}
use Rattle.device_types.specs.Journal.{taken_count, awaited_call, message_entries, reply_at, reply_of}
use Rattle.device_types.specs.Look.{look_of, unless_awaited}
use Rattle.device_types.specs.Numbers.{IsWithin}
use Rattle.session_row.specs.Row.{RowState}
use Rattle.session_store.specs.Rows.{opening_row, journal_of}
use Rattle.session_store.specs.Seen.{IsRepeat, repeated_reply}
use Rattle.schedule_laws.specs.Answer.{answer, Lawful}
use Rattle.schedule_laws.specs.Counts.{Turn, journal}
use Rattle.schedule_laws.specs.Setting.{Setting}
use Rattle.link_schedule.specs.World.{Parts, ArePartsOf}
use Rattle.schedule_laws.proofs.Comparisons.{le_of, gt_of}
use Rattle.schedule_laws.proofs.EachAnswer.{reply_void, reply_old}
use Rattle.schedule_laws.proofs.Laws.{taken_bound}

-- the look by its tests
abbrev look_by : Bool → Bool → Bool → Option (Lane × ℕ) → ℕ → ℕ → Look
look_by b c d x t n = cond b (look.Settled n) (cond c (look.Repeat n) (cond d (look.Ahead t) (unless_awaited x)))

settled_by : (b c d : Bool) (x : Option (Lane × ℕ)) (t n m : ℕ) → look_by b c d x t n ≡ look.Settled m → b ≡ true
settled_by true c d x t n m e = refl
settled_by false true d x t n m e = absurd (cc)
settled_by false false true x t n m e = absurd (cc)
settled_by false false false None t n m e = absurd (cc)
settled_by false false false (Some call) t n m e = absurd (cc)

repeat_by : (b c d : Bool) (x : Option (Lane × ℕ)) (t n : ℕ) → IsRepeat (look_by b c d x t n) → (look_by b c d x t n ≡ look.Repeat n) × (c ≡ true)
repeat_by true c d x t n i = absurd (i)
repeat_by false true d x t n i = (refl, refl)
repeat_by false false true x t n i = absurd (i)
repeat_by false false false None t n i = absurd (i)
repeat_by false false false (Some call) t n i = absurd (i)

void_by : (b c d : Bool) (x : Option (Lane × ℕ)) (t n : ℕ) → ((m : ℕ) → look_by b c d x t n ≡ look.Settled m → ⊥) → (IsRepeat (look_by b c d x t n) → ⊥) → c ≡ false
void_by true c d x t n not_settled not_repeat = absurd (not_settled n refl)
void_by false true d x t n not_settled not_repeat = absurd (not_repeat tt)
void_by false false d x t n not_settled not_repeat = refl

pub settled_taken : (J : List Entry) (n m : ℕ) → look_of 4 J n ≡ look.Settled m → n + 4 ≤ taken_count J
settled_taken J n m e = le_of (n + 4) (taken_count J) (settled_by (nat_le (n + 4) (taken_count J)) (nat_le n (taken_count J)) (nat_lt (taken_count J + 1) n) (awaited_call J) (taken_count J) n m e)

pub repeat_taken : (J : List Entry) (n : ℕ) → IsRepeat (look_of 4 J n) → (look_of 4 J n ≡ look.Repeat n) × (n ≤ taken_count J)
repeat_taken J n i =
    let r = repeat_by (nat_le (n + 4) (taken_count J)) (nat_le n (taken_count J)) (nat_lt (taken_count J + 1) n) (awaited_call J) (taken_count J) n i in
    (r.0, le_of n (taken_count J) r.1)

pub void_taken : (J : List Entry) (n : ℕ) → ((m : ℕ) → look_of 4 J n ≡ look.Settled m → ⊥) → (IsRepeat (look_of 4 J n) → ⊥) → taken_count J < n
void_taken J n not_settled not_repeat =
    gt_of n (taken_count J) (void_by (nat_le (n + 4) (taken_count J)) (nat_le n (taken_count J)) (nat_lt (taken_count J + 1) n) (awaited_call J) (taken_count J) n not_settled not_repeat)

number_from : (xs : List (ℕ × Entry)) (a i : ℕ) (r : Reply) → slice_get (map reply_at (enumerate_from a xs)) i ≡ Some r → r.number ≡ a + i
number_from [] a i r e = cc
number_from (x ∷ xs) a zero r e = let same : reply_at (a, x) ≡ r = cc in ap (λ (q : Reply). q.number) (sym same) ∙ (let n : a ≡ a + 0 = omega arith in n)
number_from (x ∷ xs) a (suc i) r e = let f = number_from xs (a + 1) i r e in omega arith

-- the reply to a message has its number
pub reply_number : (J : List Entry) (n : ℕ) (r : Reply) → 1 ≤ n → Some r ≡ reply_of J n → r.number ≡ n
reply_number J n r low e = let f = number_from (message_entries J) 1 (n - 1) r (sym e) in omega arith

-- ---- over a store's rows

pub row_journal : (s : Setting) (H : List Turn) (p : Parts) (d : ℕ) → ArePartsOf s H p → IsWithin (length s.rows) d → journal_of p.rows d ≡ journal s d H
row_journal s H p d m within = ap (λ (x : RowState). x.journal) (m.rows.at d opening_row within)

-- the reply is no longer kept: the agent has learnt of the message before
pub replied_old : (s : Setting) (H : List Turn) (p : Parts) (e : DeviceId) (n m : ℕ) → Lawful s H → ArePartsOf s H p → IsWithin (length s.rows) e.0 → 1 ≤ n → look_of 4 (journal_of p.rows e.0) n ≡ look.Settled m → told.Old n ≡ answer s H (ReplyEvent e n)
replied_old s H p e n m L parts within low is =
    let t = settled_taken (journal s e.0 H) n m (rw (row_journal s H p e.0 parts within) at is) in
    let b = taken_bound s e.0 H L in
    reply_old s H e n L low (omega arith) (omega arith)

-- there is none: the message was not taken
pub replied_void : (s : Setting) (H : List Turn) (p : Parts) (e : DeviceId) (n : ℕ) → Lawful s H → ArePartsOf s H p → IsWithin (length s.rows) e.0 → 1 ≤ n → ((m : ℕ) → look_of 4 (journal_of p.rows e.0) n ≡ look.Settled m → ⊥) → (IsRepeat (look_of 4 (journal_of p.rows e.0) n) → ⊥) → told.VoidLink ≡ answer s H (ReplyEvent e n)
replied_void s H p e n L parts within low not_settled not_repeat =
    let t = void_taken (journal_of p.rows e.0) n not_settled not_repeat in
    let same = row_journal s H p e.0 parts within in
    let high : taken_count (journal s e.0 H) < n = subst (λ (J : List Entry). taken_count J < n) same t in
    reply_void s H e n L low high

-- there is one: the message was taken, and the reply has its number
pub replied_some : (s : Setting) (H : List Turn) (p : Parts) (e : DeviceId) (n : ℕ) (r : Reply) → ArePartsOf s H p → IsWithin (length s.rows) e.0 → 1 ≤ n → IsRepeat (look_of 4 (journal_of p.rows e.0) n) → Some r ≡ repeated_reply (journal_of p.rows e.0) (look_of 4 (journal_of p.rows e.0) n) → (r.number ≡ n) × (n ≤ taken_count (journal s e.0 H))
replied_some s H p e n r parts within low is reply =
    let J = journal_of p.rows e.0 in
    let t = repeat_taken J n is in
    (reply_number J n r low (reply ∙ ap (repeated_reply J) t.0), subst (λ (K : List Entry). n ≤ taken_count K) (row_journal s H p e.0 parts within) t.1)

-- no reply is told: the look is no repeat
pub no_repeat : (r : Option Reply) (l : Look) → IsSome r ↔ IsRepeat l → r ≡ None → IsRepeat l → ⊥
no_repeat r l told none is = let some : IsSome {T = Reply} None = subst (λ (x : Option Reply). IsSome x) none (told.1 is) in cc
