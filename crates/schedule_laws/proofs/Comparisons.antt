-- Tests of numbers, lanes and answers.
use Rattle.std.proofs.Common.{◌≡◌, ◌==◌, ◌⊎◌, inl, inr, ℕ, suc, ◌+◌, ◌≤◌, ◌<◌, max, Bool, true, false, cond, ◌&&◌, ◌||◌, refl, ap, arith}
use Rattle.std.specs.Prelude.{nat_le, nat_lt}
use Rattle.std.proofs.lemmas.Grind.{common_steps}
use Rattle.device_types.specs.declared.event.EventAnswer.{EventAnswer}
use Rattle.device_types.specs.declared.event.EventAnswer.TheVariants as told
use Rattle.device_types.specs.declared.event.Lane.{Lane}
use Rattle.device_types.specs.declared.event.Lane.TheVariants.{Down, Gateway, Subscriber}
use Rattle.device_types.specs.declared.look.Look.{Look}
use Rattle.device_types.specs.declared.look.Look.TheVariants as look
use Rattle.device_types.specs.Look.{same_lane}
use Rattle.schedule_laws.specs.Counts.{is_sent, is_taken, is_acked, is_accepted, is_received, is_committed, is_settled, is_pushed}

pub or_true : (b c : Bool) → (b || c) ≡ true → (b ≡ true) ⊎ (c ≡ true)
or_true true c h = inl refl
or_true false c h = inr h

pub or_right : (b c : Bool) → c ≡ true → (b || c) ≡ true
or_right true c h = refl
or_right false c h = h

pub and_true : (b c : Bool) → (b && c) ≡ true → (b ≡ true) × (c ≡ true)
and_true true c h = (refl, h)
and_true false c h = absurd (cc)

pub max_if : (b : Bool) (n m : ℕ) → m ≤ cond b (max n m) m
max_if true n m = omega arith
max_if false n m = omega arith

pub le_if : (b : Bool) (n : ℕ) → n ≤ cond b (suc n) n
le_if true n = omega arith
le_if false n = omega arith

pub max_of : (b : Bool) (k m bound : ℕ) → (b ≡ true → k ≤ bound) → m ≤ bound → cond b (max k m) m ≤ bound
max_of true k m bound h g = let r = h refl in omega arith
max_of false k m bound h g = g

pub same_number : (d e : ℕ) → (d == e) ≡ true → d ≡ e
same_number d e h = grind (arith, common_steps)

pub here : (i : ℕ) → (i == i) ≡ true
here i = grind (arith, common_steps)

pub not_here : (i j : ℕ) → (j ≡ i → ⊥) → (j == i) ≡ false
not_here i j h = grind (arith, common_steps)

pub nor_here : (i j : ℕ) → (j ≡ i → ⊥) → (i == j) ≡ false
nor_here i j h = grind (arith, common_steps)

pub le_true : (n m : ℕ) → n ≤ m → nat_le n m ≡ true
le_true n m h = grind (arith, common_steps)

pub le_false : (n m : ℕ) → m < n → nat_le n m ≡ false
le_false n m h = grind (arith, common_steps)

pub lt_true : (n m : ℕ) → n < m → nat_lt n m ≡ true
lt_true n m h = grind (arith, common_steps)

pub lt_false : (n m : ℕ) → m ≤ n → nat_lt n m ≡ false
lt_false n m h = grind (arith, common_steps)

pub le_of : (n m : ℕ) → nat_le n m ≡ true → n ≤ m
le_of n m h = grind (arith, common_steps)

pub gt_of : (n m : ℕ) → nat_le n m ≡ false → m < n
gt_of n m h = grind (arith, common_steps)

pub lt_of : (n m : ℕ) → nat_lt n m ≡ true → n < m
lt_of n m h = grind (arith, common_steps)

pub same_lane_true : (l m : Lane) → same_lane l m ≡ true → l ≡ m
same_lane_true Down Down h = refl
same_lane_true Gateway Gateway h = refl
same_lane_true Subscriber Subscriber h = refl
same_lane_true Down Gateway h = absurd (cc)
same_lane_true Down Subscriber h = absurd (cc)
same_lane_true Gateway Down h = absurd (cc)
same_lane_true Gateway Subscriber h = absurd (cc)
same_lane_true Subscriber Down h = absurd (cc)
same_lane_true Subscriber Gateway h = absurd (cc)

pub lane_here : (l : Lane) → same_lane l l ≡ true
lane_here Down = refl
lane_here Gateway = refl
lane_here Subscriber = refl

-- a test of an answer, a device and a number
pub all_of : (x : Bool) (d e n m : ℕ) → (x && (d == e) && (n == m)) ≡ true → (x ≡ true) × (d ≡ e) × (n ≡ m)
all_of x d e n m h = grind (arith, common_steps)

-- and of a lane
pub all_on : (x : Bool) (d e : ℕ) (l m : Lane) (n k : ℕ) → (x && (d == e) && same_lane l m && (n == k)) ≡ true → (x ≡ true) × (d ≡ e) × (l ≡ m) × (n ≡ k)
all_on x d e l m n k h =
    let p = and_true (x && (d == e) && same_lane l m) (n == k) h in
    let q = and_true (x && (d == e)) (same_lane l m) p.0 in
    let r = and_true x (d == e) q.0 in
    (r.0, same_number d e r.1, same_lane_true l m q.1, same_number n k p.1)

pub same_on : (d e : ℕ) (l m : Lane) → ((d == e) && same_lane l m) ≡ true → (d ≡ e) × (l ≡ m)
same_on d e l m h = let p = and_true (d == e) (same_lane l m) h in (same_number d e p.0, same_lane_true l m p.1)

-- ---- what was tested before an answer

pub sent_if : (c : Bool) (a : EventAnswer) → a ≡ cond c told.Sent told.VoidWindow → is_sent a ≡ true → c ≡ true
sent_if true a e h = refl
sent_if false a e h = absurd (let f = ap is_sent e in cc)

pub pushed_if : (c : Bool) (a : EventAnswer) → a ≡ cond c told.Pushed told.VoidOutbox → is_pushed a ≡ true → c ≡ true
pushed_if true a e h = refl
pushed_if false a e h = absurd (let f = ap is_pushed e in cc)

pub taken_if : (b c : Bool) (a : EventAnswer) → a ≡ cond b (cond c told.Taken told.VoidLink) told.VoidReplica → is_taken a ≡ true → c ≡ true
taken_if true true a e h = refl
taken_if true false a e h = absurd (let f = ap is_taken e in cc)
taken_if false c a e h = absurd (let f = ap is_taken e in cc)

pub acked_if : (p c : Bool) (n : ℕ) (a : EventAnswer) → a ≡ cond p (cond c (told.Acked n) (told.Old n)) told.VoidLink → is_acked a ≡ true → p ≡ true
acked_if true c n a e h = refl
acked_if false c n a e h = absurd (let f = ap is_acked e in cc)

pub settled_if : (p c : Bool) (k : ℕ) (a : EventAnswer) → a ≡ cond p (cond c (told.Old k) (told.Settled k)) told.VoidLink → is_settled a ≡ true → p ≡ true
settled_if true c k a e h = refl
settled_if false c k a e h = absurd (let f = ap is_settled e in cc)

pub committed_if : (c : Bool) (x y v : ℕ) (a : EventAnswer) → a ≡ cond c (told.Committed x) (told.Stale v y) → is_committed a ≡ true → c ≡ true
committed_if true x y v a e t = refl
committed_if false x y v a e t = absurd (let f = ap is_committed e in cc)

pub accepted_if : (b c : Bool) (k last : ℕ) (p : Bool) (a : EventAnswer) → a ≡ cond p (cond b (told.Accepted k) (cond c (told.Repeat k) (told.Ahead last))) told.VoidLink → is_accepted a ≡ true → (p ≡ true) × (b ≡ true)
accepted_if true c k last true a e h = (refl, refl)
accepted_if false true k last true a e h = absurd (let f = ap is_accepted e in cc)
accepted_if false false k last true a e h = absurd (let f = ap is_accepted e in cc)
accepted_if b c k last false a e h = absurd (let f = ap is_accepted e in cc)

-- an effect is accepted, repeated, or neither
pub effect_cases : (b c : Bool) (k last : ℕ) (p : Bool) (a : EventAnswer) → a ≡ cond p (cond b (told.Accepted k) (cond c (told.Repeat k) (told.Ahead last))) told.VoidLink → ((is_accepted a ≡ true) × (is_received a ≡ true) × (b ≡ true)) ⊎ (((is_accepted a ≡ false) × (is_received a ≡ true) × (c ≡ true)) ⊎ ((is_accepted a ≡ false) × (is_received a ≡ false)))
effect_cases true c k last true a e = inl (ap is_accepted e, ap is_received e, refl)
effect_cases false true k last true a e = inr (inl (ap is_accepted e, ap is_received e, refl))
effect_cases false false k last true a e = inr (inr (ap is_accepted e, ap is_received e))
effect_cases b c k last false a e = inr (inr (ap is_accepted e, ap is_received e))

-- ---- windows

pub in_window : (a n l : ℕ) → (nat_lt a n && nat_le n (a + 4) && nat_le n l) ≡ true → (a < n) × (n ≤ a + 4) × (n ≤ l)
in_window a n l h = grind (arith, common_steps)

pub in_outbox : (a n l : ℕ) → (nat_lt a n && nat_le n l) ≡ true → (a < n) × (n ≤ l)
in_outbox a n l h = grind (arith, common_steps)

pub next_number : (n t : ℕ) → nat_le n t ≡ false → nat_lt (t + 1) n ≡ false → n ≡ t + 1
next_number n t a b = grind (arith, common_steps)

-- ---- looks that say Ready

pub ready_message : (b1 b2 b3 : Bool) (n t : ℕ) (w : Look) → cond b1 (look.Settled n) (cond b2 (look.Repeat n) (cond b3 (look.Ahead t) w)) ≡ look.Ready → (b2 ≡ false) × (b3 ≡ false) × (w ≡ look.Ready)
ready_message true b2 b3 n t w h = absurd (cc)
ready_message false true b3 n t w h = absurd (cc)
ready_message false false true n t w h = absurd (cc)
ready_message false false false n t w h = (refl, refl, h)

pub ready_answer : (b1 b2 : Bool) (n : ℕ) (lane : Lane) (k : ℕ) → cond b1 look.Ready (cond b2 (look.NotAwaited n) (look.Old lane k)) ≡ look.Ready → b1 ≡ true
ready_answer true b2 n lane k h = refl
ready_answer false true n lane k h = absurd (cc)
ready_answer false false n lane k h = absurd (cc)
