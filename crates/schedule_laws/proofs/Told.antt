-- What a read is told, answer by answer.
use Rattle.std.proofs.Common.{◌≡◌, ◌==◌, ℕ, ◌+◌, ◌≤◌, Bool, true, false, cond, List, Option, Some, None, refl, sym, ap, ◌∙◌, subst, arith}
use Rattle.std.specs.Prelude.{◌≢◌, ◌↔◌, nat_le, nat_lt}
use Rattle.device_types.specs.declared.event.Event.TheVariants.{Read}
use Rattle.device_types.specs.declared.event.EventAnswer.{EventAnswer}
use Rattle.device_types.specs.declared.event.EventAnswer.TheVariants as told
use Rattle.device_types.specs.declared.event.Lane.{Lane}
use Rattle.device_types.specs.declared.look.Look.TheVariants as look
use Rattle.device_types.specs.Journal.{taken_count, pushed_count, awaited_call}
use Rattle.device_types.specs.Look.{same_lane, unless_awaited, is_call, look_behind, answer_look_behind}
use Rattle.schedule_laws.specs.Answer.{look_answer, answer, Lawful}
use Rattle.schedule_laws.specs.Counts.{Turn, hand, commits, journal}
use Rattle.schedule_laws.specs.Counts.Arrival.{TheMessage, TheAnswer}
use Rattle.schedule_laws.specs.Promise.{Holds}
use Rattle.schedule_laws.specs.Reads.{IsToldOfMessage, IsToldOfAnswer}
use Rattle.schedule_laws.specs.Setting.{Setting}
use Rattle.schedule_laws.proofs.Comparisons.{and_true, same_number, here, same_lane_true, lane_here, le_true, le_false, lt_true, lt_false, le_of, gt_of, next_number, lt_of}
use Rattle.schedule_laws.proofs.Laws.{answer_made, hand_ok}
use Rattle.schedule_laws.proofs.Promises.{read_is, arrival_of}

-- ---- of messages

message_told : (t : ℕ) (o : Option (Lane × ℕ)) (v n : ℕ) → IsToldOfMessage t o v n (look_answer v (look_behind 4 t o n))
message_told t o v n = by (nat_le (n + 4) t) (nat_le n t) (nat_lt (t + 1) n) o refl refl refl
  where
    by : (x y z : Bool) (w : Option (Lane × ℕ)) → nat_le (n + 4) t ≡ x → nat_le n t ≡ y → nat_lt (t + 1) n ≡ z → IsToldOfMessage t w v n (look_answer v (cond x (look.Settled n) (cond y (look.Repeat n) (cond z (look.Ahead t) (unless_awaited w)))))
    by true y z w f g h = (le_of (n + 4) t f, refl)
    by false true z w f g h = (le_of n t g, gt_of (n + 4) t f, refl)
    by false false true w f g h = (lt_of (t + 1) n h, refl)
    by false false false None f g h = (next_number n t g h, refl, refl)
    by false false false (Some call) f g h = (next_number n t g h, refl)

message_back : (t : ℕ) (o : Option (Lane × ℕ)) (v n : ℕ) (a : EventAnswer) → IsToldOfMessage t o v n a → look_answer v (look_behind 4 t o n) ≡ a
message_back t o v n (told.Settled m) i = rw (le_true (n + 4) t i.0, i.1) refl
message_back t o v n (told.Repeat m) i = rw (le_false (n + 4) t i.1, le_true n t i.0, i.2) refl
message_back t o v n (told.Ahead m) i =
    let above = i.0 in rw (le_false (n + 4) t (omega arith), le_false n t (omega arith), lt_true (t + 1) n above, i.1) refl
message_back t o v n (told.Waiting lane k) i =
    let next = i.0 in rw (le_false (n + 4) t (omega arith), le_false n t (omega arith), lt_false (t + 1) n (omega arith), i.1) refl
message_back t o v n (told.Ready w) i =
    let next = i.0 in rw (le_false (n + 4) t (omega arith), le_false n t (omega arith), lt_false (t + 1) n (omega arith), i.1, i.2) refl
message_back t o v n _ i = absurd i

pub read_of_message : (s : Setting) (H : List Turn) (r d n : ℕ) (a : EventAnswer) → r ≤ s.replicas → Holds d (TheMessage n) (hand r H) → (answer s H (Read r) ≡ a) ↔ IsToldOfMessage (taken_count (journal s d H)) (awaited_call (journal s d H)) (commits d H) n a
read_of_message s H r d n a low i =
    let t = taken_count (journal s d H) in
    let o = awaited_call (journal s d H) in
    let e = read_is s H r d (TheMessage n) low i in
    ((λ is. subst (IsToldOfMessage t o (commits d H) n) (sym e ∙ is) (message_told t o (commits d H) n)), (λ told. e ∙ message_back t o (commits d H) n a told))

-- ---- of answers

not_some : {A : Type 0} {x : A} → None ≡ Some x → ⊥
not_some h = absurd (cc)

call_is : (o : Option (Lane × ℕ)) (lane : Lane) (k : ℕ) → is_call o lane k ≡ true → o ≡ Some (lane, k)
call_is None lane k h = absurd (cc)
call_is (Some call) lane k h =
    let p = and_true (same_lane call.0 lane) (call.1 == k) h in rw (← same_lane_true call.0 lane p.0, ← same_number call.1 k p.1) refl

is_call_here : (lane : Lane) (k : ℕ) → is_call (Some (lane, k)) lane k ≡ true
is_call_here lane k = rw (lane_here lane, here k) refl

call_other : (o : Option (Lane × ℕ)) (lane : Lane) (k : ℕ) → o ≢ Some (lane, k) → is_call o lane k ≡ false
call_other o lane k apart = by (is_call o lane k) refl
  where
    by : (b : Bool) → is_call o lane k ≡ b → b ≡ false
    by true e = absurd (apart (call_is o lane k e))
    by false e = refl

answer_told : (p : ℕ) (o : Option (Lane × ℕ)) (v : ℕ) (lane : Lane) (k : ℕ) → k ≤ p → IsToldOfAnswer o v lane k (look_answer v (answer_look_behind p o lane k))
answer_told p o v lane k made = by (is_call o lane k) refl
  where
    by : (b : Bool) → is_call o lane k ≡ b → IsToldOfAnswer o v lane k (look_answer v (cond b look.Ready (cond (nat_lt p k) (look.NotAwaited p) (look.Old lane k))))
    by true e = (call_is o lane k e, refl)
    by false e = rw (lt_false p k made) ((λ is. let f = ap (λ x. is_call x lane k) is ∙ is_call_here lane k in absurd (cc)), refl, refl)

answer_back : (p : ℕ) (o : Option (Lane × ℕ)) (v : ℕ) (lane : Lane) (k : ℕ) (a : EventAnswer) → k ≤ p → IsToldOfAnswer o v lane k a → look_answer v (answer_look_behind p o lane k) ≡ a
answer_back p o v lane k (told.Ready w) made i = rw (i.0, is_call_here lane k, i.1) refl
answer_back p o v lane k (told.OldCall m j) made i = rw (call_other o lane k i.0, lt_false p k made, i.1, i.2) refl
answer_back p o v lane k _ made i = absurd i

pub read_of_answer : (s : Setting) (H : List Turn) (r d : ℕ) (lane : Lane) (k : ℕ) (a : EventAnswer) → Lawful s H → r ≤ s.replicas → Holds d (TheAnswer lane k) (hand r H) → (answer s H (Read r) ≡ a) ↔ IsToldOfAnswer (awaited_call (journal s d H)) (commits d H) lane k a
read_of_answer s H r d lane k a L low i =
    let p = pushed_count lane (journal s d H) in
    let o = awaited_call (journal s d H) in
    let made = answer_made s H d lane k L (arrival_of s H d (TheAnswer lane k) (hand r H) i (hand_ok s r H L)) in
    let e = read_is s H r d (TheAnswer lane k) low i in
    ((λ is. subst (IsToldOfAnswer o (commits d H) lane k) (sym e ∙ is) (answer_told p o (commits d H) lane k made)), (λ told. e ∙ answer_back p o (commits d H) lane k a made told))
