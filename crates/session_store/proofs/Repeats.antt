-- A look says that a message is a repeat exactly where there is a reply to tell.
use Rattle.std.proofs.Common.{◌≡◌, ℕ, ◌+◌, ◌-◌, ◌≤◌, ◌<◌, Bool, true, false, cond, ⊎_elim, List, length, get_or, Option, Some, None, refl, sym, subst, arith}
use Rattle.std.specs.Prelude.{nat_le, nat_lt, IsSome, ◌↔◌}
use Rattle.std.proofs.lemmas.Grind.{common_steps}
use Rattle.std.proofs.lemmas.Option.{slice_get_cases}
use Rattle.device_types.specs.declared.event.Lane.{Lane}
use Rattle.device_types.specs.declared.look.Look.{Look}
use Rattle.device_types.specs.declared.look.Look.TheVariants.{Ready, Repeat, Settled, Ahead, Waiting, Old, NotAwaited}
use Rattle.device_types.specs.declared.step.Entry.{Entry}
use Rattle.device_types.specs.declared.step.Reply.{Reply}
use Rattle.device_types.specs.Journal.{taken_count, pushed_count, awaited_call, replies_of, reply_of}
use Rattle.device_types.specs.Look.{unless_awaited, is_call}
use Rattle.device_types.proofs.Journals.{length-replies}
use Rattle.session_store.specs.declared.asked.Asked.{Asked}
use Rattle.session_store.specs.declared.asked.Asked.TheVariants.{Message, Answer}
use Rattle.session_store.specs.Law.{window}
use Rattle.session_store.specs.Seen.{IsAsked, IsRepeat, look_to, repeated_reply}

no_repeat : (call : Option (Lane × ℕ)) (m : ℕ) → unless_awaited call ≡ Repeat m → ⊥
no_repeat None m h = cc
no_repeat (Some call) m h = cc

repeat_from : (b1 b2 b3 : Bool) (n taken m : ℕ) (call : Option (Lane × ℕ)) → cond b1 (Settled n) (cond b2 (Repeat n) (cond b3 (Ahead taken) (unless_awaited call))) ≡ Repeat m → (b2 ≡ true) × (n ≡ m)
repeat_from true b2 b3 n taken m call h = absurd (cc)
repeat_from false true b3 n taken m call h = (refl, cc)
repeat_from false false true n taken m call h = absurd (cc)
repeat_from false false false n taken m call h = absurd (no_repeat call m h)

answer_from : (b1 b2 : Bool) (lane : Lane) (k pushed m : ℕ) → cond b1 Ready (cond b2 (NotAwaited pushed) (Old lane k)) ≡ Repeat m → ⊥
answer_from true b2 lane k pushed m h = cc
answer_from false true lane k pushed m h = cc
answer_from false false lane k pushed m h = cc

within : (n taken : ℕ) → nat_le n taken ≡ true → n ≤ taken
within n taken h = grind (arith, common_steps)

-- a repeat is of a message that was taken
pub repeat_taken : (journal : List Entry) (asked : Asked) (m : ℕ) → IsAsked asked → look_to journal asked ≡ Repeat m → (1 ≤ m) × (m ≤ taken_count journal)
repeat_taken journal (Message n) m is h =
    let taken = taken_count journal in
    let r = repeat_from (nat_le (n + window) taken) (nat_le n taken) (nat_lt (taken + 1) n) n taken m (awaited_call journal) h in
    let low = within n taken r.0 in
    (omega (arith, is, r.1), omega (arith, low, r.1))
repeat_taken journal (Answer lane k) m is h =
    absurd (answer_from (is_call (awaited_call journal) lane k) (nat_lt (pushed_count lane journal) k) lane k (pushed_count lane journal) m h)

reply_there : (journal : List Entry) (n : ℕ) → 1 ≤ n → n ≤ taken_count journal → IsSome (reply_of journal n)
reply_there journal n least most =
    let count = length-replies journal in
    ⊎_elim
    (λ (c : (r : Reply) × (n - 1 < length (replies_of journal)) × (reply_of journal n ≡ Some r) × (get_or (replies_of journal) (n - 1) r ≡ r)). subst IsSome (sym c.2) refl)
    (λ (c : (length (replies_of journal) ≤ n - 1) × (reply_of journal n ≡ None)). let past = c.0 in absurd (omega arith))
    (slice_get_cases (replies_of journal) (n - 1)).1

told_by : (journal : List Entry) (asked : Asked) (look : Look) → IsAsked asked → look_to journal asked ≡ look → IsSome (repeated_reply journal look) ↔ IsRepeat look
told_by journal asked (Repeat n) is e =
    let r = repeat_taken journal asked n is e in
    (λ s. tt, λ t. reply_there journal n r.0 r.1)
told_by journal asked Ready is e = (λ s. absurd (cc), λ t. absurd t)
told_by journal asked (Settled n) is e = (λ s. absurd (cc), λ t. absurd t)
told_by journal asked (Ahead n) is e = (λ s. absurd (cc), λ t. absurd t)
told_by journal asked (Waiting lane k) is e = (λ s. absurd (cc), λ t. absurd t)
told_by journal asked (Old lane k) is e = (λ s. absurd (cc), λ t. absurd t)
told_by journal asked (NotAwaited k) is e = (λ s. absurd (cc), λ t. absurd t)

pub repeat_told : (journal : List Entry) (asked : Asked) (look : Look) (reply : Option Reply) → IsAsked asked → look ≡ look_to journal asked → reply ≡ repeated_reply journal look → IsSome reply ↔ IsRepeat look
repeat_told journal asked look reply is e r = rw r (told_by journal asked look is (sym e))
