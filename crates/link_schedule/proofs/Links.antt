-- The packets on the links are found in the parts of a world.
use Rattle.std.proofs.Common.{◌≡◌, ℕ, zero, suc, ◌-◌, ◌≤◌, ◌<◌, ⊎_elim, Bool, true, false, cond, List, [], ◌∷◌, length, take, Option, Some, None, refl, sym, ap, ◌∙◌, arith}
use Rattle.std.specs.Prelude.{nat_le, slice_get}
use Rattle.std.proofs.lemmas.Bool.{cases_lt}
use Rattle.std.proofs.lemmas.List.{take-take}
use Rattle.std.proofs.lemmas.Option.{slice_get-get_or}
use Rattle.agent_order.specs.Order.{message_at}
use Rattle.device_types.specs.declared.effect.Effect.{Effect}
use Rattle.device_types.specs.declared.event.Lane.{Lane}
use Rattle.device_types.specs.declared.event.Lane.TheVariants.{Down, Gateway, Subscriber}
use Rattle.device_types.specs.Journal.{effects_of, pushed_count, taken_count, reply_of}
use Rattle.device_types.specs.Numbers.{IsWithin}
use Rattle.device_types.specs.PeerAnswer.{answer_of}
use Rattle.device_types.proofs.Journals.{get_before}
use Rattle.effect_outbox.specs.Outbox.{number_on, unsettled_at}
use Rattle.session_row.specs.Row.{RowState}
use Rattle.schedule_laws.specs.Answer.{Lawful}
use Rattle.schedule_laws.specs.Counts.{Turn, accepted, settled, message_sent, reply_sent, effect_pushed, effect_received, journal, commits}
use Rattle.schedule_laws.specs.Input.{no_message, message_of}
use Rattle.schedule_laws.specs.Lists.{Begins, has}
use Rattle.schedule_laws.specs.Setting.{Setting, row_of, messages_of, entries_of}
use Rattle.link_schedule.specs.World.{marks_on, Parts, settled_numbers, row_after, accepted_effects, IsWindowOf, ArePartsOf, row_in, window_in, sent_in, pushed_in, accepted_in, message_found, reply_found, effect_at, effect_found, answer_found, AreLinksOf}
use Rattle.schedule_laws.specs.Packets.{if_so, message_packet, reply_packet, effect_packet, answer_packet}
use Rattle.link_schedule.proofs.Lanes.{accepted_length, settled_is}
use Rattle.schedule_laws.proofs.Laws.{sent_bound, pushed_bound, received_is, reply_is, settled_bound}
use Rattle.schedule_laws.proofs.Promises.{reply_alone}
use Rattle.schedule_laws.proofs.Runs.{effects_begin, to_alone}
use Rattle.schedule_laws.proofs.Comparisons.{le_true, le_false, lt_true, le_of}

-- ---- lists

get_taken : {X : Type 0} (xs : List X) (n i : ℕ) → i < n → slice_get (take n xs) i ≡ slice_get xs i
get_taken xs zero i h = absurd (omega arith)
get_taken [] (suc n) i h = refl
get_taken (x ∷ xs) (suc n) zero h = refl
get_taken (x ∷ xs) (suc n) (suc i) h = get_taken xs n i (omega arith)

get_begun : {X : Type 0} (xs ys : List X) (i : ℕ) → Begins xs ys → i < length xs → slice_get xs i ≡ slice_get ys i
get_begun xs ys i b h = sym (get_before xs b.0 i h) ∙ ap (λ zs. slice_get zs i) b.1

-- ---- the parts of a device

window_is : (s : Setting) (H : List Turn) (p : Parts) (d : ℕ) → IsWithin (length s.rows) d → ArePartsOf s H p → IsWindowOf s H d (window_in p d)
window_is s H p d within m = m.windows.at d (record { line = record { messages = []; acked = 0 }; sent = 0; downs = [] }) within

row_is : (s : Setting) (H : List Turn) (p : Parts) (d : ℕ) → IsWithin (length s.rows) d → ArePartsOf s H p → row_in p d ≡ row_after s H d
row_is s H p d within m = m.rows.at d (record { journal = []; settled = record { down = 0; gateway = 0; subscriber = 0 } }) within

pub accepted_is : (s : Setting) (H : List Turn) (p : Parts) (l : Lane) (d : ℕ) → IsWithin (length s.rows) d → ArePartsOf s H p → accepted_in p l d ≡ accepted_effects s l H d
accepted_is s H p Down d within m = (window_is s H p d within m).downs
accepted_is s H p Gateway d within m = m.gateway.at d [] within
accepted_is s H p Subscriber d within m = m.subscriber.at d [] within

-- ---- messages

so_both : {X : Type 0} (b : Bool) (x y : Option X) → (b ≡ true → x ≡ y) → if_so b x ≡ if_so b y
so_both true x y h = h refl
so_both false x y h = refl

messages_found : (s : Setting) (H : List Turn) (p : Parts) (d n : ℕ) → Lawful s H → ArePartsOf s H p → IsWithin (length s.rows) d → 1 ≤ n → message_found p d n ≡ message_packet s H d n
messages_found s H p d n L m within low =
    let marked : has n (sent_in p d) ≡ message_sent d n H = m.sent.at d [] within n low in
    let line = (window_is s H p d within m).line in
    ap (λ b. if_so b (message_at (window_in p d).line.messages n)) marked
    ∙ so_both (message_sent d n H) (message_at (window_in p d).line.messages n) (Some (message_of s d n))
    (λ sent.
    let b = sent_bound s d n H L sent in
    ap (λ l. message_at l.messages n) line
    ∙ ap (λ c. cond c (slice_get (messages_of s d) (n - 1)) None) (lt_true 0 n low)
    ∙ slice_get-get_or (messages_of s d) (n - 1) no_message (let c = b.2 in omega arith))

-- ---- replies

replies_found : (s : Setting) (H : List Turn) (p : Parts) (d n : ℕ) → Lawful s H → ArePartsOf s H p → IsWithin (length s.rows) d → 1 ≤ n → reply_found p d n ≡ reply_packet s H d n
replies_found s H p d n L m within low =
    let J = journal s d H in
    ap (λ (row : RowState). if_so (nat_le n (taken_count row.journal)) (reply_of row.journal n)) (row_is s H p d within m)
    ∙ ap (λ b. if_so b (reply_of J n)) (sym (reply_is s d n H L low))
    ∙ so_both (reply_sent d n H) (reply_of J n) (reply_of (entries_of s d) n)
    (λ sent. reply_alone s d n H low (le_of n (taken_count J) (sym (reply_is s d n H L low) ∙ sent)))

-- ---- effects

pushed_is : (s : Setting) (H : List Turn) (p : Parts) (d : ℕ) (l : Lane) (k : ℕ) → ArePartsOf s H p → IsWithin (length s.rows) d → 1 ≤ k → has k (marks_on (pushed_in p d) l) ≡ effect_pushed d l k H
pushed_is s H p d l k m within low = m.pushed.at d (record { down = []; gateway = []; subscriber = [] }) within l k low

-- one that was not accepted is not settled
pub in_row : (s : Setting) (H : List Turn) (d : ℕ) (l : Lane) (k : ℕ) → Lawful s H → k ≤ pushed_count l (journal s d H) → accepted d l H < k → unsettled_at (effects_of l (journal s d H)) (number_on (settled_numbers d H) l) k ≡ slice_get (effects_of l (entries_of s d)) (k - 1)
in_row s H d l k L made more =
    let A = effects_of l (entries_of s d) in
    let J = effects_of l (journal s d H) in
    let begins = effects_begin l (journal s d H) (entries_of s d) (to_alone (row_of s d) (messages_of s d) (commits d H)) in
    let after = settled_bound s d l H L in
    ap (λ n. unsettled_at J n k) (settled_is d l H)
    ∙ ap (λ b. cond b (slice_get J (k - 1)) None) (lt_true (settled d l H) k (omega arith))
    ∙ get_begun J A (k - 1) begins (omega arith)

-- one that was accepted is with its receiver
pub with_receiver : (s : Setting) (H : List Turn) (d : ℕ) (l : Lane) (k : ℕ) → 1 ≤ k → k ≤ accepted d l H → slice_get (accepted_effects s l H d) (k - 1) ≡ slice_get (effects_of l (entries_of s d)) (k - 1)
with_receiver s H d l k low less = get_taken (effects_of l (entries_of s d)) (accepted d l H) (k - 1) (omega arith)

pub effect_content : (s : Setting) (H : List Turn) (d : ℕ) (l : Lane) (k : ℕ) → Lawful s H → 1 ≤ k → k ≤ pushed_count l (journal s d H) → cond (nat_le k (length (accepted_effects s l H d))) (slice_get (accepted_effects s l H d) (k - 1)) (unsettled_at (effects_of l (journal s d H)) (number_on (settled_numbers d H) l) k) ≡ slice_get (effects_of l (entries_of s d)) (k - 1)
effect_content s H d l k L low made =
    let there = slice_get (accepted_effects s l H d) (k - 1) in
    let left = unsettled_at (effects_of l (journal s d H)) (number_on (settled_numbers d H) l) k in
    let long = accepted_length s H d l L in
    ⊎_elim
    (λ (more : accepted d l H < k). ap (λ b. cond b there left) (le_false k (length (accepted_effects s l H d)) (omega arith)) ∙ in_row s H d l k L made more)
    (λ (less : k ≤ accepted d l H). ap (λ b. cond b there left) (le_true k (length (accepted_effects s l H d)) (omega arith)) ∙ with_receiver s H d l k low less)
    (cases_lt (accepted d l H) k)

effects_found : (s : Setting) (H : List Turn) (p : Parts) (d : ℕ) (l : Lane) (k : ℕ) → Lawful s H → ArePartsOf s H p → IsWithin (length s.rows) d → 1 ≤ k → effect_found p d l k ≡ effect_packet s H d l k
effects_found s H p d l k L m within low =
    ap (λ b. if_so b (effect_at (row_in p d) (accepted_in p l d) l k)) (pushed_is s H p d l k m within low)
    ∙ ap (λ (row : RowState). if_so (effect_pushed d l k H) (effect_at row (accepted_in p l d) l k)) (row_is s H p d within m)
    ∙ ap (λ (accepts : List Effect). if_so (effect_pushed d l k H) (effect_at (row_after s H d) accepts l k)) (accepted_is s H p l d within m)
    ∙ so_both (effect_pushed d l k H) (effect_at (row_after s H d) (accepted_effects s l H d) l k) (slice_get (effects_of l (entries_of s d)) (k - 1))
    (λ on. effect_content s H d l k L low (pushed_bound s d l k H L on).2)

-- ---- answers

answers_found : (s : Setting) (H : List Turn) (p : Parts) (d : ℕ) (l : Lane) (k : ℕ) → Lawful s H → ArePartsOf s H p → IsWithin (length s.rows) d → 1 ≤ k → answer_found s p d l k ≡ answer_packet s H d l k
answers_found s H p d l k L m within low =
    let A = effects_of l (entries_of s d) in
    let received = received_is s d l k H L low in
    ap (λ (accepts : List Effect). if_so (nat_le k (length accepts)) (Some (answer_of (row_of s d) (take k accepts)))) (accepted_is s H p l d within m)
    ∙ ap (λ n. if_so (nat_le k n) (Some (answer_of (row_of s d) (take k (accepted_effects s l H d))))) (accepted_length s H d l L)
    ∙ ap (λ b. if_so b (Some (answer_of (row_of s d) (take k (accepted_effects s l H d))))) (sym received)
    ∙ so_both (effect_received d l k H) (Some (answer_of (row_of s d) (take k (accepted_effects s l H d)))) (Some (answer_of (row_of s d) (take k A)))
    (λ on. ap (λ calls. Some (answer_of (row_of s d) calls)) (take-take k (accepted d l H) A (le_of k (accepted d l H) (sym received ∙ on))))

pub links : (s : Setting) (H : List Turn) (p : Parts) → Lawful s H → ArePartsOf s H p → AreLinksOf s H p
links s H p L m =
    record {
      messages = λ d n within low. messages_found s H p d n L m within low;
      replies = λ d n within low. replies_found s H p d n L m within low;
      effects = λ d l k within low. effects_found s H p d l k L m within low;
      answers = λ d l k within low. answers_found s H p d l k L m within low;
    }
