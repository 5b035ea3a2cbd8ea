-- What one more entry makes of a journal.
use Rattle.std.proofs.Common.{◌≡◌, ℕ, zero, suc, ◌+◌, ◌-◌, ◌<◌, ◌≤◌, Bool, true, false, cond, List, [], ◌∷◌, ◌++◌, length, take, Some, refl, sym, ap, ◌∙◌, arith, rules, add-zero, append-nil, length-append}
use Rattle.std.specs.Prelude.{filter, map, slice_get, option_and_then}
use Rattle.std.specs.Option.{option_map_or}
use Rattle.std.specs.List.{enumerate_from}
use Rattle.std.proofs.Math.Seq.{take-append_seam}
use Rattle.std.proofs.lemmas.Grind.{common_steps, flat_map-append}
use Rattle.std.proofs.lemmas.List.{map-append, length-map}
use Rattle.std.proofs.lemmas.List.Sums.{sum_by-cons}
use Rattle.std.proofs.lemmas.List.Elements.{filter-append}
use Rattle.std.proofs.lemmas.List.FromFn.{length-enumerate_from}
use Rattle.device_types.specs.declared.event.Lane.{Lane}
use Rattle.device_types.specs.declared.step.Entry.{Entry}
use Rattle.device_types.specs.declared.step.Reply.{Reply}
use Rattle.device_types.specs.Session.{opening}
use Rattle.device_types.specs.Journal.{version_of, last_of, session_of, effects_on, effects_of, pushed_count, is_message, taken_count, message_entries, reply_to, reply_at, replies_of, reply_of, awaited_behind, awaited_call}
use Rattle.device_types.specs.Look.{look_behind, look_of, answer_look_behind, answer_look_of}

-- ---- lists with one more item

length_more : {X : Type 0} (xs : List X) (x : X) → length (xs ++ x ∷ []) ≡ length xs + 1
length_more xs x = length-append xs (x ∷ [])

pub last_more : {X : Type 0} (xs : List X) (x : X) → slice_get (xs ++ x ∷ []) (length xs) ≡ Some x
last_more [] x = refl
last_more (y ∷ ys) x = last_more ys x

pub get_before : {X : Type 0} (xs ys : List X) (i : ℕ) → i < length xs → slice_get (xs ++ ys) i ≡ slice_get xs i
get_before [] ys i h = absurd (omega arith)
get_before (x ∷ xs) ys zero h = refl
get_before (x ∷ xs) ys (suc i) h = get_before xs ys i (omega arith)

at_start : {X : Type 0} (n : ℕ) (ys : List X) → enumerate_from n ys ≡ enumerate_from (n + 0) ys
at_start n ys = rw add-zero refl

enumerate_from-append : {X : Type 0} (n : ℕ) (xs ys : List X) → enumerate_from n (xs ++ ys) ≡ enumerate_from n xs ++ enumerate_from (n + length xs) ys
enumerate_from-append n [] ys = at_start n ys
enumerate_from-append n (x ∷ xs) ys =
    ap (λ es. (n, x) ∷ es) (enumerate_from-append (n + 1) xs ys ∙ ap (λ m. enumerate_from (n + 1) xs ++ enumerate_from m ys) (omega arith))

-- ---- version and session

pub version_more : (journal : List Entry) (entry : Entry) → version_of (journal ++ entry ∷ []) ≡ version_of journal + 1
version_more journal entry = length_more journal entry

pub last_of_more : (journal : List Entry) (entry : Entry) → last_of (journal ++ entry ∷ []) ≡ Some entry
last_of_more journal entry =
    let e : length (journal ++ entry ∷ []) - 1 ≡ length journal = omega (arith, length_more journal entry) in
    ap (λ i. slice_get (journal ++ entry ∷ []) i) e ∙ last_more journal entry

pub session_more : (journal : List Entry) (entry : Entry) → session_of (journal ++ entry ∷ []) ≡ entry.step.session
session_more journal entry = ap (λ o. option_map_or (λ (e : Entry). e.step.session) o opening) (last_of_more journal entry)

-- ---- lanes

pub effects_more : (lane : Lane) (journal : List Entry) (entry : Entry) → effects_of lane (journal ++ entry ∷ []) ≡ effects_of lane journal ++ effects_on lane entry.step.effects
effects_more lane journal entry =
    flat_map-append (λ (e : Entry). effects_on lane e.step.effects) journal (entry ∷ []) ∙ ap (λ es. effects_of lane journal ++ es) (append-nil (effects_on lane entry.step.effects))

pub pushed_more : (lane : Lane) (journal : List Entry) (entry : Entry) → pushed_count lane (journal ++ entry ∷ []) ≡ pushed_count lane journal + length (effects_on lane entry.step.effects)
pushed_more lane journal entry = ap length (effects_more lane journal entry) ∙ length-append (effects_of lane journal) (effects_on lane entry.step.effects)

-- ---- messages and replies

pub taken_more : (journal : List Entry) (entry : Entry) → taken_count (journal ++ entry ∷ []) ≡ taken_count journal + cond (is_message entry.input) 1 0
taken_more journal entry = search (rules, common_steps)

entries_more : (journal : List Entry) (entry : Entry) → message_entries (journal ++ entry ∷ []) ≡ message_entries journal ++ cond (is_message entry.input) ((1 + length journal, entry) ∷ []) []
entries_more journal entry =
    ap (filter (λ e. is_message e.1.input)) (enumerate_from-append 1 journal (entry ∷ []))
    ∙ filter-append (λ e. is_message e.1.input) (enumerate_from 1 journal) ((1 + length journal, entry) ∷ [])

one_more_if : {X : Type 0} (b : Bool) (x : X) (xs : List X) (count : ℕ) → length xs ≡ count → length (cond b (x ∷ xs) xs) ≡ cond b 1 0 + count
one_more_if true x xs count h = omega arith
one_more_if false x xs count h = omega arith

counted : (n : ℕ) (journal : List Entry) → length (filter (λ e. is_message e.1.input) (enumerate_from n journal)) ≡ taken_count journal
counted n [] = refl
counted n (e ∷ es) =
    one_more_if (is_message e.input) (n, e) (filter (λ x. is_message x.1.input) (enumerate_from (n + 1) es)) (taken_count es) (counted (n + 1) es)
    ∙ sym (sum_by-cons (λ (x : Entry). cond (is_message x.input) 1 0) e es)

-- as many replies as messages were taken
pub length-replies : (journal : List Entry) → length (replies_of journal) ≡ taken_count journal
length-replies journal =
    length-map (enumerate_from 1 (message_entries journal)) reply_at
    ∙ length-enumerate_from 1 (message_entries journal)
    ∙ counted 1 journal

-- the replies to one more entry, if it is of a message
abbrev pub reply_for : Bool → ℕ → ℕ → Entry → List Reply
reply_for true n position entry = reply_to n position entry ∷ []
reply_for false n position entry = []

abbrev one_if : {X : Type 0} → Bool → X → List X
one_if b x = cond b (x ∷ []) []

reply_if : (b : Bool) (n position : ℕ) (entry : Entry) → map reply_at (enumerate_from n (one_if b (position, entry))) ≡ reply_for b n position entry
reply_if true n position entry = refl
reply_if false n position entry = refl

pub replies_more : (journal : List Entry) (entry : Entry) → replies_of (journal ++ entry ∷ []) ≡ replies_of journal ++ reply_for (is_message entry.input) (taken_count journal + 1) (length journal + 1) entry
replies_more journal entry =
    let n : 1 + length (message_entries journal) ≡ taken_count journal + 1 = omega (arith, counted 1 journal) in
    let p : 1 + length journal ≡ length journal + 1 = omega arith in
    ap (λ es. map reply_at (enumerate_from 1 es)) (entries_more journal entry)
    ∙ ap (map reply_at) (enumerate_from-append 1 (message_entries journal) (cond (is_message entry.input) ((1 + length journal, entry) ∷ []) []))
    ∙ map-append reply_at (enumerate_from 1 (message_entries journal)) (enumerate_from (1 + length (message_entries journal)) (cond (is_message entry.input) ((1 + length journal, entry) ∷ []) []))
    ∙ ap (λ rs. replies_of journal ++ rs) (reply_if (is_message entry.input) (1 + length (message_entries journal)) (1 + length journal) entry)
    ∙ ap (λ m. replies_of journal ++ reply_for (is_message entry.input) m (1 + length journal) entry) n
    ∙ ap (λ m. replies_of journal ++ reply_for (is_message entry.input) (taken_count journal + 1) m entry) p

-- the replies to the messages before stay
pub reply_stays : (journal : List Entry) (entry : Entry) (n : ℕ) → 1 ≤ n → n ≤ taken_count journal → reply_of (journal ++ entry ∷ []) n ≡ reply_of journal n
reply_stays journal entry n low high =
    ap (λ rs. slice_get rs (n - 1)) (replies_more journal entry)
    ∙ get_before (replies_of journal) (reply_for (is_message entry.input) (taken_count journal + 1) (length journal + 1) entry) (n - 1) (omega (arith, length-replies journal))

-- the reply to the message of the entry
pub reply_more : (journal : List Entry) (entry : Entry) → is_message entry.input ≡ true → reply_of (journal ++ entry ∷ []) (taken_count journal + 1) ≡ Some (reply_to (taken_count journal + 1) (length journal + 1) entry)
reply_more journal entry message =
    let i : taken_count journal + 1 - 1 ≡ length (replies_of journal) = omega (arith, length-replies journal) in
    let added = ap (λ b. replies_of journal ++ reply_for b (taken_count journal + 1) (length journal + 1) entry) message in
    ap (λ rs. slice_get rs (taken_count journal + 1 - 1)) (replies_more journal entry ∙ added)
    ∙ ap (λ j. slice_get (replies_of journal ++ reply_to (taken_count journal + 1) (length journal + 1) entry ∷ []) j) i
    ∙ last_more (replies_of journal) (reply_to (taken_count journal + 1) (length journal + 1) entry)

-- ---- the call whose answer is awaited

pub awaited_more : (journal : List Entry) (entry : Entry) → awaited_call (journal ++ entry ∷ []) ≡ awaited_behind journal entry.step.effects
awaited_more journal entry =
    let n : length (journal ++ entry ∷ []) - 1 ≡ length journal = omega (arith, length_more journal entry) in
    let before = ap (λ i. take i (journal ++ entry ∷ [])) n ∙ take-append_seam journal (entry ∷ []) in
    ap (λ js. option_and_then (λ (e : Entry). awaited_behind js e.step.effects) (last_of (journal ++ entry ∷ []))) before
    ∙ ap (λ o. option_and_then (λ (e : Entry). awaited_behind journal e.step.effects) o) (last_of_more journal entry)

-- ---- looks

pub look_more : (window : ℕ) (journal : List Entry) (entry : Entry) (n : ℕ) → look_of window (journal ++ entry ∷ []) n ≡ look_behind window (taken_count journal + cond (is_message entry.input) 1 0) (awaited_behind journal entry.step.effects) n
look_more window journal entry n =
    ap (λ m. look_behind window m (awaited_call (journal ++ entry ∷ [])) n) (taken_more journal entry)
    ∙ ap (λ o. look_behind window (taken_count journal + cond (is_message entry.input) 1 0) o n) (awaited_more journal entry)

pub answer_look_more : (journal : List Entry) (entry : Entry) (lane : Lane) (k : ℕ) → answer_look_of (journal ++ entry ∷ []) lane k ≡ answer_look_behind (pushed_count lane journal + length (effects_on lane entry.step.effects)) (awaited_behind journal entry.step.effects) lane k
answer_look_more journal entry lane k =
    ap (λ m. answer_look_behind m (awaited_call (journal ++ entry ∷ [])) lane k) (pushed_more lane journal entry)
    ∙ ap (λ o. answer_look_behind (pushed_count lane journal + length (effects_on lane entry.step.effects)) o lane k) (awaited_more journal entry)

pub ruleset one_more = (version_more, session_more, effects_more, pushed_more, taken_more, replies_more, reply_stays, reply_more, awaited_more, look_more, answer_look_more)
