-- The first entries of Alone are those that come before: so Alone is the only list of entries of which each comes next.
use Rattle.std.proofs.Common.{◌≡◌, ℕ, zero, suc, ◌≤◌, ◌<◌, ◌+◌, ◌*◌, ◌-◌, ⊎_elim, List, [], ◌∷◌, ◌++◌, length, take, get_or, Option, Some, None, lit≤, refl, sym, ap, ◌∙◌, arith, length-append}
use Rattle.std.specs.Prelude.{option_map, slice_get}
use Rattle.std.proofs.Math.Seq.{take-suc}
use Rattle.std.proofs.lemmas.Bool.{cases_lt}
use Rattle.std.proofs.lemmas.List.{take-append-le, take_all}
use Rattle.std.proofs.lemmas.Option.{slice_get_past, slice_get_cases}
use Rattle.device_types.specs.declared.input.Input.{Input}
use Rattle.device_types.specs.declared.message.Message.{Message}
use Rattle.device_types.specs.declared.step.Entry.{Entry}
use Rattle.device_types.specs.declared.subscriber.Subscriber.{Subscriber}
use Rattle.device_types.specs.Alone.{next_input, entry_of, next_entry, with_next, alone_to, alone_of, IsAlone}
use Rattle.device_types.proofs.Alone.{alone_ends, stays_so}
use Rattle.device_types.proofs.Journals.{last_more, get_before}

-- ---- how many entries

grows : (row : Subscriber) (ms : List Message) (J : List Entry) (input : Input) → length (J ++ entry_of row J input ∷ []) ≡ length J + 1
grows row ms J input = length-append J (entry_of row J input ∷ [])

short_with : (row : Subscriber) (ms : List Message) (v : ℕ) (J : List Entry) (o : Option Input) → length J ≤ v → length (with_next J (option_map (entry_of row J) o)) ≤ suc v
short_with row ms v J None h = omega arith
short_with row ms v J (Some input) h = let n = grows row ms J input in omega arith

pub short : (row : Subscriber) (ms : List Message) (v : ℕ) → length (alone_to row ms v) ≤ v
short row ms zero = lit≤ tt
short row ms (suc v) = short_with row ms v (alone_to row ms v) (next_input row ms (alone_to row ms v)) (short row ms v)

full_with : (row : Subscriber) (ms : List Message) (v : ℕ) (J : List Entry) (o : Option Input) → next_input row ms J ≡ o → ((i : Input) → next_input row ms J ≡ Some i → length J ≡ v) → (input : Input) → next_input row ms (with_next J (option_map (entry_of row J) o)) ≡ Some input → length (with_next J (option_map (entry_of row J) o)) ≡ suc v
full_with row ms v J None n k input more = absurd (cc)
full_with row ms v J (Some i) n k input more = let all = k i n in let one = grows row ms J i in omega arith

-- where an entry comes next, so many were made
pub full : (row : Subscriber) (ms : List Message) (v : ℕ) (input : Input) → next_input row ms (alone_to row ms v) ≡ Some input → length (alone_to row ms v) ≡ v
full row ms zero input n = refl
full row ms (suc v) input n = full_with row ms v (alone_to row ms v) (next_input row ms (alone_to row ms v)) refl (full row ms v) input n

-- ---- prefixes

added : (row : Subscriber) (ms : List Message) (n : ℕ) (input : Input) → next_input row ms (alone_to row ms n) ≡ Some input → alone_to row ms (suc n) ≡ alone_to row ms n ++ entry_of row (alone_to row ms n) input ∷ []
added row ms n input h = ap (λ o. with_next (alone_to row ms n) (option_map (entry_of row (alone_to row ms n)) o)) h

prefix_with : (row : Subscriber) (ms : List Message) (n v : ℕ) (o : Option Input) → next_input row ms (alone_to row ms n) ≡ o → (v ≤ length (alone_to row ms n) → take v (alone_to row ms n) ≡ alone_to row ms v) → v ≤ length (with_next (alone_to row ms n) (option_map (entry_of row (alone_to row ms n)) o)) → take v (with_next (alone_to row ms n) (option_map (entry_of row (alone_to row ms n)) o)) ≡ alone_to row ms v
prefix_with row ms n v None h k low = k low
prefix_with row ms n v (Some input) h k low =
    let J = alone_to row ms n in
    let e = entry_of row J input in
    let one = grows row ms J input in
    let all = full row ms n input h in
    ⊎_elim
    (λ (past : length J < v).
    let last : v ≡ suc n = omega arith in
    take_all v (J ++ e ∷ []) (omega arith) ∙ sym (added row ms n input h) ∙ ap (alone_to row ms) (sym last))
    (λ (within : v ≤ length J). take-append-le v J (e ∷ []) within ∙ k within)
    (cases_lt (length J) v)

pub prefix_to : (row : Subscriber) (ms : List Message) (n v : ℕ) → v ≤ length (alone_to row ms n) → take v (alone_to row ms n) ≡ alone_to row ms v
prefix_to row ms zero v low = let none : v ≡ 0 = omega arith in rw none refl
prefix_to row ms (suc n) v low = prefix_with row ms n v (next_input row ms (alone_to row ms n)) refl (prefix_to row ms n v) low

pub prefix : (row : Subscriber) (ms : List Message) (v : ℕ) → v ≤ length (alone_of row ms) → take v (alone_of row ms) ≡ alone_to row ms v
unfolding alone_of
prefix row ms v low = prefix_to row ms (3 * length ms) v low

-- ---- the entry that comes next

entry_with : (row : Subscriber) (ms : List Message) (n v : ℕ) (o : Option Input) → next_input row ms (alone_to row ms n) ≡ o → (v < length (alone_to row ms n) → next_entry row ms (alone_to row ms v) ≡ slice_get (alone_to row ms n) v) → v < length (with_next (alone_to row ms n) (option_map (entry_of row (alone_to row ms n)) o)) → next_entry row ms (alone_to row ms v) ≡ slice_get (with_next (alone_to row ms n) (option_map (entry_of row (alone_to row ms n)) o)) v
entry_with row ms n v None h k low = k low
entry_with row ms n v (Some input) h k low =
    let J = alone_to row ms n in
    let e = entry_of row J input in
    let one = grows row ms J input in
    let all = full row ms n input h in
    ⊎_elim
    (λ (within : v < length J). k within ∙ sym (get_before J (e ∷ []) v within))
    (λ (past : length J ≤ v).
    let last : v ≡ n = omega arith in
    let place : length J ≡ v = omega arith in
    ap (λ m. next_entry row ms (alone_to row ms m)) last ∙ ap (option_map (entry_of row J)) h ∙ sym (last_more J e) ∙ ap (slice_get (J ++ e ∷ [])) place)
    (cases_lt v (length J))

entry_to : (row : Subscriber) (ms : List Message) (n v : ℕ) → v < length (alone_to row ms n) → next_entry row ms (alone_to row ms v) ≡ slice_get (alone_to row ms n) v
entry_to row ms zero v low = absurd (omega arith)
entry_to row ms (suc n) v low = entry_with row ms n v (next_input row ms (alone_to row ms n)) refl (entry_to row ms n v) low

pub entry_at : (row : Subscriber) (ms : List Message) (v : ℕ) → v < length (alone_of row ms) → next_entry row ms (alone_to row ms v) ≡ slice_get (alone_of row ms) v
unfolding alone_of
entry_at row ms v low = entry_to row ms (3 * length ms) v low

pub is_alone : (row : Subscriber) (ms : List Message) → IsAlone row ms (alone_of row ms)
is_alone row ms = λ v low.
    let all = alone_of row ms in
    ⊎_elim
    (λ (within : v < length all). ap (next_entry row ms) (prefix row ms v low) ∙ entry_at row ms v within)
    (λ (past : length all ≤ v).
    ap (next_entry row ms) (take_all v all past) ∙ ap (option_map (entry_of row all)) (alone_ends row ms) ∙ sym (slice_get_past all v past))
    (cases_lt v (length all))

-- ---- the only list of that kind

one_more : (J : List Entry) (v : ℕ) → v < length J → with_next (take v J) (slice_get J v) ≡ take (suc v) J
one_more J v low =
    ⊎_elim
    (λ (c : (e : Entry) × (v < length J) × (slice_get J v ≡ Some e) × (get_or J v e ≡ e)).
    ap (with_next (take v J)) c.2 ∙ sym (take-suc J v c.0 low ∙ ap (λ x. take v J ++ x ∷ []) c.3))
    (λ (c : (length J ≤ v) × (slice_get J v ≡ None)). let past = c.0 in absurd (omega arith))
    (slice_get_cases J v).1

follows : (row : Subscriber) (ms : List Message) (J : List Entry) (v : ℕ) → IsAlone row ms J → v ≤ length J → alone_to row ms v ≡ take v J
follows row ms J zero a low = refl
follows row ms J (suc v) a low =
    let before = follows row ms J v a (omega arith) in
    ap (λ K. with_next K (next_entry row ms K)) before ∙ ap (with_next (take v J)) (a v (omega arith)) ∙ one_more J v (omega arith)

no_input : (row : Subscriber) (J : List Entry) (o : Option Input) → option_map (entry_of row J) o ≡ None → o ≡ None
no_input row J None h = refl
no_input row J (Some input) h = absurd (cc)

pub only_alone : (row : Subscriber) (ms : List Message) (J : List Entry) → IsAlone row ms J → J ≡ alone_of row ms
unfolding alone_of
only_alone row ms J a =
    let n = 3 * length ms in
    let j = length J in
    let whole : alone_to row ms j ≡ J = follows row ms J j a (omega arith) ∙ take_all j J (omega arith) in
    let none : next_entry row ms J ≡ None = ap (next_entry row ms) (sym (take_all j J (omega arith))) ∙ a j (omega arith) ∙ slice_get_past J j (omega arith) in
    let end : next_input row ms J ≡ None = no_input row J (next_input row ms J) none in
    ⊎_elim
    (λ (less : j < n).
    let sum : n ≡ j + (n - j) = omega arith in
    sym (ap (alone_to row ms) sum ∙ stays_so row ms j (n - j) (ap (next_input row ms) whole ∙ end) ∙ whole))
    (λ (more : n ≤ j).
    let sum : j ≡ n + (j - n) = omega arith in
    sym whole ∙ ap (alone_to row ms) sum ∙ stays_so row ms n (j - n) (alone_ends row ms))
    (cases_lt j n)
