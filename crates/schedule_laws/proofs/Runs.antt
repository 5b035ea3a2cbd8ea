-- The machine that never fails, entry by entry: its first entries begin all of them.
use Rattle.std.proofs.Common.{◌≡◌, ℕ, zero, suc, ◌≤◌, ◌<◌, ◌+◌, ◌*◌, ◌-◌, ⊎_elim, List, [], ◌∷◌, ◌++◌, length, take, get_or, Some, None, refl, sym, ap, ◌∙◌, arith, rules, append_assoc, append-nil, length-append}
use Rattle.std.specs.Prelude.{option_map}
use Rattle.std.proofs.lemmas.Bool.{cases_lt}
use Rattle.std.proofs.lemmas.Grind.{common_steps, flat_map-append}
use Rattle.std.proofs.lemmas.List.{take-append-le, get_or_append_left}
use Rattle.device_types.specs.declared.event.Lane.{Lane}
use Rattle.device_types.specs.declared.input.Input.{Input}
use Rattle.device_types.specs.declared.message.Message.{Message}
use Rattle.device_types.specs.declared.step.Entry.{Entry}
use Rattle.device_types.specs.declared.subscriber.Subscriber.{Subscriber}
use Rattle.device_types.specs.Alone.{next_input, entry_of, next_entry, with_next, alone_to, alone_of}
use Rattle.device_types.specs.Journal.{effects_on, effects_of, taken_count}
use Rattle.device_types.proofs.Alone.{alone_ends, stays_so}
use Rattle.schedule_laws.specs.Lists.{Begins}

-- ---- lists that begin others

pub Begins-refl : {X : Type 0} (xs : List X) → Begins xs xs
Begins-refl xs = ([], append-nil xs)

pub Begins-trans : {X : Type 0} (xs ys zs : List X) → Begins xs ys → Begins ys zs → Begins xs zs
Begins-trans xs ys zs a b = (a.0 ++ b.0, sym (append_assoc xs a.0 b.0) ∙ ap (λ l. l ++ b.0) a.1 ∙ b.1)

pub Begins-length : {X : Type 0} (xs ys : List X) → Begins xs ys → length xs ≤ length ys
Begins-length xs ys b = let e = ap length b.1 in let f = length-append xs b.0 in omega arith

pub Begins-take : {X : Type 0} (xs ys : List X) (k : ℕ) → Begins xs ys → k ≤ length xs → take k ys ≡ take k xs
Begins-take xs ys k b h = ap (take k) (sym b.1) ∙ take-append-le k xs b.0 h

pub Begins-or : {X : Type 0} (xs ys : List X) (k : ℕ) (x : X) → Begins xs ys → k < length xs → get_or ys k x ≡ get_or xs k x
Begins-or xs ys k x b h = ap (λ l. get_or l k x) (sym b.1) ∙ get_or_append_left xs b.0 x k h

-- ---- what begins a journal

pub effects_begin : (l : Lane) (J K : List Entry) → Begins J K → Begins (effects_of l J) (effects_of l K)
effects_begin l J K b = (effects_of l b.0, sym (flat_map-append (λ (e : Entry). effects_on l e.step.effects) J b.0) ∙ ap (effects_of l) b.1)

pub taken_begins : (J K : List Entry) → Begins J K → taken_count J ≤ taken_count K
taken_begins J K b = let e = ap taken_count b.1 in let f : taken_count (J ++ b.0) ≡ taken_count J + taken_count b.0 = search (rules, common_steps) in omega arith

-- ---- the machine

pub to_next : (row : Subscriber) (ms : List Message) (v : ℕ) → Begins (alone_to row ms v) (alone_to row ms (suc v))
to_next row ms v = elim (next_entry row ms (alone_to row ms v)) as (λ o. Begins (alone_to row ms v) (with_next (alone_to row ms v) o)) [ None ↦ ([], append-nil _) | Some e ↦ (e ∷ [], refl) ]

pub to_later : (row : Subscriber) (ms : List Message) (v w : ℕ) → v ≤ w → Begins (alone_to row ms v) (alone_to row ms w)
to_later row ms v zero h = let e : v ≡ 0 = omega arith in rw e (Begins-refl [])
to_later row ms v (suc w) h =
    ⊎_elim
    (λ (lt : w < v). let e : v ≡ suc w = omega arith in rw e (Begins-refl (alone_to row ms (suc w))))
    (λ (le : v ≤ w). Begins-trans (alone_to row ms v) (alone_to row ms w) (alone_to row ms (suc w)) (to_later row ms v w le) (to_next row ms w))
    (cases_lt w v)

-- all entries begin with the first v
pub to_alone : (row : Subscriber) (ms : List Message) (v : ℕ) → Begins (alone_to row ms v) (alone_of row ms)
unfolding alone_of
to_alone row ms v =
    let n = 3 * length ms in
    ⊎_elim
    (λ (lt : n < v). let e : v ≡ n + (v - n) = omega arith in rw (e, stays_so row ms n (v - n) (alone_ends row ms)) (Begins-refl (alone_to row ms n)))
    (λ (le : v ≤ n). to_later row ms v n le)
    (cases_lt n v)

-- where an input comes next, its entry does
pub to_push : (row : Subscriber) (ms : List Message) (v : ℕ) (input : Input) → next_input row ms (alone_to row ms v) ≡ Some input → alone_to row ms (suc v) ≡ alone_to row ms v ++ entry_of row (alone_to row ms v) input ∷ []
to_push row ms v input h = ap (λ o. with_next (alone_to row ms v) (option_map (entry_of row (alone_to row ms v)) o)) h
