-- What one more call makes of the counts, and what the counts say of the answers.
use Rattle.std.proofs.Common.{take_all, ◌≡◌, ℕ, ◌+◌, ◌-◌, ◌≤◌, List, [], ◌∷◌, ◌++◌, length, map, take, get_or, set, replicate, Some, zero, suc, ap, sym, ◌∙◌, refl, subst, inl, inr, arith, rules, length-append}
use Rattle.std.specs.Prelude.{slice_get}
use Rattle.std.specs.Option.{unwrap_or}
use Rattle.std.proofs.Math.ListN.{get_or-map}
use Rattle.std.proofs.Math.Seq.{take-append_seam}
use Rattle.std.proofs.lemmas.Bool.{cases_lt, cases_eq}
use Rattle.std.proofs.lemmas.Grind.{common_steps}
use Rattle.std.proofs.lemmas.List.{map-append, map-set, length-map, length-take, take-map, take-append-le, take_more, get_or-set_other}
use Rattle.std.proofs.lemmas.List.Sums.{count_by-le-length}
use Rattle.std.proofs.lemmas.Option.{slice_get_within, get_or_from_slice_get}
use Rattle.std.proofs.lemmas.Simd.{map-map}
use Rattle.device_types.specs.declared.effect.Effect.TheVariants as effects
use Rattle.device_types.specs.declared.effect.GwCall.{GwCall}
use Rattle.device_types.specs.declared.effect.GwCall.TheVariants as gateway
use Rattle.device_types.specs.declared.input.Answer.{Answer}
use Rattle.device_types.specs.declared.input.Offer.TheVariants as offer
use Rattle.device_types.specs.declared.subscriber.Subscriber.{Subscriber}
use Rattle.device_types.specs.PeerAnswer.{is_create, create_count, gateway_answer, answer_of}
use Rattle.device_types.proofs.Journals.{last_more, get_before}
use Rattle.device_types.proofs.Peers.{creates_append, answer_more}
use Rattle.device_types.specs.Numbers.{IsWithin}
use Rattle.peer_calls.specs.declared.arrival.Arrival.TheVariants.{Next}
use Rattle.peer_calls.specs.Calls.{calls_of, with_call, arrival_of, offer_of, calls_at, after_offer}
use Rattle.peer_calls.proofs.Lists.{more_same}
use Rattle.peer_calls.proofs.Offers.{offer_next, call_found, call_last}
use Rattle.peer_gateway.specs.declared.counted.Counted.{Counted}
use Rattle.peer_gateway.specs.Counted.{call_in, calls_in, effect_in, creates_with, IsCounted, AreCounted}
use Rattle.peer_gateway.specs.Gateway.{gateway_answer_of}

creates_one : (x : Counted) → x.creates + create_count (effect_in x ∷ []) ≡ creates_with x
creates_one x = by_call x.call x.creates
  where
    by_call : (call : GwCall) (n : ℕ) → n + create_count (effects.Gateway call ∷ []) ≡ creates_with (record { call = call; creates = n })
    by_call gateway.Create n = search (rules, common_steps)
    by_call (gateway.Modify addr teid) n = search (rules, common_steps)
    by_call gateway.Release n = search (rules, common_steps)
    by_call gateway.Delete n = search (rules, common_steps)
    by_call gateway.SecondCreate n = search (rules, common_steps)
    by_call (gateway.SecondModify addr teid) n = search (rules, common_steps)

-- the effects of the calls
pub same_effects : (xs : List Counted) → map effects.Gateway (map call_in xs) ≡ map effect_in xs
same_effects xs = map-map effects.Gateway call_in xs

-- how many create, up to call x
pub creates_at : (xs : List Counted) (i : ℕ) (x : Counted) → IsCounted xs → slice_get xs i ≡ Some x → create_count (map effect_in (take (i + 1) xs)) ≡ creates_with x
creates_at xs i x h found =
    let within = slice_get_within xs i x found in
    let more = take_more xs i x within ∙ ap (λ y. take i xs ++ y ∷ []) (get_or_from_slice_get xs i x x found) in
    ap (λ ys. create_count (map effect_in ys)) more
    ∙ ap create_count (map-append effect_in (take i xs) (x ∷ []))
    ∙ creates_append (map effect_in (take i xs)) (effect_in x ∷ [])
    ∙ ap (λ n. n + create_count (effect_in x ∷ [])) (sym (h.at i x found))
    ∙ creates_one x

-- how many create, up to the last one
pub creates_all : (xs : List Counted) (x : Counted) → IsCounted xs → Some x ≡ slice_get xs (length xs - 1) → create_count (map effect_in xs) ≡ creates_with x
creates_all xs x h last =
    let within = slice_get_within xs (length xs - 1) x (sym last) in
    ap (λ ys. create_count (map effect_in ys)) (sym (take_all (length xs - 1 + 1) xs (omega arith)))
    ∙ creates_at xs (length xs - 1) x h (sym last)

-- no more create than there are calls
pub creates_few : (xs : List Counted) (i : ℕ) (x : Counted) → IsCounted xs → slice_get xs i ≡ Some x → x.creates ≤ i
creates_few xs i x h found =
    let within = slice_get_within xs i x found in
    let count = h.at i x found in
    let few = count_by-le-length is_create (map effect_in (take i xs)) in
    let effects = length-map (take i xs) effect_in in
    let calls = length-take i xs in
    omega arith

-- ---- one more call

pub counted_none : IsCounted []
counted_none = record { at = λ i x found. absurd (omega (arith, slice_get_within [] i x found)) }

pub counted_more : (xs : List Counted) (x : Counted) → IsCounted xs → x.creates ≡ create_count (map effect_in xs) → IsCounted (xs ++ x ∷ [])
counted_more xs x h count = record { at = at }
  where
    at : (i : ℕ) (y : Counted) → slice_get (xs ++ x ∷ []) i ≡ Some y → y.creates ≡ create_count (map effect_in (take i (xs ++ x ∷ [])))
    at i y found = elim (cases_lt i (length xs)) [
      | inl low ↦
          h.at i y (sym (get_before xs (x ∷ []) i low) ∙ found)
          ∙ ap (λ ys. create_count (map effect_in ys)) (sym (take-append-le i xs (x ∷ []) (omega arith)))
      | inr high ↦
          let within = slice_get_within (xs ++ x ∷ []) i y found in
          let count_of = length-append xs (x ∷ []) in
          let last : i ≡ length xs = omega arith in
          let same : x ≡ y = ap (λ o. unwrap_or o x) (sym (last_more xs x) ∙ ap (slice_get (xs ++ x ∷ [])) (sym last) ∙ found) in
          ap (λ (z : Counted). z.creates) (sym same) ∙ count
          ∙ ap (λ ys. create_count (map effect_in ys)) (sym (ap (λ n. take n (xs ++ x ∷ [])) last ∙ take-append_seam xs (x ∷ [])))
    ]

-- one more call of device d, behind those that create
pub all_counted : (lists : List (List Counted)) (d : ℕ) (x : Counted) → IsWithin (length lists) d → AreCounted lists → x.creates ≡ create_count (map effect_in (calls_of lists d)) → AreCounted (with_call lists d x)
all_counted lists d x w h count e = elim (cases_eq (e - 1) (d - 1)) [
  | inl same ↦
      subst IsCounted (sym (ap (λ i. get_or (with_call lists d x) i []) same ∙ more_same lists d x w)) (counted_more (calls_of lists d) x (h d) count)
  | inr other ↦ subst IsCounted (sym (get_or-set_other lists (d - 1) (e - 1) (calls_of lists d ++ x ∷ []) [] other)) (h e)
]

none_at : (count i : ℕ) → get_or (replicate {A = List Counted} count []) i [] ≡ []
none_at zero i = refl
none_at (suc count) zero = refl
none_at (suc count) (suc i) = none_at count i

pub none_counted : (devices : ℕ) → AreCounted (replicate devices [])
none_counted devices e = subst IsCounted (sym (none_at devices (e - 1))) counted_none

-- ---- the calls

pub done_within : (lists : List (List Counted)) (calls : List (List GwCall)) (d : ℕ) → calls_in lists ≡ calls → IsWithin (length calls) d → IsWithin (length lists) d
done_within lists calls d view w =
    let count = ap length view in
    let same = length-map lists (map call_in) in
    let low = w.0 in
    let high = w.1 in
    (low, omega arith)

pub calls_in_none : (devices : ℕ) → calls_in (replicate devices []) ≡ replicate devices []
calls_in_none zero = refl
calls_in_none (suc devices) = ap (λ (lists : List (List GwCall)). [] ∷ lists) (calls_in_none devices)

pub calls_in_of : (lists : List (List Counted)) (d : ℕ) → calls_of (calls_in lists) d ≡ map call_in (calls_of lists d)
calls_in_of lists d = get_or-map (map call_in) lists (d - 1) []

pub calls_in_more : (lists : List (List Counted)) (d : ℕ) (x : Counted) → calls_in (with_call lists d x) ≡ with_call (calls_in lists) d (call_in x)
calls_in_more lists d x =
    map-set (map call_in) lists (d - 1) (calls_of lists d ++ x ∷ [])
    ∙ ap (λ calls. set (calls_in lists) (d - 1) calls) (map-append call_in (calls_of lists d) (x ∷ []) ∙ ap (λ calls. calls ++ call_in x ∷ []) (sym (calls_in_of lists d)))

-- ---- the answers

pub calls_counted : (lists : List (List Counted)) (d : ℕ) → length (calls_of (calls_in lists) d) ≡ length (calls_of lists d)
calls_counted lists d = ap length (calls_in_of lists d) ∙ length-map (calls_of lists d) call_in

pub done_counted : (lists : List (List Counted)) (calls : List (List GwCall)) (d : ℕ) → calls_in lists ≡ calls → length (calls_of lists d) ≡ length (calls_of calls d)
done_counted lists calls d view = sym (calls_counted lists d) ∙ ap (λ cs. length (calls_of cs d)) view

-- to the next call
pub answer_next : (row : Subscriber) (xs : List Counted) (call : GwCall) → gateway_answer_of row (map call_in xs ++ call ∷ []) ≡ gateway_answer row (create_count (map effect_in xs)) call
answer_next row xs call =
    ap (answer_of row) (map-append effects.Gateway (map call_in xs) (call ∷ []))
    ∙ answer_more row (map effects.Gateway (map call_in xs)) (effects.Gateway call)
    ∙ ap (λ before. gateway_answer row (create_count before) call) (same_effects xs)

-- to call k again
pub answer_again : (row : Subscriber) (xs : List Counted) (k : ℕ) (x : Counted) → 1 ≤ k → IsCounted xs → slice_get xs (k - 1) ≡ Some x → gateway_answer_of row (take k (map call_in xs)) ≡ gateway_answer row x.creates x.call
answer_again row xs k x low h found =
    ap (gateway_answer_of row) (take-map call_in k xs ∙ ap (map call_in) (call_last xs k x low found) ∙ map-append call_in (take (k - 1) xs) (x ∷ []))
    ∙ answer_next row (take (k - 1) xs) x.call
    ∙ ap (λ n. gateway_answer row n x.call) (sym (h.at (k - 1) x found))

-- what is said to the next call
pub said_next : (row : Subscriber) (lists : List (List Counted)) (calls : List (List GwCall)) (k : ℕ) (call : GwCall) (creates : ℕ) (a : Answer) → calls_in lists ≡ calls → Next ≡ arrival_of (length (calls_of lists row.number)) k → creates ≡ create_count (map effect_in (calls_of lists row.number)) → a ≡ gateway_answer row creates call → offer.Accepted a ≡ offer_of (gateway_answer_of row) (calls_of calls row.number) k call
said_next row lists calls k call creates a view next count is =
    let same = sym (calls_in_of lists row.number) ∙ ap (λ cs. calls_of cs row.number) view in
    offer_next (gateway_answer_of row) (calls_of calls row.number) k call a
    (next ∙ ap (λ n. arrival_of n k) (sym (length-map (calls_of lists row.number) call_in) ∙ ap length same))
    (is ∙ ap (λ n. gateway_answer row n call) count ∙ sym (answer_next row (calls_of lists row.number) call) ∙ ap (λ cs. gateway_answer_of row (cs ++ call ∷ [])) same)

-- call k, as it is kept
pub kept_at : (lists : List (List Counted)) (calls : List (List GwCall)) (found : List Counted) (d k : ℕ) (none : Counted) → calls_in lists ≡ calls → found ≡ calls_of lists d → 1 ≤ k → k ≤ length (calls_of calls d) → slice_get (calls_of lists d) (k - 1) ≡ Some (get_or found (k - 1) none)
kept_at lists calls found d k none view is low high =
    let count = done_counted lists calls d view in
    call_found (calls_of lists d) found k none is low (omega arith)

-- the answer to call k again
pub said_again : (row : Subscriber) (lists : List (List Counted)) (calls : List (List GwCall)) (k : ℕ) (x : Counted) → calls_in lists ≡ calls → 1 ≤ k → IsCounted (calls_of lists row.number) → slice_get (calls_of lists row.number) (k - 1) ≡ Some x → gateway_answer row x.creates x.call ≡ gateway_answer_of row (take k (calls_of calls row.number))
said_again row lists calls k x view low h found =
    sym (answer_again row (calls_of lists row.number) k x low h found)
    ∙ ap (λ cs. gateway_answer_of row (take k cs)) (sym (calls_in_of lists row.number) ∙ ap (λ cs. calls_of cs row.number) view)

-- the calls behind the next one
pub calls_next : (was now : List (List Counted)) (calls : List (List GwCall)) (d k : ℕ) (x : Counted) → calls_in was ≡ calls → now ≡ with_call was d x → Next ≡ arrival_of (length (calls_of was d)) k → calls_in now ≡ after_offer calls d k (call_in x)
calls_next was now calls d k x view is next =
    ap calls_in is ∙ calls_in_more was d x ∙ ap (λ cs. with_call cs d (call_in x)) view
    ∙ ap (calls_at calls d (call_in x)) (next ∙ ap (λ n. arrival_of n k) (sym (calls_counted was d) ∙ ap (λ cs. length (calls_of cs d)) view))
