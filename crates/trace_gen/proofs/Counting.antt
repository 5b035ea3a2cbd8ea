-- Counts of messages and calls.
use Rattle.std.proofs.Common.{◌≡◌, ℕ, zero, suc, ◌+◌, ◌-◌, ◌*◌, ◌<◌, ◌≤◌, Bool, true, false, cond, List, [], ◌∷◌, ◌++◌, length, get_or, set, replicate, refl, sym, ap, ◌∙◌, arith, length-append}
use Rattle.std.specs.Prelude.{filter, count_by, flat_map, fold, ◌==◌}
use Rattle.std.proofs.lemmas.Bool.{eqb-true, eqb-false}
use Rattle.std.proofs.lemmas.Grind.{flat_map-append}
use Rattle.std.proofs.lemmas.List.{append-nil, get_or-replicate, length-replicate, length-set, get_or-set_same, get_or-set_other}
use Rattle.std.proofs.lemmas.List.Elements.{filter-append}
use Rattle.std.proofs.lemmas.List.Sums.{sum_by-append, sum_by-cons, length-filter, count_by-le-length}
use Rattle.device_types.specs.Numbers.{IsWithin}
use Rattle.trace_gen.specs.declared.counts.Counts.{Counts}
use Rattle.trace_gen.specs.declared.script.Call.{Call}
use Rattle.trace_gen.specs.declared.script.Call.TheVariants.{Subscriber, Gateway, Notice}
use Rattle.trace_gen.specs.declared.script.Sending.{Sending}
use Rattle.trace_gen.specs.declared.script.Sending.TheVariants.{AttachRequest, AuthenticationResponse, SecurityComplete, AttachContext, RadioCapability, AttachComplete, ReleaseRequest, ReleaseComplete, ServiceRequest, ServiceContext, AreaRequest, DetachRequest}
use Rattle.trace_gen.specs.declared.script.Sent.{Sent}
use Rattle.trace_gen.specs.Scripts.{calls_after}
use Rattle.trace_gen.specs.Schedule.{goes_to_gateway, goes_to_subscriber, own, own_calls, counts_of, with_call}
use Rattle.trace_gen.specs.State.{none, with_sent, AreCounts}

abbrev counts : ℕ → ℕ → ℕ → Counts
counts m g s = record { messages = m; gateway = g; subscriber = s }

same : (m M g G s S : ℕ) → m ≡ M → g ≡ G → s ≡ S → counts m g s ≡ counts M G S
same m M g G s S d e f = ap (λ x. counts x g s) d ∙ ap (λ x. counts M x s) e ∙ ap (λ x. counts M G x) f

-- counting calls one by one adds up
abbrev with_all : Counts → List Call → Counts
with_all c calls = counts c.messages (c.gateway + count_by goes_to_gateway calls) (c.subscriber + count_by goes_to_subscriber calls)

one : (p : Call → Bool) (call : Call) (calls : List Call) → count_by p (call ∷ calls) ≡ cond (p call) 1 0 + count_by p calls
one p call calls = sum_by-cons (λ x. cond (p x) 1 0) call calls

folded : (c : Counts) (calls : List Call) → fold with_call c calls ≡ with_all c calls
folded c [] = same c.messages c.messages c.gateway (c.gateway + 0) c.subscriber (c.subscriber + 0) refl (omega arith) (omega arith)
folded c (Gateway ∷ calls) =
    let g : count_by goes_to_gateway (Gateway ∷ calls) ≡ 1 + count_by goes_to_gateway calls = one goes_to_gateway Gateway calls in
    let s : count_by goes_to_subscriber (Gateway ∷ calls) ≡ 0 + count_by goes_to_subscriber calls = one goes_to_subscriber Gateway calls in
    folded (with_call c Gateway) calls ∙ same c.messages c.messages (c.gateway + 1 + count_by goes_to_gateway calls) (c.gateway + count_by goes_to_gateway (Gateway ∷ calls)) (c.subscriber + count_by goes_to_subscriber calls) (c.subscriber + count_by goes_to_subscriber (Gateway ∷ calls)) refl (omega (arith, g)) (omega (arith, s))
folded c (Subscriber ∷ calls) =
    let g : count_by goes_to_gateway (Subscriber ∷ calls) ≡ 0 + count_by goes_to_gateway calls = one goes_to_gateway Subscriber calls in
    let s : count_by goes_to_subscriber (Subscriber ∷ calls) ≡ 1 + count_by goes_to_subscriber calls = one goes_to_subscriber Subscriber calls in
    folded (with_call c Subscriber) calls ∙ same c.messages c.messages (c.gateway + count_by goes_to_gateway calls) (c.gateway + count_by goes_to_gateway (Subscriber ∷ calls)) (c.subscriber + 1 + count_by goes_to_subscriber calls) (c.subscriber + count_by goes_to_subscriber (Subscriber ∷ calls)) refl (omega (arith, g)) (omega (arith, s))
folded c (Notice ∷ calls) =
    let g : count_by goes_to_gateway (Notice ∷ calls) ≡ 0 + count_by goes_to_gateway calls = one goes_to_gateway Notice calls in
    let s : count_by goes_to_subscriber (Notice ∷ calls) ≡ 1 + count_by goes_to_subscriber calls = one goes_to_subscriber Notice calls in
    folded (with_call c Notice) calls ∙ same c.messages c.messages (c.gateway + count_by goes_to_gateway calls) (c.gateway + count_by goes_to_gateway (Notice ∷ calls)) (c.subscriber + 1 + count_by goes_to_subscriber calls) (c.subscriber + count_by goes_to_subscriber (Notice ∷ calls)) refl (omega (arith, g)) (omega (arith, s))

-- what a device has sent, with one thing more
own_with : (d : ℕ) (before : List Sent) (s : Sent) → (s.device == d) ≡ true → own d (before ++ s ∷ []) ≡ own d before ++ s ∷ []
own_with d before s e = filter-append (λ x. x.device == d) before (s ∷ []) ∙ ap (λ b. own d before ++ cond b (s ∷ []) []) e

own_without : (d : ℕ) (before : List Sent) (s : Sent) → (s.device == d) ≡ false → own d (before ++ s ∷ []) ≡ own d before
own_without d before s e = filter-append (λ x. x.device == d) before (s ∷ []) ∙ ap (λ b. own d before ++ cond b (s ∷ []) []) e ∙ append-nil (own d before)

abbrev calls_in : List Sent → List Call
calls_in sent = flat_map (λ s. calls_after s.sending) sent

calls_with : (sent : List Sent) (s : Sent) → calls_in (sent ++ s ∷ []) ≡ calls_in sent ++ calls_after s.sending
calls_with sent s = flat_map-append (λ s. calls_after s.sending) sent (s ∷ []) ∙ ap (λ xs. calls_in sent ++ xs) (append-nil (calls_after s.sending))

abbrev counted : List Sent → Counts
counted sent = counts (length sent) (count_by goes_to_gateway (calls_in sent)) (count_by goes_to_subscriber (calls_in sent))

count_with : (p : Call → Bool) (sent : List Sent) (s : Sent) → count_by p (calls_in (sent ++ s ∷ [])) ≡ count_by p (calls_in sent) + count_by p (calls_after s.sending)
count_with p sent s = ap (λ calls. count_by p calls) (calls_with sent s) ∙ sum_by-append (λ x. cond (p x) 1 0) (calls_in sent) (calls_after s.sending)

counted_with : (sent : List Sent) (s : Sent) → counted (sent ++ s ∷ []) ≡ with_sent (counted sent) s
counted_with sent s =
    same (length (sent ++ s ∷ [])) (length sent + 1) (count_by goes_to_gateway (calls_in (sent ++ s ∷ []))) (count_by goes_to_gateway (calls_in sent) + count_by goes_to_gateway (calls_after s.sending)) (count_by goes_to_subscriber (calls_in (sent ++ s ∷ []))) (count_by goes_to_subscriber (calls_in sent) + count_by goes_to_subscriber (calls_after s.sending)) (length-append sent (s ∷ [])) (count_with goes_to_gateway sent s) (count_with goes_to_subscriber sent s)
    ∙ sym (ap (λ (c : Counts). counts (length sent + 1) c.gateway c.subscriber) (folded (counted sent) (calls_after s.sending)))

-- the counts of a device, with one thing more that it has sent, or another device
pub counts_with : (d : ℕ) (before : List Sent) (s : Sent) → (s.device == d) ≡ true → counts_of d (before ++ s ∷ []) ≡ with_sent (counts_of d before) s
unfolding counts_of
counts_with d before s e = ap counted (own_with d before s e) ∙ counted_with (own d before) s

pub counts_without : (d : ℕ) (before : List Sent) (s : Sent) → (s.device == d) ≡ false → counts_of d (before ++ s ∷ []) ≡ counts_of d before
unfolding counts_of
counts_without d before s e = ap counted (own_without d before s e)

-- ---- how many there can be

two_calls : (sending : Sending) → length (calls_after sending) ≤ 2
two_calls AttachRequest = omega arith
two_calls AuthenticationResponse = omega arith
two_calls SecurityComplete = omega arith
two_calls AttachContext = omega arith
two_calls RadioCapability = omega arith
two_calls AttachComplete = omega arith
two_calls ReleaseRequest = omega arith
two_calls ReleaseComplete = omega arith
two_calls ServiceRequest = omega arith
two_calls ServiceContext = omega arith
two_calls AreaRequest = omega arith
two_calls DetachRequest = omega arith

few_calls : (sent : List Sent) → length (calls_in sent) ≤ 2 * length sent
few_calls [] = omega arith
few_calls (s ∷ sent) = omega (arith, length-append (calls_after s.sending) (calls_in sent), two_calls s.sending, few_calls sent)

few_own : (d : ℕ) (sent : List Sent) → length (own d sent) ≤ length sent
few_own d sent = omega (arith, length-filter (λ s. s.device == d) sent, count_by-le-length (λ s. s.device == d) sent)

pub few_counts : (d : ℕ) (before : List Sent) → ((counts_of d before).messages ≤ length before) × ((counts_of d before).gateway ≤ 2 * length before) × ((counts_of d before).subscriber ≤ 2 * length before)
unfolding counts_of
few_counts d before =
    let o = few_own d before in
    let c = few_calls (own d before) in
    (o, omega (arith, o, c, count_by-le-length goes_to_gateway (own_calls d before)), omega (arith, o, c, count_by-le-length goes_to_subscriber (own_calls d before)))

-- ---- the counts of all devices

pub none_counted : (devices : ℕ) → AreCounts devices [] (replicate devices none)
unfolding counts_of
none_counted devices = record {
  count = length-replicate devices none;
  each = λ i lt. get_or-replicate devices i none none lt;
}

module _ (devices : ℕ) (before : List Sent) (all : List Counts) (s : Sent) (are : AreCounts devices before all) (within : IsWithin devices s.device) where
  abbrev now : Counts
  now = get_or all (s.device - 1) none

  abbrev more : List Counts
  more = set all (s.device - 1) (with_sent now s)

  at : (i : ℕ) → i < devices → (b : Bool) → (s.device == i + 1) ≡ b → get_or more i none ≡ counts_of (i + 1) (before ++ s ∷ [])
  at i lt true e =
      let h : s.device ≡ i + 1 = eqb-true s.device (i + 1) e in
      let place : i ≡ s.device - 1 = omega (arith, h) in
      let long : s.device - 1 < length all = omega (arith, within.0, within.1, are.count) in
      ap (λ j. get_or more j none) place ∙ get_or-set_same all (s.device - 1) (with_sent now s) none long ∙ ap (λ j. with_sent (get_or all j none) s) (sym place) ∙ ap (λ c. with_sent c s) (are.each i lt) ∙ sym (counts_with (i + 1) before s e)
  at i lt false e =
      let other : i ≡ s.device - 1 → ⊥ = λ same. eqb-false s.device (i + 1) e (omega (arith, same, within.0)) in
      get_or-set_other all (s.device - 1) i (with_sent now s) none other ∙ are.each i lt ∙ sym (counts_without (i + 1) before s e)

  pub more_counted : AreCounts devices (before ++ s ∷ []) (set all (s.device - 1) (with_sent (get_or all (s.device - 1) none) s))
  more_counted = record {
    count = length-set all (s.device - 1) (with_sent now s) ∙ are.count;
    each = λ i lt. at i lt (s.device == i + 1) refl;
  }
