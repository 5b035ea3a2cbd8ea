-- One thing more that is sent: its events, and the counts.
use Rattle.std.proofs.Common.{◌≡◌, ℕ, suc, ◌+◌, ◌-◌, ◌*◌, ◌^◌, ◌<◌, ◌≤◌, List, [], ◌∷◌, ◌++◌, length, get_or, set, take, drop, refl, sym, ap, subst, ◌∙◌, arith, append_assoc}
use Rattle.std.specs.Prelude.{All, flat_map}
use Rattle.std.proofs.Math.Seq.{drop-cons}
use Rattle.std.proofs.lemmas.Grind.{flat_map-append}
use Rattle.std.proofs.lemmas.List.{take_more, length-take-le}
use Rattle.std.proofs.lemmas.List.Elements.{All-get_or}
use Rattle.device_types.specs.Numbers.{IsWithin}
use Rattle.device_types.specs.declared.event.Event.{Event}
use Rattle.trace_gen.specs.declared.counts.Counts.{Counts}
use Rattle.trace_gen.specs.declared.script.Sending.TheVariants.{AttachRequest}
use Rattle.trace_gen.specs.declared.script.Sent.{Sent}
use Rattle.trace_gen.specs.Draws.{drawn, next_state, state_after}
use Rattle.case_form.specs.Event.{event_line}
use Rattle.trace_gen.specs.Made.{ended, events_text}
use Rattle.trace_gen.specs.Schedule.{counts_of, sent_events, schedule_behind}
use Rattle.trace_gen.specs.State.{none, with_sent, AreCounts}
use Rattle.trace_gen.proofs.Counting.{few_counts, more_counted}

pub state_more : (first n : ℕ) → state_after first (n + 1) ≡ next_state (state_after first n)
state_more first n = let on : n + 1 ≡ suc n = omega arith in ap (state_after first) on

pub joined : (new old a b all init : List ℕ) → new ≡ old ++ a → all ≡ a ++ b → old ++ all ≡ init → new ++ b ≡ init
joined new old a b all init e f g = ap (λ xs. xs ++ b) e ∙ append_assoc old a b ∙ ap (λ xs. old ++ xs) (sym f) ∙ g

abbrev pub no_sent : Sent
no_sent = record { device = 0; sending = AttachRequest }

module _ (devices : ℕ) (trace : List Sent) (i : ℕ) (all : List Counts) (within : All (λ s. IsWithin devices s.device) trace) (few : length trace < 2 ^ 32) (lt : i < length trace) (are : AreCounts devices (take i trace) all) where
  abbrev sent : Sent
  sent = get_or trace i no_sent

  abbrev now : Counts
  now = get_or all (sent.device - 1) none

  inside : IsWithin devices sent.device
  inside = All-get_or (λ s. IsWithin devices s.device) trace i no_sent lt within

  at : (d : ℕ) → d + 1 ≡ sent.device → d < devices → get_or all d none ≡ counts_of sent.device (take i trace)
  at d e l = are.each d l ∙ ap (λ n. counts_of n (take i trace)) e

  is_now : now ≡ counts_of sent.device (take i trace)
  is_now = at (sent.device - 1) (omega (arith, inside.0)) (omega (arith, inside.0, inside.1))

  long : length (take i trace) ≡ i
  long = length-take-le i trace (omega arith)

  pub room_messages : now.messages + 1 < 2 ^ 64
  room_messages = rw is_now (let f = few_counts sent.device (take i trace) in omega (arith, f.0, long, lt, few))

  pub room_gateway : now.gateway + 2 < 2 ^ 64
  room_gateway = rw is_now (let f = few_counts sent.device (take i trace) in omega (arith, f.1, long, lt, few))

  pub room_subscriber : now.subscriber + 2 < 2 ^ 64
  room_subscriber = rw is_now (let f = few_counts sent.device (take i trace) in omega (arith, f.2, long, lt, few))

  abbrev rest : ℕ → List Event
  rest first = schedule_behind first (take (i + 1) trace) (drop (i + 1) trace)

  left : (first : ℕ) → schedule_behind first (take i trace) (drop i trace) ≡ sent_events (drawn first 2 i + 1) now sent ++ rest first
  left first =
      let on : suc i ≡ i + 1 = omega arith in
      let split : drop i trace ≡ sent ∷ drop (i + 1) trace = drop-cons trace i no_sent lt ∙ ap (λ n. sent ∷ drop n trace) on in
      ap (λ xs. schedule_behind first (take i trace) xs) split
      ∙ ap (λ n. sent_events (drawn first 2 n + 1) (counts_of sent.device (take i trace)) sent ++ schedule_behind first (take i trace ++ sent ∷ []) (drop (i + 1) trace)) long
      ∙ ap (λ c. sent_events (drawn first 2 i + 1) c sent ++ schedule_behind first (take i trace ++ sent ∷ []) (drop (i + 1) trace)) (sym is_now)
      ∙ ap (λ before. sent_events (drawn first 2 i + 1) now sent ++ schedule_behind first before (drop (i + 1) trace)) (sym (take_more trace i no_sent lt))

  pub step_text : (first r : ℕ) → r ≡ drawn first 2 i → events_text (schedule_behind first (take i trace) (drop i trace)) ≡ events_text (sent_events (r + 1) now sent) ++ events_text (rest first)
  step_text first r e = ap (λ events. flat_map (λ event. ended (event_line event)) events) (left first) ∙ flat_map-append (λ event. ended (event_line event)) (sent_events (drawn first 2 i + 1) now sent) (rest first) ∙ ap (λ n. events_text (sent_events (n + 1) now sent) ++ events_text (rest first)) (sym e)

  pub step_counts : AreCounts devices (take (i + 1) trace) (set all (sent.device - 1) (with_sent now sent))
  step_counts = subst (λ before. AreCounts devices before (set all (sent.device - 1) (with_sent now sent))) (sym (take_more trace i no_sent lt)) (more_counted devices (take i trace) all sent are inside)
