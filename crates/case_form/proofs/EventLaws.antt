-- A line is read as an event exactly where it has the words of the event.
use Rattle.std.proofs.Common.{◌≡◌, ℕ, ◌^◌, ◌<◌, List, [], ◌∷◌, ◌++◌, Some, refl, sym, ap, ◌∙◌, subst, arith}
use Rattle.std.specs.Prelude.{codes}
use Rattle.std.specs.Fmt.{decimal}
use Rattle.device_types.specs.declared.event.Lane.{Lane}
use Rattle.device_types.specs.declared.event.Lane.TheVariants as lane
use Rattle.device_types.specs.declared.event.Event.{Event}
use Rattle.device_types.specs.declared.event.Event.TheVariants as event
use Rattle.device_types.specs.declared.subscriber.DeviceId.{DeviceId}
use Rattle.case_form.specs.declared.event.Verb.{Verb}
use Rattle.case_form.specs.declared.event.Verb.TheVariants.{Send, Take, Answer, Read, Write, Stop, Reply, Push, Effect, Settle}
use Rattle.case_form.specs.Event.{verb_of, lane_of, call_lane, verb_at, lane_at, call_lane_at, device_at, replica_at, count_at, message_at, effect_at, event_at, event_of, lane_word, event_words}
use Rattle.device_types.specs.Event.{IsCallLane, IsInForm}
use Rattle.device_types.specs.Numbers.{IsWithin}
use Rattle.echo_base.specs.Reading.{◌>>=◌, done, known}
use Rattle.echo_base.proofs.Answers.{ok_parts, bind_ok}
use Rattle.echo_base.proofs.Formats.{known_ok}
use Rattle.case_form.specs.Words.{Reader, number_at, words_of}
use Rattle.case_form.proofs.ExactLaws.{IsExact, Next, Ends, next_exact, done_exact, value_exact, number_exact, in_table_found, whole_found, whole_only}

abbrev Words : Type 0
Words = List (List ℕ)

-- the same runs, told otherwise
told : {A : Type 0} (S T : A → Words → Type 0) (f : Reader A) → IsExact S f → ((v : A) (run : Words) → S v run → T v run) → ((v : A) (run : Words) → T v run → S v run) → IsExact T f
told S T f p to from = record { found = λ words rest v e. let x = p.found words rest v e in (x.0, to v x.0 x.1, x.2); only = λ v run rest s. p.only v run rest (from v run s) }

-- what is made of a value
abbrev Made : {A : Type 0} → (A → Words → Type 0) → (A → Event) → Event → Words → Type 0
Made {A} S make e run = (v : A) × S v run × (e ≡ make v)

made_exact : {A : Type 0} (S : A → Words → Type 0) (f : Reader A) (make : A → Event) → IsExact S f → IsExact (Made S make) (f >>= λ v. done (make v))
made_exact S f make p = record {
  found = λ words rest e is.
      let x = bind_ok (f words) (λ x. done (make x.0) x.1) (e, rest) is in
      let d = ok_parts (make x.0.0) e x.0.1 rest x.2 in
      let front = p.found words x.0.1 x.0.0 x.1 in
      (front.0, (x.0.0, front.1, sym d.0), front.2 ∙ ap (λ (l : Words). front.0 ++ l) d.1);
  only = λ e run rest s. rw (s.2, p.only s.0 run rest s.1) refl;
}

-- ---- verbs and lanes

verb_word : Verb → List ℕ
verb_word Send = codes "send"
verb_word Take = codes "take"
verb_word Answer = codes "answer"
verb_word Read = codes "read"
verb_word Write = codes "write"
verb_word Stop = codes "stop"
verb_word Reply = codes "reply"
verb_word Push = codes "push"
verb_word Effect = codes "effect"
verb_word Settle = codes "settle"

verbs : List (List ℕ × Verb)
verbs = (codes "send", Send) ∷ (codes "take", Take) ∷ (codes "answer", Answer) ∷ (codes "read", Read) ∷ (codes "write", Write) ∷ (codes "stop", Stop) ∷ (codes "reply", Reply) ∷ (codes "push", Push) ∷ (codes "effect", Effect) ∷ (codes "settle", Settle) ∷ []

verb_found : (word : List ℕ) (verb : Verb) → verb_of word ≡ Some verb → Unit {0} × (word ≡ verb_word verb)
unfolding verb_of verb_word verbs
verb_found word verb e = (tt, in_table_found verb_word verbs (refl, (refl, (refl, (refl, (refl, (refl, (refl, (refl, (refl, (refl, tt)))))))))) word verb e)

verb_only : (verb : Verb) → Unit {0} → verb_of (verb_word verb) ≡ Some verb
unfolding verb_of verb_word
verb_only Send u = refl
verb_only Take u = refl
verb_only Answer u = refl
verb_only Read u = refl
verb_only Write u = refl
verb_only Stop u = refl
verb_only Reply u = refl
verb_only Push u = refl
verb_only Effect u = refl
verb_only Settle u = refl

verb_exact : IsExact (λ verb run. Unit {0} × (run ≡ verb_word verb ∷ [])) verb_at
unfolding verb_at
verb_exact = value_exact verb_of verb_word (λ _. Unit {0}) verb_found verb_only

lanes : List (List ℕ × Lane)
lanes = (codes "down", lane.Down) ∷ (codes "gateway", lane.Gateway) ∷ (codes "subscriber", lane.Subscriber) ∷ []

lane_found : (word : List ℕ) (l : Lane) → lane_of word ≡ Some l → Unit {0} × (word ≡ lane_word l)
unfolding lane_of lanes
lane_found word l e = (tt, in_table_found lane_word lanes (refl, (refl, (refl, tt))) word l e)

lane_only : (l : Lane) → Unit {0} → lane_of (lane_word l) ≡ Some l
unfolding lane_of
lane_only lane.Down u = refl
lane_only lane.Gateway u = refl
lane_only lane.Subscriber u = refl

lane_exact : IsExact (λ l run. Unit {0} × (run ≡ lane_word l ∷ [])) lane_at
unfolding lane_at
lane_exact = value_exact lane_of lane_word (λ _. Unit {0}) lane_found lane_only

call_lane_found : (l k : Lane) → call_lane l ≡ Some k → IsCallLane k × (l ≡ k)
call_lane_found lane.Down k e = absurd cc
call_lane_found lane.Gateway lane.Gateway e = (tt, refl)
call_lane_found lane.Gateway lane.Down e = absurd cc
call_lane_found lane.Gateway lane.Subscriber e = absurd cc
call_lane_found lane.Subscriber lane.Subscriber e = (tt, refl)
call_lane_found lane.Subscriber lane.Down e = absurd cc
call_lane_found lane.Subscriber lane.Gateway e = absurd cc

call_lane_only : (l : Lane) → IsCallLane l → call_lane l ≡ Some l
call_lane_only lane.Down h = absurd h
call_lane_only lane.Gateway h = refl
call_lane_only lane.Subscriber h = refl

call_lane_exact : IsExact (λ l run. IsCallLane l × (run ≡ lane_word l ∷ [])) call_lane_at
unfolding call_lane_at
call_lane_exact = record {
  found = λ words rest l e.
      let x = bind_ok (lane_at words) (λ x. known (call_lane x.0) tt x.1) (l, rest) e in
      let d = known_ok (call_lane x.0.0) tt x.0.1 l rest x.2 in
      let c = call_lane_found x.0.0 l d.0 in
      let f = lane_exact.found words x.0.1 x.0.0 x.1 in
      (f.0, (c.0, f.1.1 ∙ ap (λ k. lane_word k ∷ []) c.1), f.2 ∙ ap (λ (l : Words). f.0 ++ l) d.1);
  only = λ l run rest s. rw (lane_exact.only l run rest (tt, s.1), call_lane_only l s.0) refl;
}

-- ---- numbers

device_exact : (rows : ℕ) → rows < 2 ^ 32 → IsExact (λ d run. IsWithin rows d.0 × (run ≡ decimal d.0 ∷ [])) (device_at rows)
unfolding device_at
device_exact rows small =
    let p : IsExact (Next (IsWithin rows) decimal (λ n. Ends (device n))) (device_at rows) = next_exact (IsWithin rows) decimal (number_at rows) (λ n. Ends (device n)) _ (number_exact rows small) (λ n. done_exact (device n)) in
    record {
      found = λ words rest d e.
          let x = p.found words rest d e in
          let run_is : x.0 ≡ decimal d.0 ∷ [] = x.1.4 ∙ ap (λ (l : Words). decimal x.1.0 ∷ l) x.1.3.1 ∙ ap (λ (v : DeviceId). decimal v.0 ∷ []) (sym x.1.3.0) in
          (x.0, (subst (λ (v : DeviceId). IsWithin rows v.0) (sym x.1.3.0) x.1.1, run_is), x.2);
      only = λ d run rest s. p.only d run rest (d.0, s.0, [], (refl, refl), s.1);
    }
  where
    device : ℕ → DeviceId
    device n = record { 0 = n }

replica_exact : IsExact (λ n run. IsWithin 16 n × (run ≡ decimal n ∷ [])) replica_at
replica_exact = number_exact 16 (omega arith)

count_exact : IsExact (λ n run. IsWithin 4294967295 n × (run ≡ decimal n ∷ [])) count_at
count_exact = number_exact 4294967295 (omega arith)

-- ---- events

abbrev IsDevice : ℕ → DeviceId → Type 0
IsDevice rows d = IsWithin rows d.0

abbrev device_word : DeviceId → List ℕ
device_word d = decimal d.0

abbrev IsAny : {A : Type 0} → A → Type 0
IsAny v = Unit {0}

abbrev IsReplica : ℕ → Type 0
IsReplica = IsWithin 16

abbrev IsCount : ℕ → Type 0
IsCount = IsWithin 4294967295

-- a message of a device
abbrev Message : ℕ → DeviceId × ℕ → Words → Type 0
Message rows m run = IsDevice rows m.0 × IsCount m.1 × (run ≡ device_word m.0 ∷ decimal m.1 ∷ [])

message_exact : (rows : ℕ) → rows < 2 ^ 32 → IsExact (Message rows) (message_at rows)
unfolding message_at
message_exact rows small =
    let p : IsExact (Next (IsDevice rows) device_word (λ d. Next IsCount decimal (λ n. Ends (d, n)))) (message_at rows) = next_exact _ _ (device_at rows) _ _ (device_exact rows small) (λ d. next_exact _ _ count_at _ _ count_exact (λ n. done_exact (d, n))) in
    told _ _ (message_at rows) p
    (λ m run s.
    let n = s.3 in
    subst (λ (v : DeviceId × ℕ). Message rows v run) (sym n.3.0) (s.1, n.1, s.4 ∙ ap (λ (l : Words). device_word s.0 ∷ l) (n.4 ∙ ap (λ (l : Words). decimal n.0 ∷ l) n.3.1)))
    (λ m run s. (m.0, s.0, _, (m.1, s.1, [], (refl, refl), refl), s.2))

-- an effect on a lane of a device
abbrev Laned : ℕ → DeviceId × Lane × ℕ → Words → Type 0
Laned rows e run = IsDevice rows e.0 × IsCount e.2 × (run ≡ device_word e.0 ∷ lane_word e.1 ∷ decimal e.2 ∷ [])

laned_exact : (rows : ℕ) → rows < 2 ^ 32 → IsExact (Laned rows) (effect_at rows)
unfolding effect_at
laned_exact rows small =
    let p : IsExact (Next (IsDevice rows) device_word (λ d. Next IsAny lane_word (λ l. Next IsCount decimal (λ k. Ends (d, l, k))))) (effect_at rows) = next_exact _ _ (device_at rows) _ _ (device_exact rows small) (λ d. next_exact _ _ lane_at _ _ lane_exact (λ l. next_exact _ _ count_at _ _ count_exact (λ k. done_exact (d, l, k)))) in
    told _ _ (effect_at rows) p
    (λ e run s.
    let lane = s.3 in
    let k = lane.3 in
    subst (λ (v : DeviceId × Lane × ℕ). Laned rows v run) (sym k.3.0) (s.1, k.1, s.4 ∙ ap (λ (l : Words). device_word s.0 ∷ l) (lane.4 ∙ ap (λ (l : Words). lane_word lane.0 ∷ l) (k.4 ∙ ap (λ (l : Words). decimal k.0 ∷ l) k.3.1))))
    (λ e run s. (e.0, s.0, _, (e.1, tt, _, (e.2, s.1, [], (refl, refl), refl), refl), s.2))

-- a replica
abbrev Replica : ℕ → Words → Type 0
Replica r run = IsReplica r × (run ≡ decimal r ∷ [])

-- what stands behind a verb
abbrev Rest : ℕ → Verb → Event → Words → Type 0
Rest rows Send = Made (Message rows) (λ m. event.Send m.0 m.1)
Rest rows Take = Next IsReplica decimal (λ r. Made (Message rows) (λ m. event.Take r m.0 m.1))
Rest rows Answer = Next IsReplica decimal (λ r. Next (IsDevice rows) device_word (λ d. Next IsCallLane lane_word (λ l. Next IsCount decimal (λ k. Ends (event.Answer r d l k)))))
Rest rows Read = Made Replica event.Read
Rest rows Write = Made Replica event.Write
Rest rows Stop = Made Replica event.Stop
Rest rows Reply = Made (Message rows) (λ m. event.Reply m.0 m.1)
Rest rows Push = Made (Laned rows) (λ e. event.Push e.0 e.1 e.2)
Rest rows Effect = Made (Laned rows) (λ e. event.Effect e.0 e.1 e.2)
Rest rows Settle = Made (Laned rows) (λ e. event.Settle e.0 e.1 e.2)

rest_exact : (rows : ℕ) → rows < 2 ^ 32 → (verb : Verb) → IsExact (Rest rows verb) (event_at rows verb)
unfolding event_at
rest_exact rows small Send = made_exact (Message rows) (message_at rows) (λ m. event.Send m.0 m.1) (message_exact rows small)
rest_exact rows small Take = next_exact IsReplica decimal replica_at _ _ replica_exact (λ r. made_exact (Message rows) (message_at rows) (λ m. event.Take r m.0 m.1) (message_exact rows small))
rest_exact rows small Answer = next_exact IsReplica decimal replica_at _ _ replica_exact (λ r. next_exact (IsDevice rows) device_word (device_at rows) _ _ (device_exact rows small) (λ d. next_exact IsCallLane lane_word call_lane_at _ _ call_lane_exact (λ l. next_exact IsCount decimal count_at _ _ count_exact (λ k. done_exact (event.Answer r d l k)))))
rest_exact rows small Read = made_exact Replica replica_at event.Read replica_exact
rest_exact rows small Write = made_exact Replica replica_at event.Write replica_exact
rest_exact rows small Stop = made_exact Replica replica_at event.Stop replica_exact
rest_exact rows small Reply = made_exact (Message rows) (message_at rows) (λ m. event.Reply m.0 m.1) (message_exact rows small)
rest_exact rows small Push = made_exact (Laned rows) (effect_at rows) (λ e. event.Push e.0 e.1 e.2) (laned_exact rows small)
rest_exact rows small Effect = made_exact (Laned rows) (effect_at rows) (λ e. event.Effect e.0 e.1 e.2) (laned_exact rows small)
rest_exact rows small Settle = made_exact (Laned rows) (effect_at rows) (λ e. event.Settle e.0 e.1 e.2) (laned_exact rows small)

-- a verb, and what stands behind it
abbrev Run : ℕ → Event → Words → Type 0
Run rows = Next IsAny verb_word (Rest rows)

run_exact : (rows : ℕ) → rows < 2 ^ 32 → IsExact (Run rows) (verb_at >>= event_at rows)
run_exact rows small = next_exact IsAny verb_word verb_at (Rest rows) (event_at rows) verb_exact (rest_exact rows small)

-- ---- what was read has the words of the event, and what has them was read

abbrev Written : ℕ → Words → Event → Type 0
Written rows run e = IsInForm rows e × (run ≡ event_words e)

behind : (verb : Verb) (run words : Words) → run ≡ words → verb_word verb ∷ run ≡ verb_word verb ∷ words
behind verb run words e = ap (λ (l : Words). verb_word verb ∷ l) e

rest_written : (rows : ℕ) (verb : Verb) (e : Event) (run : Words) → Rest rows verb e run → Written rows (verb_word verb ∷ run) e
unfolding verb_word
rest_written rows Send e run s = subst (Written rows (codes "send" ∷ run)) (sym s.2) ((s.1.0, s.1.1), behind Send run _ s.1.2)
rest_written rows Take e run s =
    let m = s.3 in
    subst (Written rows (codes "take" ∷ run)) (sym m.2) ((s.1, m.1.0, m.1.1), behind Take run _ (s.4 ∙ ap (λ (l : Words). decimal s.0 ∷ l) m.1.2))
rest_written rows Answer e run s =
    let device = s.3 in
    let lane = device.3 in
    let count = lane.3 in
    subst (Written rows (codes "answer" ∷ run)) (sym count.3.0) (
      (s.1, device.1, lane.1, count.1),
      behind Answer run _ (s.4 ∙ ap (λ (l : Words). decimal s.0 ∷ l) (device.4 ∙ ap (λ (l : Words). device_word device.0 ∷ l) (lane.4 ∙ ap (λ (l : Words). lane_word lane.0 ∷ l) (count.4 ∙ ap (λ (l : Words). decimal count.0 ∷ l) count.3.1)))),
    )
rest_written rows Read e run s = subst (Written rows (codes "read" ∷ run)) (sym s.2) (s.1.0, behind Read run _ s.1.1)
rest_written rows Write e run s = subst (Written rows (codes "write" ∷ run)) (sym s.2) (s.1.0, behind Write run _ s.1.1)
rest_written rows Stop e run s = subst (Written rows (codes "stop" ∷ run)) (sym s.2) (s.1.0, behind Stop run _ s.1.1)
rest_written rows Reply e run s = subst (Written rows (codes "reply" ∷ run)) (sym s.2) ((s.1.0, s.1.1), behind Reply run _ s.1.2)
rest_written rows Push e run s = subst (Written rows (codes "push" ∷ run)) (sym s.2) ((s.1.0, s.1.1), behind Push run _ s.1.2)
rest_written rows Effect e run s = subst (Written rows (codes "effect" ∷ run)) (sym s.2) ((s.1.0, s.1.1), behind Effect run _ s.1.2)
rest_written rows Settle e run s = subst (Written rows (codes "settle" ∷ run)) (sym s.2) ((s.1.0, s.1.1), behind Settle run _ s.1.2)

written_run : (rows : ℕ) (e : Event) → IsInForm rows e → Run rows e (event_words e)
unfolding verb_word
written_run rows (event.Send d n) f = (Send, tt, _, ((d, n), (f.0, f.1, refl), refl), refl)
written_run rows (event.Take r d n) f = (Take, tt, _, (r, f.0, _, ((d, n), (f.1, f.2, refl), refl), refl), refl)
written_run rows (event.Answer r d l k) f = (Answer, tt, _, (r, f.0, _, (d, f.1, _, (l, f.2, _, (k, f.3, [], (refl, refl), refl), refl), refl), refl), refl)
written_run rows (event.Read r) f = (Read, tt, _, (r, (f, refl), refl), refl)
written_run rows (event.Write r) f = (Write, tt, _, (r, (f, refl), refl), refl)
written_run rows (event.Stop r) f = (Stop, tt, _, (r, (f, refl), refl), refl)
written_run rows (event.Reply d n) f = (Reply, tt, _, ((d, n), (f.0, f.1, refl), refl), refl)
written_run rows (event.Push d l k) f = (Push, tt, _, ((d, l, k), (f.0, f.1, refl), refl), refl)
written_run rows (event.Effect d l k) f = (Effect, tt, _, ((d, l, k), (f.0, f.1, refl), refl), refl)
written_run rows (event.Settle d l k) f = (Settle, tt, _, ((d, l, k), (f.0, f.1, refl), refl), refl)

pub event_found : (rows : ℕ) (line : List ℕ) (e : Event) → rows < 2 ^ 32 → event_of rows line ≡ Some e → IsInForm rows e × (words_of line ≡ event_words e)
unfolding event_of
event_found rows line e small is =
    let s = whole_found (Run rows) (verb_at >>= event_at rows) (run_exact rows small) line e is in
    let w = rest_written rows s.0 e s.2 s.3 in
    (w.0, s.4 ∙ w.1)

pub event_only : (rows : ℕ) (line : List ℕ) (e : Event) → rows < 2 ^ 32 → IsInForm rows e → words_of line ≡ event_words e → event_of rows line ≡ Some e
unfolding event_of
event_only rows line e small form words = whole_only (Run rows) (verb_at >>= event_at rows) (run_exact rows small) line e (subst (Run rows e) (sym words) (written_run rows e form))
