-- What a world keeps goes on with its turns.
use Rattle.std.proofs.Common.{◌≡◌, ◌==◌, ⊎_elim, ℕ, suc, ◌+◌, ◌-◌, ◌≤◌, ◌<◌, Bool, true, false, cond, ◌&&◌, ◌||◌, eq-eqb, ne_eqb, nat_cmp, List, [], ◌∷◌, ◌++◌, length, get_or, reverse, Option, Some, None, refl, sym, ap, ◌∙◌, subst, arith}
use Rattle.std.specs.Prelude.{unwrap_or, IfSome}
use Rattle.std.specs.BTreeMap.{BTreeMap, get, is_at, Updates}
use Rattle.std.specs.BTreeSet as sets
use Rattle.std.specs.BTreeSet.{BTreeSet}
use Rattle.std.specs.Ordering.{is_eq, ordering_then}
use Rattle.std.specs.declared.cmp.Ordering.{Ordering}
use Rattle.std.specs.declared.cmp.Ordering.TheVariants.{Less, Equal, Greater}
use Rattle.std.proofs.Math.Seq.{get_or-append_seam}
use Rattle.std.proofs.lemmas.Bool.{cases_eq}
use Rattle.std.proofs.lemmas.Bool.Decides.{nat_tests}
use Rattle.std.proofs.lemmas.List.{get_or_append_left, get_or_default, length-map, length-reverse, map-append, reverse-append, reverse-reverse}
use Rattle.epoch_agents.specs.declared.agent.Agent.{Agent}
use Rattle.epoch_agents.specs.declared.event.EpochAnswer.{EpochAnswer}
use Rattle.epoch_agents.specs.declared.event.EpochAnswer.TheVariants as told
use Rattle.epoch_agents.specs.declared.event.EpochEvent.{EpochEvent}
use Rattle.epoch_agents.specs.declared.event.EpochEvent.TheVariants.{Send, Arrive, Learn}
use Rattle.epoch_agents.specs.declared.heard.Heard.{Heard}
use Rattle.epoch_agents.specs.declared.stream.Merged.{Merged}
use Rattle.epoch_agents.specs.declared.stream.Stream.{Stream}
use Rattle.device_types.specs.Numbers.{IsWithin}
use Rattle.epoch_agents.specs.Answer.{may_send, hears, answer, history, IsEvent, Lawful}
use Rattle.epoch_agents.specs.Counts.{Turn, is_committed, heard_of, heard, learnt, fresh_agent, agent, on_link, merge}
use Rattle.epoch_agents.specs.Kept.{value_or, IsKept, IsWorld}
use Rattle.epoch_agents.specs.Row.{is_of, count_of, count_named, current, row_says}
use Rattle.epoch_agents.specs.Streams.{triple_cmp, no_stream, message_count}
use Rattle.epoch_agents.specs.World.{WorldState, events_of, Answers}
use Rattle.epoch_agents.proofs.HistoryLaws.{history_is, reverse-cons, laws}
use Rattle.epoch_agents.proofs.RowLaws.{count_push}
use Rattle.epoch_agents.proofs.TurnLaws.{commit_is, next_of_stream}

-- ---- the turn of an event

heard_in : (turns : List Turn) (i : ℕ) (t : Turn) → i < length turns → t ≡ get_or (reverse turns) i t → heard (i + 1) turns ≡ heard_of t
heard_in [] i t low at = absurd (omega arith)
heard_in (x ∷ turns) i t low at = ⊎_elim
    (λ (is : i ≡ length turns).
    let place : i ≡ length (reverse turns) = is ∙ sym (length-reverse turns) in
    let test = eq-eqb (i + 1) (suc (length turns)) (omega arith) in
    let item : t ≡ x = at ∙ ap (λ ts. get_or ts i t) (reverse-cons x turns) ∙ ap (λ j. get_or (reverse turns ++ x ∷ []) j t) place ∙ get_or-append_seam (reverse turns) x [] t in
    rw test (ap heard_of (sym item)))
    (λ (ne : i ≡ length turns → ⊥).
    let test = ne_eqb (i + 1) (suc (length turns)) (λ (e : i + 1 ≡ suc (length turns)). ne (omega arith)) in
    let long = length-reverse turns in
    rw test (heard_in turns i t (omega arith) (at ∙ ap (λ ts. get_or ts i t) (reverse-cons x turns) ∙ get_or_append_left (reverse turns) (x ∷ []) t i (omega arith))))
    (cases_eq i (length turns))

heard_past : (turns : List Turn) (i : ℕ) → length turns < i → heard i turns ≡ None
heard_past [] i low = refl
heard_past (x ∷ turns) i low = rw (ne_eqb i (suc (length turns)) (λ (e : i ≡ suc (length turns)). omega arith)) (heard_past turns i (omega arith))

heard_none : (turns : List Turn) → heard 0 turns ≡ None
heard_none [] = refl
heard_none (x ∷ turns) = rw (ne_eqb 0 (suc (length turns)) (λ (e : 0 ≡ suc (length turns)). omega arith)) (heard_none turns)

-- of turns that stand in the order in which they came
pub heard_found : (turns : List Turn) (i n : ℕ) (t : Turn) → i + 1 ≡ n → i < length turns → t ≡ get_or turns i t → heard_of t ≡ heard n (reverse turns)
heard_found turns i n t is low at = sym (heard_in (reverse turns) i t (rw (length-reverse turns) low) (rw (reverse-reverse turns) at)) ∙ ap (λ k. heard k (reverse turns)) is

pub heard_beyond : (turns : List Turn) (n : ℕ) → length turns < n → None ≡ heard n (reverse turns)
heard_beyond turns n low = sym (heard_past (reverse turns) n (rw (length-reverse turns) low))

pub heard_before : (turns : List Turn) (n : ℕ) → n < 1 → None ≡ heard n (reverse turns)
heard_before turns n low = let none : n ≡ 0 = omega arith in rw none (sym (heard_none (reverse turns)))

-- ---- maps and sets

is_at_is : (a b : ℕ) → is_at (nat_cmp a) b ≡ (a == b)
is_at_is a b = grind (arith, nat_tests)

is_eq_then : (a b : Ordering) → is_eq (ordering_then a b) ≡ (is_eq a && is_eq b)
is_eq_then Less b = refl
is_eq_then Equal b = refl
is_eq_then Greater b = refl

triple_at : (p q : ℕ × ℕ × ℕ) → is_at (triple_cmp p) q ≡ ((p.0 == q.0) && (p.1 == q.1) && (p.2 == q.2))
triple_at p q =
    is_eq_then (ordering_then (nat_cmp p.0 q.0) (nat_cmp p.1 q.1)) (nat_cmp p.2 q.2)
    ∙ rw (is_eq_then (nat_cmp p.0 q.0) (nat_cmp p.1 q.1), is_at_is p.0 q.0, is_at_is p.1 q.1, is_at_is p.2 q.2) refl

-- the place that was written has the new value, and any other what it had
value_at : {X : Type 0} (old new : BTreeMap ℕ X) (b : ℕ) (v otherwise : X) (a : ℕ) → Updates nat_cmp old new b (Some v) → value_or new a otherwise ≡ cond (b == a) v (value_or old a otherwise)
value_at {X} old new b v otherwise a u = ap (λ (o : Option X). unwrap_or o otherwise) (u.0 a ∙ ap (λ (c : Bool). cond c (Some v) (get nat_cmp old a)) (is_at_is b a)) ∙ by (b == a)
  where
    by : (c : Bool) → unwrap_or (cond c (Some v) (get nat_cmp old a)) otherwise ≡ cond c v (value_or old a otherwise)
    by true = refl
    by false = refl

swapped : (a b : ℕ) → (a == b) ≡ (b == a)
swapped a b = grind (arith, nat_tests)

-- ---- a turn more

-- a failed write leaves maps and sets as they were
pub kept_unchanged : (turns : List Turn) (agents agents' : BTreeMap ℕ Agent) (taken taken' : BTreeMap ℕ ℕ) (sent sent' : BTreeSet (ℕ × ℕ × ℕ)) (merged merged' : List Merged) → agents'.entries ≡ agents.entries → taken'.entries ≡ taken.entries → sent'.keys ≡ sent.keys → merged' ≡ merged → IsKept turns agents taken sent merged → IsKept turns agents' taken' sent' merged'
kept_unchanged turns agents agents' taken taken' sent sent' merged merged' e f g h k = record {
  knows = λ a. rw e (k.knows a);
  counts = λ a. rw f (k.counts a);
  link = λ a stamp n. rw g (k.link a stamp n);
  entries = h ∙ k.entries;
}

pub kept_window : (turns : List Turn) (a n : ℕ) (agents : BTreeMap ℕ Agent) (taken : BTreeMap ℕ ℕ) (sent : BTreeSet (ℕ × ℕ × ℕ)) (merged : List Merged) → IsKept turns agents taken sent merged → IsKept ((Send a n, told.VoidWindow) ∷ turns) agents taken sent merged
kept_window turns a n agents taken sent merged k = record { knows = k.knows; counts = k.counts; link = k.link; entries = k.entries }

pub kept_sent : (turns : List Turn) (a n stamp : ℕ) (agents : BTreeMap ℕ Agent) (taken : BTreeMap ℕ ℕ) (sent sent' : BTreeSet (ℕ × ℕ × ℕ)) (merged : List Merged) → stamp ≡ (agent a turns).stamp → sets.Updates triple_cmp sent sent' (a, stamp, n) true → IsKept turns agents taken sent merged → IsKept ((Send a n, told.Sent) ∷ turns) agents taken sent' merged
kept_sent turns a n stamp agents taken sent sent' merged is u k = record {
  knows = k.knows;
  counts = k.counts;
  entries = k.entries;
  link = λ b r m. u.0 (b, r, m) ∙ rw (triple_at (a, stamp, n) (b, r, m), k.link b r m, swapped a b, swapped stamp r, swapped n m, is) (by (b == a) (m == n) (r == (agent a turns).stamp) (on_link b r m turns));
}
  where
    by : (x y z w : Bool) → cond (x && z && y) true w ≡ ((x && y && z) || w)
    by false y z w = refl
    by true false false w = refl
    by true false true w = refl
    by true true false w = refl
    by true true true w = refl

pub kept_arrival : (turns : List Turn) (a stamp n : ℕ) (x : EpochAnswer) (agents : BTreeMap ℕ Agent) (taken : BTreeMap ℕ ℕ) (sent : BTreeSet (ℕ × ℕ × ℕ)) (merged : List Merged) → is_committed x ≡ false → IsKept turns agents taken sent merged → IsKept ((Arrive a stamp n, x) ∷ turns) agents taken sent merged
kept_arrival turns a stamp n x agents taken sent merged none k = record {
  knows = k.knows;
  link = k.link;
  counts = λ b. rw none (k.counts b);
  entries = rw none k.entries;
}

pub kept_commit : (turns : List Turn) (a stamp n : ℕ) (x : EpochAnswer) (agents : BTreeMap ℕ Agent) (taken taken' : BTreeMap ℕ ℕ) (sent : BTreeSet (ℕ × ℕ × ℕ)) (merged : List Merged) → is_committed x ≡ true → n ≡ count_of a (merge turns) + 1 → Updates nat_cmp taken taken' a (Some n) → IsKept turns agents taken sent merged → IsKept ((Arrive a stamp n, x) ∷ turns) agents taken' sent (merged ++ record { a = a; stamp = stamp; n = n } ∷ [])
kept_commit turns a stamp n x agents taken taken' sent merged some next u k = record {
  knows = k.knows;
  link = k.link;
  counts = λ b. rw some (value_at taken taken' a n 0 b u ∙ rw (count_push (is_of b) (merge turns) (record { a = a; stamp = stamp; n = n }), k.counts b, swapped a b) (at b));
  entries = rw some (ap (λ m. m ++ record { a = a; stamp = stamp; n = n } ∷ []) k.entries);
}
  where
    at : (b : ℕ) → cond (b == a) n (count_of b (merge turns)) ≡ count_of b (merge turns) + cond (b == a) 1 0
    at b = ⊎_elim
        (λ (is : b ≡ a). rw (eq-eqb b a is) (next ∙ ap (λ c. count_of c (merge turns) + 1) (sym is)))
        (λ (ne : b ≡ a → ⊥). rw (ne_eqb b a ne) (omega arith))
        (cases_eq b a)

pub kept_unheard : (turns : List Turn) (i : ℕ) (agents : BTreeMap ℕ Agent) (taken : BTreeMap ℕ ℕ) (sent : BTreeSet (ℕ × ℕ × ℕ)) (merged : List Merged) → heard i turns ≡ None → IsKept turns agents taken sent merged → IsKept ((Learn i, told.VoidLink) ∷ turns) agents taken sent merged
kept_unheard turns i agents taken sent merged none k = record {
  knows = λ a. rw none (k.knows a);
  counts = k.counts;
  link = k.link;
  entries = k.entries;
}

pub kept_learnt : (turns : List Turn) (i : ℕ) (h : Heard) (x : EpochAnswer) (g : Agent) (agents agents' : BTreeMap ℕ Agent) (taken : BTreeMap ℕ ℕ) (sent : BTreeSet (ℕ × ℕ × ℕ)) (merged : List Merged) → heard i turns ≡ Some h → g ≡ learnt x (agent h.a turns) → Updates nat_cmp agents agents' h.a (Some g) → IsKept turns agents taken sent merged → IsKept ((Learn i, x) ∷ turns) agents' taken sent merged
kept_learnt turns i h x g agents agents' taken sent merged is new u k = record {
  knows = λ a. value_at agents agents' h.a g fresh_agent a u ∙ rw (is, k.knows a, swapped h.a a, new) (at a);
  counts = k.counts;
  link = k.link;
  entries = k.entries;
}
  where
    at : (a : ℕ) → cond (a == h.a) (learnt x (agent h.a turns)) (agent a turns) ≡ cond (a == h.a) (learnt x (agent a turns)) (agent a turns)
    at a = ⊎_elim
        (λ (same : a ≡ h.a). rw same refl)
        (λ (ne : a ≡ h.a → ⊥). rw (ne_eqb a h.a ne) refl)
        (cases_eq a h.a)

-- ---- a world more

-- the turns in order are those of the history of their events
pub turns_are : (streams : List Stream) (turns : List Turn) → Lawful streams (reverse turns) → history streams (events_of turns) ≡ reverse turns
turns_are streams turns L = ap (λ ts. history streams (events_of ts)) (sym (reverse-reverse turns)) ∙ history_is streams (reverse turns) L

pub notes : (streams : List Stream) (turns turns' : List Turn) (e : EpochEvent) (x : EpochAnswer) (agents : BTreeMap ℕ Agent) (taken : BTreeMap ℕ ℕ) (sent : BTreeSet (ℕ × ℕ × ℕ)) (merged : List Merged) → turns' ≡ turns ++ (e, x) ∷ [] → Lawful streams (reverse turns) → IsEvent streams e → x ≡ answer streams (reverse turns) e → IsKept ((e, x) ∷ reverse turns) agents taken sent merged → IsWorld streams turns' agents taken sent merged
notes streams turns turns' e x agents taken sent merged more L i given k =
    let new : reverse turns' ≡ (e, x) ∷ reverse turns = ap reverse more ∙ reverse-append turns ((e, x) ∷ []) in
    let M : Lawful streams ((e, x) ∷ reverse turns) = (i, given, L) in
    record {
      lawful = subst (λ (ts : List Turn). Lawful streams ts) (sym new) M;
      kept = subst (λ (ts : List Turn). IsKept ts agents taken sent merged) (sym new) k;
    }

pub answered : (old : WorldState) (streams : List Stream) (turns turns' : List Turn) (e : EpochEvent) (x : EpochAnswer) → record { streams = streams; events = events_of turns } ≡ old → turns' ≡ turns ++ (e, x) ∷ [] → Lawful streams (reverse turns) → x ≡ answer streams (reverse turns) e → Answers old (record { streams = streams; events = events_of turns' }) e x
answered old streams turns turns' e x is more L given =
    let w : WorldState = record { streams = streams; events = events_of turns } in
    subst (λ (v : WorldState). Answers v (record { streams = streams; events = events_of turns' }) e x) is
    (record {
      same = refl;
      more = ap events_of more ∙ map-append (λ (t : Turn). t.0) turns ((e, x) ∷ []);
      answered = given ∙ ap (λ ts. answer streams ts e) (sym (turns_are streams turns L));
    })

pub pushed : {X : Type 0} (old mid new : List X) (x : X) → new ≡ mid ++ x ∷ [] → mid ≡ old → new ≡ old ++ x ∷ []
pushed old mid new x more same = more ∙ ap (λ l. l ++ x ∷ []) same

pub event_in : (old w : WorldState) (e : EpochEvent) → w ≡ old → IsEvent old.streams e → IsEvent w.streams e
event_in old w e is h = subst (λ (v : WorldState). IsEvent v.streams e) (sym is) h

-- ---- what is read

pub agent_read : (turns : List Turn) (agents : BTreeMap ℕ Agent) (taken : BTreeMap ℕ ℕ) (sent : BTreeSet (ℕ × ℕ × ℕ)) (merged : List Merged) (a : ℕ) (otherwise g : Agent) → otherwise ≡ fresh_agent → g ≡ value_or agents a otherwise → IsKept turns agents taken sent merged → g ≡ agent a turns
agent_read turns agents taken sent merged a otherwise g fresh is k = is ∙ ap (value_or agents a) fresh ∙ k.knows a

pub count_read : (streams : List Stream) (turns : List Turn) (agents : BTreeMap ℕ Agent) (taken : BTreeMap ℕ ℕ) (sent : BTreeSet (ℕ × ℕ × ℕ)) (merged : List Merged) (a stamp n count : ℕ) (g : Agent) → Lawful streams turns → g ≡ agent a turns → count ≡ value_or taken a 0 → n ≡ cond (stamp == g.stamp) count 0 → IsKept turns agents taken sent merged → n ≡ count_named a stamp (merge turns)
count_read streams turns agents taken sent merged a stamp n count g L is counted given k =
    given
    ∙ ap (λ (x : Agent). cond (stamp == x.stamp) count 0) is
    ∙ ap (λ c. cond (stamp == (agent a turns).stamp) c 0) (counted ∙ k.counts a)
    ∙ sym ((laws streams turns L).counts a stamp)

pub long_read : (streams : List Stream) (a long : ℕ) (stream : Stream) → IsWithin (length streams) a → stream ≡ get_or streams (a - 1) stream → long ≡ length stream.line.messages → long ≡ message_count streams a
long_read streams a long stream within at is = is ∙ ap (λ (x : Stream). length x.line.messages) (at ∙ get_or_default streams (a - 1) stream no_stream (omega (arith, within.0, within.1)))

-- ---- answers

pub send_given : (streams : List Stream) (turns : List Turn) (a n long : ℕ) (g : Agent) (b : Bool) → b ≡ may_send g long n → g ≡ agent a turns → long ≡ message_count streams a → cond b told.Sent told.VoidWindow ≡ answer streams turns (Send a n)
send_given streams turns a n long g b e f h = rw (e, f, h) refl

pub arrive_off : (streams : List Stream) (turns : List Turn) (a stamp n : ℕ) → on_link a stamp n turns ≡ false → told.VoidLink ≡ answer streams turns (Arrive a stamp n)
arrive_off streams turns a stamp n off = rw off refl

pub arrive_given : (streams : List Stream) (turns : List Turn) (a stamp n taken : ℕ) (merged : List Merged) (x : EpochAnswer) → on_link a stamp n turns ≡ true → merged ≡ merge turns → taken ≡ count_named a stamp (merge turns) → x ≡ row_says streams (current merged) (length merged) taken a stamp n → x ≡ answer streams turns (Arrive a stamp n)
arrive_given streams turns a stamp n taken merged x on same count given = given ∙ rw (on, same, count) refl

pub learn_given : (streams : List Stream) (turns : List Turn) (i : ℕ) (h : Heard) (g : Agent) (x : EpochAnswer) → heard i turns ≡ Some h → g ≡ agent h.a turns → x ≡ hears g h → x ≡ answer streams turns (Learn i)
learn_given streams turns i h g x is own given = given ∙ rw (is, own) refl

pub learn_void : (streams : List Stream) (turns : List Turn) (i : ℕ) → heard i turns ≡ None → told.VoidLink ≡ answer streams turns (Learn i)
learn_void streams turns i none = rw none refl

pub heard_read : (turns mid now : List Turn) (i : ℕ) (r o : Option Heard) → r ≡ heard i (reverse now) → now ≡ mid → mid ≡ turns → r ≡ o → heard i (reverse turns) ≡ o
heard_read turns mid now i r o read e f is = ap (λ ts. heard i (reverse ts)) (sym (e ∙ f)) ∙ sym read ∙ is

-- a new stamp is at most the number of events
pub low_bound : (old : WorldState) (streams : List Stream) (turns : List Turn) (i stamp : ℕ) (h : Heard) → record { streams = streams; events = events_of turns } ≡ old → Lawful streams (reverse turns) → heard i (reverse turns) ≡ Some h → h.answer ≡ told.Low stamp → stamp + 1 ≤ length old.events
low_bound old streams turns i stamp h is L heard low =
    let bound = (((laws streams (reverse turns) L).heards i h heard).low stamp low).1 in
    let count : length (reverse turns) ≡ length old.events = length-reverse turns ∙ sym (length-map turns (λ (t : Turn). t.0)) ∙ ap (λ (w : WorldState). length w.events) is in
    omega arith

if_some : (o : Option Merged) (P : Merged → Type 0) → ((entry : Merged) → o ≡ Some entry → P entry) → IfSome o P
if_some None P f = tt
if_some (Some entry) P f = f entry refl

pub last_within : (streams streams' : List Stream) (turns : List Turn) (merged : List Merged) → streams' ≡ streams → merged ≡ merge turns → Lawful streams turns → IfSome (current merged) (λ last. IsWithin (length streams') last.a)
last_within streams streams' turns merged e f L = rw (e, f) (if_some (current (merge turns)) (λ last. IsWithin (length streams) last.a) (laws streams turns L).last)

pub not_committed : (x : EpochAnswer) → ((v : ℕ) → x ≡ told.Committed v → ⊥) → is_committed x ≡ false
not_committed (told.Committed v) f = absurd (f v refl)
not_committed _ f = refl

pub next_count : (streams : List Stream) (turns : List Turn) (a stamp n : ℕ) (x : EpochAnswer) → Lawful streams turns → x ≡ answer streams turns (Arrive a stamp n) → is_committed x ≡ true → n ≡ count_of a (merge turns) + 1
next_count streams turns a stamp n x L given some = next_of_stream streams turns a stamp n (laws streams turns L) (commit_is streams turns a stamp n x given some)
