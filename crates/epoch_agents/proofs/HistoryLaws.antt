-- The laws of turns, kept by each turn, and so of every list of events.
use Rattle.std.proofs.Common.{◌≡◌, ◌==◌, ◌⊎◌, inl, inr, ⊎_elim, ℕ, ◌+◌, ◌≤◌, Bool, true, false, cond, ◌&&◌, eqb-true, eq-eqb, List, [], ◌∷◌, ◌++◌, length, reverse, Some, refl, sym, ap, ◌∙◌, subst, arith}
use Rattle.std.specs.Prelude.{nat_le, nat_lt, not, All}
use Rattle.std.specs.List.{fold}
use Rattle.std.proofs.lemmas.Bool.{and_parts, or_cases, leb-true}
use Rattle.std.proofs.lemmas.List.{map-append, reverse-append}
use Rattle.std.proofs.lemmas.List.Elements.{All-head, All-tail}
use Rattle.std.proofs.lemmas.List.Sums.{fold-append}
use Rattle.std.proofs.lemmas.Option.{none-some, same_Some}
use Rattle.device_types.specs.Numbers.{IsWithin}
use Rattle.epoch_agents.specs.declared.event.EpochAnswer.{EpochAnswer}
use Rattle.epoch_agents.specs.declared.event.EpochAnswer.TheVariants as told
use Rattle.epoch_agents.specs.declared.event.EpochEvent.{EpochEvent}
use Rattle.epoch_agents.specs.declared.event.EpochEvent.TheVariants.{Send, Arrive, Learn}
use Rattle.epoch_agents.specs.declared.stream.Merged.{Merged}
use Rattle.epoch_agents.specs.declared.stream.Stream.{Stream}
use Rattle.epoch_agents.specs.Answer.{may_send, turn, history, IsEvent, Lawful}
use Rattle.epoch_agents.specs.Counts.{Turn, is_sent, is_committed, agent, on_link, merge}
use Rattle.epoch_agents.specs.Merge.{IsPassed}
use Rattle.epoch_agents.specs.Row.{is_of, is_named, count_named, count_of, current, current_stamp}
use Rattle.epoch_agents.specs.Streams.{message_count}
use Rattle.epoch_agents.specs.World.{events_of}
use Rattle.epoch_agents.proofs.RowLaws.{current_push, count_push}
use Rattle.epoch_agents.proofs.TurnLaws.{IsPacket, Laws, IsCommit, commit_is, commit_stamp, passed_more, heards_more, stamp_more}

-- ---- the link

sent_if : (c : Bool) (x : EpochAnswer) → x ≡ cond c told.Sent told.VoidWindow → is_sent x ≡ true → c ≡ true
sent_if true x e h = refl
sent_if false x e h = absurd (let f = ap is_sent e in cc)

-- what the test of a sent message says
sent_here : (x : EpochAnswer) (a b n m stamp r : ℕ) → (is_sent x && (a == b) && (n == m) && (stamp == r)) ≡ true → (is_sent x ≡ true) × (a ≡ b) × (n ≡ m) × (stamp ≡ r)
sent_here x a b n m stamp r h =
    let p = and_parts (is_sent x && (a == b) && (n == m)) (stamp == r) h in
    let q = and_parts (is_sent x && (a == b)) (n == m) p.0 in
    let u = and_parts (is_sent x) (a == b) q.0 in
    (u.0, eqb-true a b u.1, eqb-true n m q.1, eqb-true stamp r p.1)

packet_more : (streams : List Stream) (t : Turn) (turns : List Turn) (a stamp n : ℕ) → IsPacket streams turns a stamp n → IsPacket streams (t ∷ turns) a stamp n
packet_more streams t turns a stamp n p = record { stream = p.stream; low = p.low; high = p.high; bound = let b = p.bound in omega arith }

packet_here : (streams : List Stream) (turns : List Turn) (b m : ℕ) (x : EpochAnswer) → Lawful streams ((Send b m, x) ∷ turns) → Laws streams turns → is_sent x ≡ true → IsPacket streams ((Send b m, x) ∷ turns) b (agent b turns).stamp m
packet_here streams turns b m x L k h =
    let g = agent b turns in
    let test = sent_if (may_send g (message_count streams b) m) x L.1 h in
    let p = and_parts (not g.is_over && nat_lt g.acked m && nat_le m (g.acked + 4)) (nat_le m (message_count streams b)) test in
    record { stream = L.0.0; low = L.0.1; high = leb-true m (message_count streams b) p.1; bound = let s = k.stamps b in omega arith }

packets_more : (streams : List Stream) (t : Turn) (turns : List Turn) → Lawful streams (t ∷ turns) → Laws streams turns → (a stamp n : ℕ) → on_link a stamp n (t ∷ turns) ≡ true → IsPacket streams (t ∷ turns) a stamp n
packets_more streams (Send b m, x) turns L k a stamp n h = ⊎_elim
    (λ (here : (is_sent x && (a == b) && (n == m) && (stamp == (agent b turns).stamp)) ≡ true).
    let s = sent_here x a b n m stamp (agent b turns).stamp here in
    let r : IsPacket streams ((Send b m, x) ∷ turns) a stamp n = rw (s.1, s.2, s.3) (packet_here streams turns b m x L k s.0) in r)
    (λ (old : on_link a stamp n turns ≡ true). packet_more streams (Send b m, x) turns a stamp n (k.packets a stamp n old))
    (or_cases (is_sent x && (a == b) && (n == m) && (stamp == (agent b turns).stamp)) (on_link a stamp n turns) h)
packets_more streams (_, x) turns L k a stamp n h = packet_more streams _ turns a stamp n (k.packets a stamp n h)

-- ---- names

stamps_more : (streams : List Stream) (t : Turn) (turns : List Turn) → Lawful streams (t ∷ turns) → Laws streams turns → (a : ℕ) → (agent a (t ∷ turns)).stamp ≤ length (t ∷ turns) + 1
stamps_more streams (Learn i, x) turns L k a = ⊎_elim
    (λ (same : (agent a ((Learn i, x) ∷ turns)).stamp ≡ (agent a turns).stamp). let s = k.stamps a in omega arith)
    (λ (new : IsPassed streams (merge turns) a (agent a turns).stamp × ((agent a ((Learn i, x) ∷ turns)).stamp ≤ length turns)). let b = new.1 in omega arith)
    (stamp_more streams i x turns a L.1 k)
stamps_more streams (_, x) turns L k a = let s = k.stamps a in omega arith

names_more : (streams : List Stream) (t : Turn) (turns : List Turn) → Lawful streams (t ∷ turns) → Laws streams turns → (a stamp n : ℕ) → on_link a stamp n (t ∷ turns) ≡ true → (stamp ≡ (agent a (t ∷ turns)).stamp) ⊎ IsPassed streams (merge (t ∷ turns)) a stamp
names_more streams (Send b m, x) turns L k a stamp n h = ⊎_elim
    (λ (here : (is_sent x && (a == b) && (n == m) && (stamp == (agent b turns).stamp)) ≡ true).
    let s = sent_here x a b n m stamp (agent b turns).stamp here in
    let r : stamp ≡ (agent a turns).stamp = rw s.1 s.3 in inl r)
    (λ (old : on_link a stamp n turns ≡ true). k.names a stamp n old)
    (or_cases (is_sent x && (a == b) && (n == m) && (stamp == (agent b turns).stamp)) (on_link a stamp n turns) h)
names_more streams (Arrive b r m, x) turns L k a stamp n h = ⊎_elim
    (λ (same : stamp ≡ (agent a turns).stamp). inl same)
    (λ (p : IsPassed streams (merge turns) a stamp). inr (passed_more streams (Arrive b r m, x) turns a stamp L p))
    (k.names a stamp n h)
names_more streams (Learn i, x) turns L k a stamp n h = ⊎_elim
    (λ (is : stamp ≡ (agent a turns).stamp).
    ⊎_elim
    (λ (same : (agent a ((Learn i, x) ∷ turns)).stamp ≡ (agent a turns).stamp). inl (is ∙ sym same))
    (λ (new : IsPassed streams (merge turns) a (agent a turns).stamp × ((agent a ((Learn i, x) ∷ turns)).stamp ≤ length turns)). inr (subst (λ (s : ℕ). IsPassed streams (merge turns) a s) (sym is) new.0))
    (stamp_more streams i x turns a L.1 k))
    (λ (p : IsPassed streams (merge turns) a stamp). inr p)
    (k.names a stamp n h)

-- ---- the merge

nothing : (b : Bool) (c : ℕ) → c ≡ 0 → cond b c 0 ≡ 0
nothing true c e = e
nothing false c e = refl

counts_one : (c n : ℕ) (u v w : Bool) → n ≡ cond v c 0 → (u ≡ true → w ≡ v) → n + cond (u && w) 1 0 ≡ cond v (c + cond u 1 0) 0
counts_one c n false true w e same = omega arith
counts_one c n false false w e same = omega arith
counts_one c n true v w e same = rw (same refl) (at v e)
  where
    at : (v : Bool) → n ≡ cond v c 0 → n + cond v 1 0 ≡ cond v (c + 1) 0
    at true e = omega arith
    at false e = omega arith

counts_push : (streams : List Stream) (turns : List Turn) (entry : Merged) → Laws streams turns → IsCommit streams turns entry.a entry.stamp entry.n → (a stamp : ℕ) → count_named a stamp (merge turns ++ entry ∷ []) ≡ cond (stamp == (agent a turns).stamp) (count_of a (merge turns ++ entry ∷ [])) 0
counts_push streams turns entry k c a stamp =
    rw (count_push (is_named a stamp) (merge turns) entry, count_push (is_of a) (merge turns) entry)
    (counts_one (count_of a (merge turns)) (count_named a stamp (merge turns)) (a == entry.a) (stamp == (agent a turns).stamp) (stamp == entry.stamp) (k.counts a stamp)
    (λ h. let is = commit_stamp streams turns entry.a entry.stamp entry.n k c in
    let same = eqb-true a entry.a h in
    ap (λ s. stamp == s) is ∙ ap (λ b. stamp == (agent b turns).stamp) (sym same)))

counts_more : (streams : List Stream) (t : Turn) (turns : List Turn) → Lawful streams (t ∷ turns) → Laws streams turns → (a stamp : ℕ) → count_named a stamp (merge (t ∷ turns)) ≡ cond (stamp == (agent a (t ∷ turns)).stamp) (count_of a (merge (t ∷ turns))) 0
counts_more streams (Arrive b r m, x) turns L k a stamp = at (is_committed x) refl
  where
    at : (c : Bool) → is_committed x ≡ c → count_named a stamp (cond c (merge turns ++ record { a = b; stamp = r; n = m } ∷ []) (merge turns)) ≡ cond (stamp == (agent a turns).stamp) (count_of a (cond c (merge turns ++ record { a = b; stamp = r; n = m } ∷ []) (merge turns))) 0
    at false h = k.counts a stamp
    at true h = counts_push streams turns (record { a = b; stamp = r; n = m }) k (commit_is streams turns b r m x L.1 h) a stamp
counts_more streams (Learn i, x) turns L k a stamp = ⊎_elim
    (λ (same : (agent a ((Learn i, x) ∷ turns)).stamp ≡ (agent a turns).stamp). k.counts a stamp ∙ ap (λ s. cond (stamp == s) (count_of a (merge turns)) 0) (sym same))
    (λ (new : IsPassed streams (merge turns) a (agent a turns).stamp × ((agent a ((Learn i, x) ∷ turns)).stamp ≤ length turns)).
    let own = k.counts a (agent a turns).stamp in
    let here = eq-eqb (agent a turns).stamp (agent a turns).stamp refl in
    let none : count_of a (merge turns) ≡ 0 = sym (rw here at own) ∙ new.0.none in
    k.counts a stamp ∙ nothing _ _ none ∙ sym (nothing _ _ none))
    (stamp_more streams i x turns a L.1 k)
counts_more streams (Send b m, x) turns L k a stamp = k.counts a stamp

top_more : (streams : List Stream) (t : Turn) (turns : List Turn) → Lawful streams (t ∷ turns) → Laws streams turns → current_stamp (current (merge (t ∷ turns))) ≤ length (t ∷ turns)
top_more streams (Arrive b r m, x) turns L k = at (is_committed x) refl
  where
    at : (c : Bool) → is_committed x ≡ c → current_stamp (current (cond c (merge turns ++ record { a = b; stamp = r; n = m } ∷ []) (merge turns))) ≤ length ((Arrive b r m, x) ∷ turns)
    at false h = let low = k.top in omega arith
    at true h =
        let low = (k.packets b r m (commit_is streams turns b r m x L.1 h).packet).bound in
        rw (current_push (merge turns) (record { a = b; stamp = r; n = m })) (omega arith)
top_more streams (_, x) turns L k = let low = k.top in omega arith

last_more : (streams : List Stream) (t : Turn) (turns : List Turn) → Lawful streams (t ∷ turns) → Laws streams turns → (entry : Merged) → current (merge (t ∷ turns)) ≡ Some entry → IsWithin (length streams) entry.a
last_more streams (Arrive b r m, x) turns L k entry e = at (is_committed x) e
  where
    at : (c : Bool) → current (cond c (merge turns ++ record { a = b; stamp = r; n = m } ∷ []) (merge turns)) ≡ Some entry → IsWithin (length streams) entry.a
    at false f = k.last entry f
    at true f =
        let is = same_Some _ entry (sym (current_push (merge turns) (record { a = b; stamp = r; n = m })) ∙ f) in
        subst (λ (z : Merged). IsWithin (length streams) z.a) is L.0.0
last_more streams (Send b m, x) turns L k entry e = k.last entry e
last_more streams (Learn i, x) turns L k entry e = k.last entry e

-- ---- every list

laws_more : (streams : List Stream) (t : Turn) (turns : List Turn) → Lawful streams (t ∷ turns) → Laws streams turns → Laws streams (t ∷ turns)
laws_more streams t turns L k = record {
  packets = packets_more streams t turns L k;
  stamps = stamps_more streams t turns L k;
  top = top_more streams t turns L k;
  last = last_more streams t turns L k;
  heards = heards_more streams t turns L k;
  names = names_more streams t turns L k;
  counts = counts_more streams t turns L k;
}

pub laws : (streams : List Stream) (turns : List Turn) → Lawful streams turns → Laws streams turns
laws streams [] L = record {
  packets = λ a stamp n h. absurd (cc);
  stamps = λ a. omega arith;
  top = omega arith;
  last = λ entry e. absurd (none-some entry e);
  heards = λ i h e. absurd (none-some h e);
  names = λ a stamp n h. absurd (cc);
  counts = λ a stamp. sym (nothing _ 0 refl);
}
laws streams (t ∷ turns) L = laws_more streams t turns L (laws streams turns L.2)

-- ---- histories

pub history_more : (streams : List Stream) (events : List EpochEvent) (e : EpochEvent) → history streams (events ++ e ∷ []) ≡ turn streams (history streams events) e
history_more streams events e = fold-append (turn streams) [] events (e ∷ [])

pub reverse-cons : {A : Type 0} (x : A) (xs : List A) → reverse (x ∷ xs) ≡ reverse xs ++ x ∷ []
reverse-cons x xs = reverse-append (x ∷ []) xs

-- turns that have their answers are the history of their events
pub history_is : (streams : List Stream) (turns : List Turn) → Lawful streams turns → history streams (events_of (reverse turns)) ≡ turns
history_is streams [] L = refl
history_is streams ((e, x) ∷ turns) L =
    let before = history_is streams turns L.2 in
    ap (λ ts. history streams (events_of ts)) (reverse-cons (e, x) turns)
    ∙ ap (history streams) (map-append (λ (t : Turn). t.0) (reverse turns) ((e, x) ∷ []))
    ∙ history_more streams (events_of (reverse turns)) e
    ∙ ap (λ (H : List Turn). turn streams H e) before
    ∙ ap (λ (y : EpochAnswer). (e, y) ∷ turns) (sym L.1)

lawful_fold : (streams : List Stream) (turns : List Turn) (events : List EpochEvent) → Lawful streams turns → All (IsEvent streams) events → Lawful streams (fold (turn streams) turns events)
lawful_fold streams turns [] L all = L
lawful_fold streams turns (e ∷ events) L all = lawful_fold streams (turn streams turns e) events (All-head (IsEvent streams) e events all, refl, L) (All-tail (IsEvent streams) e events all)

pub lawful : (streams : List Stream) (events : List EpochEvent) → All (IsEvent streams) events → Lawful streams (history streams events)
lawful streams events all = lawful_fold streams [] events tt all
