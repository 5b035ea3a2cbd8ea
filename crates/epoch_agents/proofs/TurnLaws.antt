-- What holds of every list of turns.
use Rattle.std.proofs.Common.{◌≡◌, ◌==◌, ◌⊎◌, inl, inr, ⊎_elim, ℕ, suc, ◌+◌, ◌≤◌, Bool, true, false, cond, ◌&&◌, eqb-true, eq-eqb, List, [], ◌∷◌, ◌++◌, length, Option, Some, None, refl, sym, ap, ◌∙◌, subst, arith}
use Rattle.std.specs.Prelude.{nat_lt}
use Rattle.std.proofs.lemmas.Bool.{or_right}
use Rattle.std.proofs.lemmas.Option.{none-some, same_Some}
use Rattle.device_types.specs.Numbers.{IsWithin}
use Rattle.epoch_agents.specs.declared.agent.Agent.{Agent}
use Rattle.epoch_agents.specs.declared.event.EpochAnswer.{EpochAnswer}
use Rattle.epoch_agents.specs.declared.event.EpochAnswer.TheVariants as told
use Rattle.epoch_agents.specs.declared.event.EpochEvent.TheVariants.{Send, Arrive, Learn}
use Rattle.epoch_agents.specs.declared.heard.Heard.{Heard}
use Rattle.epoch_agents.specs.declared.stream.Merged.{Merged}
use Rattle.epoch_agents.specs.declared.stream.Stream.{Stream}
use Rattle.epoch_agents.specs.Answer.{makes_of, hears, learn_answer, answer, Lawful}
use Rattle.epoch_agents.specs.Counts.{Turn, is_sent, is_off_link, is_committed, heard_of, heard, is_for, learnt, agent, on_link, merge}
use Rattle.epoch_agents.specs.Merge.{IsPassed}
use Rattle.epoch_agents.specs.Row.{count_named, count_of, current, current_stamp, row_answer}
use Rattle.epoch_agents.specs.Streams.{message_count}
use Rattle.epoch_agents.proofs.RowLaws.{Commits, commits, passes, passed_push}

-- ---- the link

-- what is on the link was sent: a message of a stream, under a stamp that is not above the number of turns
pub record IsPacket (streams : List Stream) (turns : List Turn) (a stamp n : ℕ) : Type 0 where
  pub stream : IsWithin (length streams) a
  pub low : 1 ≤ n
  pub high : n ≤ message_count streams a
  pub bound : stamp ≤ length turns

-- what an agent hears is of a message on the link; where the answer was low, its name is passed
pub record IsHeard (streams : List Stream) (turns : List Turn) (h : Heard) : Type 0 where
  pub packet : on_link h.a h.stamp h.n turns ≡ true
  pub low : (stamp : ℕ) → h.answer ≡ told.Low stamp → IsPassed streams (merge turns) h.a h.stamp × (stamp + 1 ≤ length turns)

pub record Laws (streams : List Stream) (turns : List Turn) : Type 0 where
  pub packets : (a stamp n : ℕ) → on_link a stamp n turns ≡ true → IsPacket streams turns a stamp n
  pub stamps : (a : ℕ) → (agent a turns).stamp ≤ length turns + 1
  pub top : current_stamp (current (merge turns)) ≤ length turns
  pub last : (entry : Merged) → current (merge turns) ≡ Some entry → IsWithin (length streams) entry.a
  pub heards : (i : ℕ) (h : Heard) → heard i turns ≡ Some h → IsHeard streams turns h
  pub names : (a stamp n : ℕ) → on_link a stamp n turns ≡ true → (stamp ≡ (agent a turns).stamp) ⊎ IsPassed streams (merge turns) a stamp
  pub counts : (a stamp : ℕ) → count_named a stamp (merge turns) ≡ cond (stamp == (agent a turns).stamp) (count_of a (merge turns)) 0

pub on_link_more : (t : Turn) (turns : List Turn) (a stamp n : ℕ) → on_link a stamp n turns ≡ true → on_link a stamp n (t ∷ turns) ≡ true
on_link_more (Send b m, x) turns a stamp n h = or_right (is_sent x && (a == b) && (n == m) && (stamp == (agent b turns).stamp)) (on_link a stamp n turns) h
on_link_more (_, x) turns a stamp n h = h

-- ---- an arrival

arrived : (on : Bool) (x y : EpochAnswer) → x ≡ cond on y told.VoidLink → is_off_link x ≡ false → (on ≡ true) × (x ≡ y)
arrived true x y e h = (refl, e)
arrived false x y e h = absurd (let f = ap is_off_link e in cc)

committed_on : (x : EpochAnswer) → is_committed x ≡ true → is_off_link x ≡ false
committed_on (told.Committed v) h = refl
committed_on told.VoidLink h = absurd (cc)
committed_on _ h = refl

pub record IsCommit (streams : List Stream) (turns : List Turn) (a stamp n : ℕ) : Type 0 where
  pub packet : on_link a stamp n turns ≡ true
  pub row : Commits streams (merge turns) a stamp n

pub commit_is : (streams : List Stream) (turns : List Turn) (a stamp n : ℕ) (x : EpochAnswer) → x ≡ answer streams turns (Arrive a stamp n) → is_committed x ≡ true → IsCommit streams turns a stamp n
commit_is streams turns a stamp n x e h =
    let w = arrived (on_link a stamp n turns) x (row_answer streams (merge turns) a stamp n) e (committed_on x h) in
    record { packet = w.0; row = commits streams (merge turns) a stamp n x w.1 h }

-- what is committed has the present name of its stream
pub commit_stamp : (streams : List Stream) (turns : List Turn) (a stamp n : ℕ) → Laws streams turns → IsCommit streams turns a stamp n → stamp ≡ (agent a turns).stamp
commit_stamp streams turns a stamp n k c = ⊎_elim
    (λ (is : stamp ≡ (agent a turns).stamp). is)
    (λ (p : IsPassed streams (merge turns) a stamp). absurd (let f = c.row.fresh p.none in let g = p.below in cc))
    (k.names a stamp n c.packet)

-- and is the next message of it
pub next_of_stream : (streams : List Stream) (turns : List Turn) (a stamp n : ℕ) → Laws streams turns → IsCommit streams turns a stamp n → n ≡ count_of a (merge turns) + 1
next_of_stream streams turns a stamp n k c =
    let here = eq-eqb stamp (agent a turns).stamp (commit_stamp streams turns a stamp n k c) in
    let own : count_named a stamp (merge turns) ≡ count_of a (merge turns) = rw here at (k.counts a stamp) in
    c.row.next ∙ ap (λ t. t + 1) own

pub passed_more : (streams : List Stream) (t : Turn) (turns : List Turn) (a stamp : ℕ) → Lawful streams (t ∷ turns) → IsPassed streams (merge turns) a stamp → IsPassed streams (merge (t ∷ turns)) a stamp
passed_more streams (Arrive b r m, x) turns a stamp L p = at (is_committed x) refl
  where
    at : (c : Bool) → is_committed x ≡ c → IsPassed streams (cond c (merge turns ++ record { a = b; stamp = r; n = m } ∷ []) (merge turns)) a stamp
    at false h = p
    at true h = passed_push streams (merge turns) (record { a = b; stamp = r; n = m }) a stamp (commit_is streams turns b r m x L.1 h).row p
passed_more streams (_, x) turns a stamp L p = p

pub passed_by : (streams : List Stream) (turns : List Turn) (a stamp n low : ℕ) → told.Low low ≡ answer streams turns (Arrive a stamp n) → IsPassed streams (merge turns) a stamp
passed_by streams turns a stamp n low e =
    let w = arrived (on_link a stamp n turns) (told.Low low) (row_answer streams (merge turns) a stamp n) e refl in
    (passes streams (merge turns) a stamp n low w.1).0

-- ---- what an agent hears

heard_more : (streams : List Stream) (t : Turn) (turns : List Turn) (h : Heard) → Lawful streams (t ∷ turns) → IsHeard streams turns h → IsHeard streams (t ∷ turns) h
heard_more streams t turns h L is = record {
  packet = on_link_more t turns h.a h.stamp h.n is.packet;
  low = λ stamp e. let w = is.low stamp e in (passed_more streams t turns h.a h.stamp L w.0, let b = w.1 in omega arith);
}

heard_here : (streams : List Stream) (t : Turn) (turns : List Turn) (h : Heard) → Lawful streams (t ∷ turns) → Laws streams turns → heard_of t ≡ Some h → IsHeard streams (t ∷ turns) h
heard_here streams (Arrive a stamp n, x) turns h L k e = at (is_off_link x) refl e
  where
    is_now : is_off_link x ≡ false → IsHeard streams ((Arrive a stamp n, x) ∷ turns) (record { a = a; stamp = stamp; n = n; answer = x })
    is_now off =
        let w = arrived (on_link a stamp n turns) x (row_answer streams (merge turns) a stamp n) L.1 off in
        record {
          packet = w.0;
          low = λ low is. let p = passes streams (merge turns) a stamp n low (sym is ∙ w.1) in
              (passed_more streams (Arrive a stamp n, x) turns a stamp L p.0, let b = k.top in let q = p.1 in omega arith);
        }

    at : (off : Bool) → is_off_link x ≡ off → cond off None (Some (record { a = a; stamp = stamp; n = n; answer = x })) ≡ Some h → IsHeard streams ((Arrive a stamp n, x) ∷ turns) h
    at true o f = absurd (none-some h f)
    at false o f = subst (λ (g : Heard). IsHeard streams ((Arrive a stamp n, x) ∷ turns) g) (same_Some _ h f) (is_now o)
heard_here streams (Send a n, x) turns h L k e = absurd (none-some h e)
heard_here streams (Learn i, x) turns h L k e = absurd (none-some h e)

pub heards_more : (streams : List Stream) (t : Turn) (turns : List Turn) → Lawful streams (t ∷ turns) → Laws streams turns → (i : ℕ) (h : Heard) → heard i (t ∷ turns) ≡ Some h → IsHeard streams (t ∷ turns) h
heards_more streams t turns L k i h e = at (i == suc (length turns)) e
  where
    at : (c : Bool) → cond c (heard_of t) (heard i turns) ≡ Some h → IsHeard streams (t ∷ turns) h
    at true f = heard_here streams t turns h L k f
    at false f = heard_more streams t turns h L (k.heards i h f)

-- ---- an agent learns

kept_or_old : (c : Bool) (n : ℕ) (g : Agent) → (learnt (cond c (told.Acked n) told.Old) g).stamp ≡ g.stamp
kept_or_old true n g = refl
kept_or_old false n g = refl

-- the answer leaves the name, or gives a new one by the low answer that was heard
abbrev Renames : Agent → Agent → EpochAnswer → Type 0
Renames old new x = (new.stamp ≡ old.stamp) ⊎ ((stamp : ℕ) × (x ≡ told.Low stamp) × (new.stamp ≡ stamp + 1))

renames_by : (g : Agent) (n : ℕ) (x y : EpochAnswer) → y ≡ makes_of g.acked n x → Renames g (learnt y g) x
renames_by g n (told.Committed v) y e = inl (ap (λ z. (learnt z g).stamp) e ∙ kept_or_old (nat_lt g.acked n) n g)
renames_by g n (told.Repeat m) y e = inl (ap (λ z. (learnt z g).stamp) e ∙ kept_or_old (nat_lt g.acked n) n g)
renames_by g n (told.Low stamp) y e = inr (stamp, refl, ap (λ z. (learnt z g).stamp) e)
renames_by g n (told.OverAt t) y e = inl (ap (λ z. (learnt z g).stamp) e)
renames_by g n _ y e = inl (ap (λ z. (learnt z g).stamp) e)

-- a stream keeps its name, or its old name is passed and the new one is not above the number of turns
abbrev pub Moves : List Stream → List Turn → ℕ → Agent → Type 0
Moves streams turns a new = (new.stamp ≡ (agent a turns).stamp) ⊎ (IsPassed streams (merge turns) a (agent a turns).stamp × (new.stamp ≤ length turns))

moves_by : (streams : List Stream) (turns : List Turn) (h : Heard) (x : EpochAnswer) (c : Bool) → IsHeard streams turns h → ((agent h.a turns).stamp == h.stamp) ≡ c → x ≡ cond c (makes_of (agent h.a turns).acked h.n h.answer) told.Old → Moves streams turns h.a (learnt x (agent h.a turns))
moves_by streams turns h x false is d e = inl (ap (λ z. (learnt z (agent h.a turns)).stamp) e)
moves_by streams turns h x true is d e = ⊎_elim
    (λ (kept : (learnt x (agent h.a turns)).stamp ≡ (agent h.a turns).stamp). inl kept)
    (λ (new : (s : ℕ) × (h.answer ≡ told.Low s) × ((learnt x (agent h.a turns)).stamp ≡ s + 1)).
    let w = is.low new.0 new.1 in
    let bound = w.1 in
    let n = new.2 in
    inr (subst (λ (s : ℕ). IsPassed streams (merge turns) h.a s) (sym (eqb-true (agent h.a turns).stamp h.stamp d)) w.0, omega arith))
    (renames_by (agent h.a turns) h.n h.answer x e)

moves_if : (streams : List Stream) (turns : List Turn) (a : ℕ) (x : EpochAnswer) (h : Heard) (c : Bool) → IsHeard streams turns h → x ≡ hears (agent h.a turns) h → (a == h.a) ≡ c → Moves streams turns a (cond c (learnt x (agent a turns)) (agent a turns))
moves_if streams turns a x h false is e d = inl refl
moves_if streams turns a x h true is e d = subst (λ (b : ℕ). Moves streams turns b (learnt x (agent b turns))) (sym (eqb-true a h.a d)) (moves_by streams turns h x ((agent h.a turns).stamp == h.stamp) is refl e)

moves_at : (streams : List Stream) (turns : List Turn) (i a : ℕ) (x : EpochAnswer) (o : Option Heard) → Laws streams turns → heard i turns ≡ o → x ≡ learn_answer turns o → Moves streams turns a (cond (is_for a o) (learnt x (agent a turns)) (agent a turns))
moves_at streams turns i a x None k d e = inl refl
moves_at streams turns i a x (Some h) k d e = moves_if streams turns a x h (a == h.a) (k.heards i h d) e refl

pub stamp_more : (streams : List Stream) (i : ℕ) (x : EpochAnswer) (turns : List Turn) (a : ℕ) → x ≡ learn_answer turns (heard i turns) → Laws streams turns → Moves streams turns a (agent a ((Learn i, x) ∷ turns))
stamp_more streams i x turns a e k = moves_at streams turns i a x (heard i turns) k refl e
