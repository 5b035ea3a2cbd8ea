-- What one more entry makes of the parts of a row.
use Rattle.std.proofs.Common.{◌≡◌, ℕ, ◌+◌, ◌^◌, ◌≤◌, ◌<◌, Bool, true, false, cond, List, [], ◌∷◌, ◌++◌, length, replicate, Option, None, lit<, refl, sym, ap, ◌∙◌, subst, arith, rules, length-append}
use Rattle.device_types.specs.declared.event.Lane.{Lane}
use Rattle.device_types.specs.declared.event.Lane.TheVariants as lane
use Rattle.device_types.specs.declared.effect.Effect.{Effect}
use Rattle.device_types.specs.declared.step.Entry.{Entry}
use Rattle.device_types.specs.declared.step.Reply.{Reply}
use Rattle.device_types.specs.Journal.{effects_on, pushed_count, taken_count, is_message, reply_to, replies_of, reply_of, awaited_on, awaited_behind, first_call}
use Rattle.std.specs.Prelude.{nat_lt, ◌&&◌}
use Rattle.std.proofs.lemmas.List.Elements.{All-replicate}
use Rattle.std.proofs.lemmas.List.Sums.{count_by-le-length}
use Rattle.device_types.specs.Octets.{AreOctets}
use Rattle.device_types.specs.Session.{IsSession, opening}
use Rattle.device_types.proofs.Journals.{effects_more, replies_more, reply_for, length-replies, awaited_more, session_more}
use Rattle.effect_outbox.specs.Outbox.{OutboxState, LaneNumbers, Holds, IsRest, with_effects, settled_of, pushed_on, part_on, number_on}
use Rattle.effect_outbox.proofs.Rests.{held_pushed, held_settled}
use Rattle.session_form.specs.Form.{form_of}
use Rattle.session_row.specs.Replies.{KeepsLast, kept_in}
use Rattle.session_row.specs.declared.replies.Replies.{Replies}
use Rattle.session_row.specs.Row.{RowState, lanes_of, kept_reply, IsRow}

-- ---- lanes

same_lanes : (outbox : OutboxState) (lanes others : Lane → List Effect) (settled : LaneNumbers) → ((l : Lane) → lanes l ≡ others l) → Holds outbox lanes settled → Holds outbox others settled
same_lanes outbox lanes others settled same h = record { on = λ l. subst (λ (effects : List Effect). IsRest (part_on outbox l) effects (number_on settled l)) (same l) (h.on l) }

-- the settled numbers of an outbox are its own
pub held_so_far : (outbox : OutboxState) (lanes : Lane → List Effect) (settled : LaneNumbers) → Holds outbox lanes settled → Holds outbox lanes (settled_of outbox)
held_so_far outbox lanes settled h = subst (Holds outbox lanes) (sym (held_settled outbox lanes settled h)) h

pub lanes_none : (outbox : OutboxState) → Holds outbox (λ _. []) (record { down = 0; gateway = 0; subscriber = 0 }) → Holds outbox (lanes_of []) (settled_of outbox)
lanes_none outbox h = held_so_far outbox (lanes_of []) (record { down = 0; gateway = 0; subscriber = 0 }) (same_lanes outbox (λ _. []) (lanes_of []) (record { down = 0; gateway = 0; subscriber = 0 }) (λ l. refl) h)

-- the outbox with the effects of one more entry
pub lanes_more : (now : OutboxState) (journal : List Entry) (entry : Entry) (settled : LaneNumbers) → Holds now (with_effects (lanes_of journal) entry.step.effects) settled → Holds now (lanes_of (journal ++ entry ∷ [])) (settled_of now)
lanes_more now journal entry settled h =
    held_so_far now (lanes_of (journal ++ entry ∷ [])) settled
    (same_lanes now (with_effects (lanes_of journal) entry.step.effects) (lanes_of (journal ++ entry ∷ [])) settled (λ l. sym (effects_more l journal entry)) h)

-- the numbers of a step's calls are below 2^64, since the lanes count less with them
pub calls_fit : (was now : OutboxState) (journal : List Entry) (effects items : List Effect) (l : Lane) (count : ℕ) → Holds now (with_effects (lanes_of journal) effects) (settled_of was) → pushed_on now l < 2 ^ 64 → count ≡ length (lanes_of journal l) → items ≡ effects → count + length (effects_on l items) < 2 ^ 64
calls_fit was now journal effects items l count h fits counted same =
    let n = held_pushed now (with_effects (lanes_of journal) effects) (settled_of was) l h in
    let m = length-append (lanes_of journal l) (effects_on l effects) in
    let e = ap (λ es. length (effects_on l es)) same in
    omega arith

-- the awaited call of a step
pub call_is : (journal : List Entry) (gateway subscriber : ℕ) (items effects : List Effect) (call : Option (Lane × ℕ)) → gateway ≡ pushed_count lane.Gateway journal → subscriber ≡ pushed_count lane.Subscriber journal → items ≡ effects → call ≡ first_call (awaited_on lane.Gateway gateway items) (awaited_on lane.Subscriber subscriber items) → call ≡ awaited_behind journal effects
call_is journal gateway subscriber items effects call g s e is =
    is
    ∙ ap (λ n. first_call (awaited_on lane.Gateway n items) (awaited_on lane.Subscriber subscriber items)) g
    ∙ ap (λ n. first_call (awaited_on lane.Gateway (pushed_count lane.Gateway journal) items) (awaited_on lane.Subscriber n items)) s
    ∙ ap (awaited_behind journal) e

-- ---- replies

pub taken_is : (window : ℕ) (journal : List Entry) (replies : Replies) → KeepsLast window (replies_of journal) replies → replies.taken ≡ taken_count journal
taken_is window journal replies kept = kept.taken ∙ length-replies journal

-- each message has an entry
pub taken_within : (window : ℕ) (journal : List Entry) (replies : Replies) → KeepsLast window (replies_of journal) replies → replies.taken ≤ length journal
taken_within window journal replies kept =
    let count = taken_is window journal replies kept in
    let within = count_by-le-length (λ (entry : Entry). is_message entry.input) journal in
    omega arith

answered_more : (window taken : ℕ) (journal : List Entry) (entry : Entry) (added : List Reply) (now : Replies) → taken ≡ taken_count journal → added ≡ cond (is_message entry.input) (reply_to (taken + 1) (length journal + 1) entry ∷ []) [] → KeepsLast window (replies_of journal ++ added) now → KeepsLast window (replies_of (journal ++ entry ∷ [])) now
answered_more window taken journal entry added now count more kept =
    subst (λ (all : List Reply). KeepsLast window all now)
    (rw (more, count) (ap (λ (rs : List Reply). replies_of journal ++ rs) (one_reply (is_message entry.input)) ∙ sym (replies_more journal entry)))
    kept
  where
    one_reply : (b : Bool) → cond b (reply_to (taken_count journal + 1) (length journal + 1) entry ∷ []) [] ≡ reply_for b (taken_count journal + 1) (length journal + 1) entry
    one_reply true = refl
    one_reply false = refl

-- what is kept of the replies of a journal
pub kept_is : (window : ℕ) (journal : List Entry) (n : ℕ) → kept_in window (replies_of journal) n ≡ kept_reply window journal n
kept_is window journal n = ap (λ count. cond (nat_lt 0 n && nat_lt count (n + window)) (reply_of journal n) None) (length-replies journal)

-- ---- the whole row

pub opening_is_session : IsSession opening
opening_is_session =
    let octets : AreOctets (replicate 32 0) = All-replicate (λ octet. octet < 256) 32 0 (lit< tt) in
    search rules

pub row_none : (window : ℕ) (session : List ℕ) (replies : Replies) (outbox : OutboxState) → session ≡ form_of opening → KeepsLast window [] replies → Holds outbox (λ _. []) (record { down = 0; gateway = 0; subscriber = 0 }) → IsRow window [] session replies None outbox
row_none window session replies outbox octets kept h = record { range = opening_is_session; octets = octets; answered = kept; waits = refl; lanes = lanes_none outbox h }

-- the row with one more entry
pub row_more : (window : ℕ) (journal later : List Entry) (octets session : List ℕ) (before replies : Replies) (added : List Reply) (call awaited : Option (Lane × ℕ)) (was now : OutboxState) (entry : Entry) → IsRow window journal octets before call was → IsSession entry.step.session → later ≡ journal ++ entry ∷ [] → session ≡ form_of entry.step.session → added ≡ cond (is_message entry.input) (reply_to (before.taken + 1) (length journal + 1) entry ∷ []) [] → KeepsLast window (replies_of journal ++ added) replies → awaited ≡ awaited_behind journal entry.step.effects → Holds now (with_effects (lanes_of journal) entry.step.effects) (settled_of was) → IsRow window later session replies awaited now
row_more window journal later octets session before replies added call awaited was now entry row range longer written reply kept waits held = rw longer (record {
  range = subst IsSession (sym (session_more journal entry)) range;
  octets = written ∙ ap form_of (sym (session_more journal entry));
  answered = answered_more window before.taken journal entry added replies (taken_is window journal before row.answered) reply kept;
  waits = waits ∙ sym (awaited_more journal entry);
  lanes = lanes_more now journal entry (settled_of was) held;
})

abbrev pub seen : List Entry → LaneNumbers → RowState
seen journal settled = record { journal = journal; settled = settled }

-- the row as it is seen, where the outbox holds the same lanes with other settled numbers
pub seen_settled : (journal : List Entry) (lanes : Lane → List Effect) (now : OutboxState) (settled : LaneNumbers) → Holds now lanes settled → seen journal (settled_of now) ≡ seen journal settled
seen_settled journal lanes now settled h = ap (seen journal) (held_settled now lanes settled h)

pub seen_more : (journal later : List Entry) (was now : OutboxState) (entry : Entry) (row : RowState) → seen journal (settled_of was) ≡ row → later ≡ journal ++ entry ∷ [] → Holds now (with_effects (lanes_of journal) entry.step.effects) (settled_of was) → seen later (settled_of now) ≡ record row { journal = row.journal ++ entry ∷ [] }
seen_more journal later was now entry row is longer held =
    seen_settled later (with_effects (lanes_of journal) entry.step.effects) now (settled_of was) held
    ∙ ap (λ j. seen j (settled_of was)) longer
    ∙ ap (λ (r : RowState). record r { journal = r.journal ++ entry ∷ [] }) is
