-- What each call makes of a shard of the store.
use Rattle.std.proofs.Common.{◌≡◌, ℕ, ◌≤◌, List, [], ◌∷◌, ◌++◌, length, Option, Some, refl, sym, ap, ◌∙◌, subst, arith}
use Rattle.device_types.specs.declared.effect.Effect.{Effect}
use Rattle.device_types.specs.declared.event.Lane.{Lane}
use Rattle.device_types.specs.declared.step.Entry.{Entry}
use Rattle.device_types.specs.declared.subscriber.DeviceId.{DeviceId}
use Rattle.device_types.specs.Journal.{version_of}
use Rattle.effect_outbox.specs.declared.settled.Settled.{Settled}
use Rattle.effect_outbox.specs.Outbox.{number_on, settled_by}
use Rattle.session_row.specs.declared.commit.Commit.{Commit}
use Rattle.session_row.specs.declared.commit.Commit.TheVariants.{Committed, Stale}
use Rattle.session_row.specs.Row.{RowState, Commits}
use Rattle.session_store.specs.declared.asked.Asked.{Asked}
use Rattle.session_store.specs.declared.asked.Peeked.{Peeked}
use Rattle.session_store.specs.declared.asked.Seen.{Seen}
use Rattle.session_store.specs.Rows.{unsettled_effect, with_settled}
use Rattle.session_store.specs.Seen.{seen_of, peeked_of}
use Rattle.session_store.specs.Shards as shard
use Rattle.session_store.specs.Shards.{ShardState, IsHere, IsOpening}
use Rattle.store_shared.specs.declared.turn.Turn.{Turn}
use Rattle.store_shared.specs.declared.turn.TurnCall.TheVariants as calls
use Rattle.store_shared.specs.declared.turn.TurnAnswer.TheVariants as answers
use Rattle.store_shared.specs.Legal.{row_after, row_in, journal_in, commit_of, row_says, IsTurn, store_says, IsBehind}
use Rattle.store_shared.specs.StoreShards.{IsStoreShard, turn_by}
use Rattle.store_shared.proofs.Histories.{legal_none, legal_more}
use Rattle.store_shared.proofs.StoreTurns.{rows_more, rows_same, commit_is, commit_row}

-- a shard with a turn more, and that turn
pub record HasTurn (old new : ShardState) (h : List Turn) (x : Turn) : Type 0 where
  pub kept : IsStoreShard new (h ++ x ∷ [])
  pub legal : IsTurn store_says old.number old.devices h x

-- ---- a call that changes nothing

looks : (s : ShardState) (h : List Turn) (x : Turn) → IsStoreShard s h → IsHere s x.device.0 → ((row : RowState) → row_after row x.call x.answer ≡ row) → row_says (row_in x.device.0 h) x.call ≡ Some x.answer → HasTurn s s h x
looks s h x k here same says =
    let turn : IsTurn store_says s.number s.devices h x = record { device = here.0; here = here.1; answer = says } in record {
      kept = record { rows = rows_same s h x k.rows same; legal = legal_more store_says s.number s.devices h x k.legal turn };
      legal = turn;
    }

pub reads : (s : ShardState) (h : List Turn) (seat : ℕ) (d : DeviceId) (asked : Asked) (seen : Seen) → IsStoreShard s h → IsHere s d.0 → seen ≡ seen_of (shard.journal_in s.rows d.0) asked → HasTurn s s h (turn_by seat d (calls.Read asked) (answers.Read seen))
reads s h seat d asked seen k here is =
    looks s h (turn_by seat d (calls.Read asked) (answers.Read seen)) k here (λ row. refl)
    (ap (λ a. Some (answers.Read a)) (ap (λ (r : RowState). seen_of r.journal asked) (sym (k.rows d.0 here)) ∙ sym is))

pub peeks : (s : ShardState) (h : List Turn) (seat : ℕ) (d : DeviceId) (asked : Asked) (peeked : Peeked) → IsStoreShard s h → IsHere s d.0 → peeked ≡ peeked_of (shard.journal_in s.rows d.0) asked → HasTurn s s h (turn_by seat d (calls.Peek asked) (answers.Peek peeked))
peeks s h seat d asked peeked k here is =
    looks s h (turn_by seat d (calls.Peek asked) (answers.Peek peeked)) k here (λ row. refl)
    (ap (λ a. Some (answers.Peek a)) (ap (λ (r : RowState). peeked_of r.journal asked) (sym (k.rows d.0 here)) ∙ sym is))

pub pushes : (s : ShardState) (h : List Turn) (seat : ℕ) (d : DeviceId) (l : Lane) (n : ℕ) (effect : Option Effect) → IsStoreShard s h → IsHere s d.0 → effect ≡ unsettled_effect (shard.row_in s.rows d.0) l n → HasTurn s s h (turn_by seat d (calls.Push l n) (answers.Push effect))
pushes s h seat d l n effect k here is =
    looks s h (turn_by seat d (calls.Push l n) (answers.Push effect)) k here (λ row. refl)
    (ap (λ a. Some (answers.Push a)) (ap (λ (r : RowState). unsettled_effect r l n) (sym (k.rows d.0 here)) ∙ sym is))

-- ---- a call that changes the row

changes : (old : ShardState) (row : RowState) (h : List Turn) (x : Turn) → IsStoreShard old h → IsHere old x.device.0 → shard.row_in (shard.with_row old.rows x.device.0 row) x.device.0 ≡ row_after (shard.row_in old.rows x.device.0) x.call x.answer → row_says (row_in x.device.0 h) x.call ≡ Some x.answer → HasTurn old (record old { rows = shard.with_row old.rows x.device.0 row }) h x
changes old row h x k here put says =
    let turn : IsTurn store_says old.number old.devices h x = record { device = here.0; here = here.1; answer = says } in record {
      kept = record { rows = rows_more old row h x k.rows put; legal = legal_more store_says old.number old.devices h x k.legal turn };
      legal = turn;
    }

pub settles : (old new : ShardState) (h : List Turn) (seat : ℕ) (d : DeviceId) (l : Lane) (n : ℕ) (settled : Settled) → IsStoreShard old h → IsHere old d.0 → shard.row_in new.rows d.0 ≡ with_settled (shard.row_in old.rows d.0) l n → new ≡ record old { rows = shard.with_row old.rows d.0 (with_settled (shard.row_in old.rows d.0) l n) } → settled ≡ settled_by (number_on (shard.row_in old.rows d.0).settled l) n → HasTurn old new h (turn_by seat d (calls.Settle l n) (answers.Settle settled))
settles old new h seat d l n settled k here row state is =
    let x = turn_by seat d (calls.Settle l n) (answers.Settle settled) in
    subst (λ (s : ShardState). HasTurn old s h x) (sym state)
    (changes old (with_settled (shard.row_in old.rows d.0) l n) h x k here
    (ap (λ (s : ShardState). shard.row_in s.rows d.0) (sym state) ∙ row)
    (ap (λ a. Some (answers.Settle a)) (ap (λ (r : RowState). settled_by (number_on r.settled l) n) (sym (k.rows d.0 here)) ∙ sym is)))

pub commits : (old new : ShardState) (h : List Turn) (seat : ℕ) (d : DeviceId) (read : ℕ) (entry : Entry) (commit : Commit) → IsStoreShard old h → IsHere old d.0 → Commits (shard.row_in old.rows d.0) (shard.row_in new.rows d.0) read entry commit → new ≡ record old { rows = shard.with_row old.rows d.0 (shard.row_in new.rows d.0) } → HasTurn old new h (turn_by seat d (calls.Commit read entry) (answers.Commit commit))
commits old new h seat d read entry commit k here wrote state =
    let x = turn_by seat d (calls.Commit read entry) (answers.Commit commit) in
    subst (λ (s : ShardState). HasTurn old s h x) (sym state)
    (changes old (shard.row_in new.rows d.0) h x k here
    (ap (λ (s : ShardState). shard.row_in s.rows d.0) (sym state) ∙ sym (commit_row (shard.row_in old.rows d.0) (shard.row_in new.rows d.0) read entry commit wrote))
    (ap (λ a. Some (answers.Commit a)) (ap (λ (r : RowState). commit_of (version_of r.journal) read) (sym (k.rows d.0 here)) ∙ commit_is (shard.row_in old.rows d.0) (shard.row_in new.rows d.0) read entry commit wrote)))

-- what a write answers, by the history
pub commit_value : (old new : ShardState) (h : List Turn) (d read : ℕ) (entry : Entry) (commit : Commit) → IsStoreShard old h → IsHere old d → Commits (shard.row_in old.rows d) (shard.row_in new.rows d) read entry commit → commit ≡ commit_of (length (journal_in d h)) read
commit_value old new h d read entry commit k here wrote =
    sym (ap (λ (r : RowState). commit_of (version_of r.journal) read) (sym (k.rows d here)) ∙ commit_is (shard.row_in old.rows d) (shard.row_in new.rows d) read entry commit wrote)

-- a stale write was of an older version
pub commit_behind : (old new : ShardState) (h : List Turn) (d read : ℕ) (entry : Entry) (commit : Commit) → IsStoreShard old h → IsHere old d → Commits (shard.row_in old.rows d) (shard.row_in new.rows d) read entry commit → read ≤ length (journal_in d h) → IsBehind read commit
commit_behind old new h d read entry commit k here wrote low = by_commit commit wrote
  where
    count : length (shard.journal_in old.rows d) ≡ length (journal_in d h)
    count = ap (λ (r : RowState). length r.journal) (k.rows d here)

    by_commit : (c : Commit) → Commits (shard.row_in old.rows d) (shard.row_in new.rows d) read entry c → IsBehind read c
    by_commit (Committed version) w = w.1
    by_commit (Stale asked current) w = (w.1, let ne = w.0 in let same = w.2 in let e = count in omega arith)

-- ---- the shard with its turns

-- a shard without turns
pub begins : (s : ShardState) (turns : List Turn) → IsOpening s → turns ≡ [] → IsStoreShard s turns
begins s turns opening none = subst (IsStoreShard s) (sym none) (record { rows = opening; legal = legal_none store_says s.number s.devices })

-- the turn as it was pushed
pub with_items : (h mid items : List Turn) (x y : Turn) → items ≡ mid ++ y ∷ [] → mid ≡ h → y ≡ x → items ≡ h ++ x ∷ []
with_items h mid items x y pushed same is = pushed ∙ (ap (λ m. m ++ y ∷ []) same ∙ ap (λ z. h ++ z ∷ []) is)

pub kept_with : (old new : ShardState) (h mid items : List Turn) (x y : Turn) → HasTurn old new h x → items ≡ mid ++ y ∷ [] → mid ≡ h → y ≡ x → IsStoreShard new items
kept_with old new h mid items x y t pushed same is = subst (IsStoreShard new) (sym (with_items h mid items x y pushed same is)) t.kept
