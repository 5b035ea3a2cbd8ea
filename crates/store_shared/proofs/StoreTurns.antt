-- The rows of a shard of the store behind a turn more.
use Rattle.std.proofs.Common.{◌≡◌, ℕ, zero, suc, ◌+◌, ◌==◌, Bool, true, false, cond, ⊎_elim, List, [], ◌∷◌, ◌++◌, length, Some, refl, sym, ap, ◌∙◌, subst, arith, length-append, eqb-true, eq-eqb, ne_eqb}
use Rattle.std.specs.Prelude.{slice_get}
use Rattle.std.proofs.lemmas.Bool.{cases_eq}
use Rattle.std.proofs.lemmas.Option.{slice_get_within}
use Rattle.device_types.specs.declared.step.Entry.{Entry}
use Rattle.device_types.specs.declared.subscriber.DeviceId.{DeviceId}
use Rattle.device_types.specs.Journal.{version_of}
use Rattle.session_row.specs.declared.commit.Commit.{Commit}
use Rattle.session_row.specs.declared.commit.Commit.TheVariants.{Committed, Stale}
use Rattle.session_row.specs.Row.{RowState, Commits}
use Rattle.session_store.specs.Law.{IsLawful}
use Rattle.session_store.specs.Rows.{opening_row}
use Rattle.session_store.specs.Shards as shard
use Rattle.session_store.specs.Shards.{shard_of, ShardState, AreLawfulHere}
use Rattle.session_store.proofs.Shards.{in_other}
use Rattle.store_shared.specs.declared.turn.Turn.{Turn}
use Rattle.store_shared.specs.declared.turn.TurnCall.TheVariants as calls
use Rattle.store_shared.specs.declared.turn.TurnAnswer.TheVariants as answers
use Rattle.store_shared.specs.Legal.{row_after, row_from, row_in, journal_in, commit_of, IsBehind, TellsCount, AreLawfulIn}
use Rattle.store_shared.specs.StoreShards.{AreRowsOf, IsStoreShard, turn_by}
use Rattle.store_shared.specs.Stays.{row_next}

-- ---- the rows of a shard

next_here : (b : Bool) (row after : RowState) → b ≡ true → cond b after row ≡ after
next_here true row after e = refl
next_here false row after e = absurd (cc)

next_else : (b : Bool) (row after : RowState) → b ≡ false → cond b after row ≡ row
next_else true row after e = absurd (cc)
next_else false row after e = refl

next_same : (b : Bool) (row after : RowState) → after ≡ row → cond b after row ≡ row
next_same true row after e = e
next_same false row after e = refl

-- a turn whose row is put in place of the device's
pub rows_more : (old : ShardState) (row : RowState) (h : List Turn) (x : Turn) → AreRowsOf old h → shard.row_in (shard.with_row old.rows x.device.0 row) x.device.0 ≡ row_after (shard.row_in old.rows x.device.0) x.call x.answer → AreRowsOf (record old { rows = shard.with_row old.rows x.device.0 row }) (h ++ x ∷ [])
rows_more old row h x are put d here =
    let n = x.device.0 in
    let rows = shard.with_row old.rows n row in
    ⊎_elim
    (λ (e : n ≡ d).
    let now : shard.row_in rows d ≡ row_after (shard.row_in old.rows d) x.call x.answer = subst (λ (m : ℕ). shard.row_in rows m ≡ row_after (shard.row_in old.rows m) x.call x.answer) e put in
    now ∙ ap (λ (r : RowState). row_after r x.call x.answer) (are d here) ∙ sym (row_next d h x ∙ next_here (n == d) (row_in d h) (row_after (row_in d h) x.call x.answer) (eq-eqb n d e)))
    (λ (ne : n ≡ d → ⊥).
    in_other old.rows n d row ne ∙ are d here ∙ sym (row_next d h x ∙ next_else (n == d) (row_in d h) (row_after (row_in d h) x.call x.answer) (ne_eqb n d ne)))
    (cases_eq n d)

-- a turn that changes no row
pub rows_same : (state : ShardState) (h : List Turn) (x : Turn) → AreRowsOf state h → ((row : RowState) → row_after row x.call x.answer ≡ row) → AreRowsOf state (h ++ x ∷ [])
rows_same state h x are same d here =
    are d here ∙ sym (row_next d h x ∙ next_same (x.device.0 == d) (row_in d h) (row_after (row_in d h) x.call x.answer) (same (row_in d h)))

-- a device that lies elsewhere has no turn
untouched : (row : RowState) (d number : ℕ) (h : List Turn) → ((i : ℕ) (t : Turn) → slice_get h i ≡ Some t → shard_of t.device.0 ≡ number) → (shard_of d ≡ number → ⊥) → row_from row d h ≡ row
untouched row d number [] here ne = refl
untouched row d number (t ∷ ts) here ne =
    let apart : t.device.0 ≡ d → ⊥ = λ e. ne (ap (λ (n : ℕ). shard_of n) (sym e) ∙ here zero t refl) in
    ap (λ (r : RowState). row_from r d ts) (next_else (t.device.0 == d) row (row_after row t.call t.answer) (ne_eqb t.device.0 d apart))
    ∙ untouched row d number ts (λ i u got. here (suc i) u got) ne

-- ---- a write

pub commit_is : (old new : RowState) (read : ℕ) (entry : Entry) (commit : Commit) → Commits old new read entry commit → commit_of (version_of old.journal) read ≡ commit
commit_is old new read entry (Committed version) c = rw (eq-eqb read (version_of old.journal) c.0) (ap (λ n. Committed n) (sym c.1))
commit_is old new read entry (Stale asked current) c = rw (ne_eqb read (version_of old.journal) c.0) (cc (c.1, c.2))

pub commit_row : (old new : RowState) (read : ℕ) (entry : Entry) (commit : Commit) → Commits old new read entry commit → row_after old (calls.Commit read entry) (answers.Commit commit) ≡ new
commit_row old new read entry (Committed version) c = sym c.2
commit_row old new read entry (Stale asked current) c = sym c.3

-- what a write tells of the history behind it
made_at : (b : Bool) (read n version : ℕ) → (read == n) ≡ b → Committed version ≡ cond b (Committed (read + 1)) (Stale read n) → read ≡ n
made_at true read n version e is = eqb-true read n e
made_at false read n version e is = absurd (cc)

stale_at : (b : Bool) (read n asked current : ℕ) → Stale asked current ≡ cond b (Committed (read + 1)) (Stale read n) → current ≡ n
stale_at true read n asked current is = absurd (cc)
stale_at false read n asked current is = cc is

pub tells : (d : DeviceId) (seat read : ℕ) (entry : Entry) (h : List Turn) (commit : Commit) → commit ≡ commit_of (length (journal_in d.0 h)) read → IsBehind read commit → TellsCount d.0 read (h ++ turn_by seat d (calls.Commit read entry) (answers.Commit commit) ∷ []) commit
tells d seat read entry h (Committed version) is behind =
    let x = turn_by seat d (calls.Commit read entry) (answers.Commit (Committed version)) in
    let row = row_in d.0 h in
    let same : read ≡ length row.journal = made_at (read == length row.journal) read (length row.journal) version refl is in
    let after = row_next d.0 h x ∙ next_here (d.0 == d.0) row (row_after row x.call x.answer) (eq-eqb d.0 d.0 refl) in
    (behind, ap (λ (r : RowState). length r.journal) after ∙ (length-append row.journal (entry ∷ []) ∙ (ap (λ n. n + 1) (sym same) ∙ sym behind)))
tells d seat read entry h (Stale asked current) is behind =
    let x = turn_by seat d (calls.Commit read entry) (answers.Commit (Stale asked current)) in
    let row = row_in d.0 h in
    let same : current ≡ length row.journal = stale_at (read == length row.journal) read (length row.journal) asked current is in
    let after = row_next d.0 h x ∙ next_same (d.0 == d.0) row (row_after row x.call x.answer) refl in
    (behind.0, ap (λ (r : RowState). length r.journal) after ∙ sym same, behind.1)

-- ---- lawful

-- where the rows of a shard are lawful, the journals of its history are
pub lawful_in : (follows : ℕ → List Entry → Entry → Type 0) (state : ShardState) (h : List Turn) → IsStoreShard state h → AreLawfulHere follows state → AreLawfulIn follows state.devices h
lawful_in follows state h k law d within = ⊎_elim here elsewhere (cases_eq (shard_of d) state.number)
  where
    here : shard_of d ≡ state.number → IsLawful (follows d) (journal_in d h)
    here e = subst (λ (r : RowState). IsLawful (follows d) r.journal) (k.rows d (within, e)) (law d (within, e))

    elsewhere : (shard_of d ≡ state.number → ⊥) → IsLawful (follows d) (journal_in d h)
    elsewhere ne =
        let none : row_in d h ≡ opening_row = untouched opening_row d state.number h (λ i t got. (k.legal i t got).here) ne in
        subst (λ (r : RowState). IsLawful (follows d) r.journal) (sym none) (λ v entry got. absurd (omega (arith, slice_get_within [] v entry got)))
