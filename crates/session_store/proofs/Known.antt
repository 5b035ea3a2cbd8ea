-- What a write of the store says of what is known.
use Rattle.std.proofs.Common.{◌≡◌, ℕ, ◌-◌, ⊎_elim, List, [], ◌∷◌, ◌++◌, length, set, Some, sym, ap, ◌∙◌, subst, arith, append-nil, length-append, get_or-set_other}
use Rattle.std.specs.Prelude.{IfOk, OnErr, Result, Ok, Err, slice_get, slice_index_or}
use Rattle.std.proofs.lemmas.Bool.{cases_eq}
use Rattle.device_types.specs.declared.no_room.NoRoom.{NoRoom}
use Rattle.device_types.specs.declared.step.Entry.{Entry}
use Rattle.device_types.proofs.Journals.{last_more}
use Rattle.session_row.specs.declared.commit.Commit.{Commit}
use Rattle.session_row.specs.declared.commit.Commit.TheVariants.{Committed, Stale}
use Rattle.session_row.specs.Row.{RowState, Commits}
use Rattle.session_store.specs.Rows.{StoreState, opening_row, row_of, journal_of, Begins, IsKnownAfter}

as_before : (old new : List Entry) → new ≡ old → Begins old new
as_before old new e = ([], e ∙ sym (append-nil old))

row_extends : (old new : RowState) (read : ℕ) (entry : Entry) (result : Result Commit (NoRoom Entry)) → IfOk result (Commits old new read entry) → OnErr result (new ≡ old) → Begins old.journal new.journal
row_extends old new read entry (Ok (Committed version)) ok err = (entry ∷ [], ap (λ (row : RowState). row.journal) ok.2)
row_extends old new read entry (Ok (Stale asked current)) ok err = as_before old.journal new.journal (ap (λ (row : RowState). row.journal) ok.3)
row_extends old new read entry (Err room) ok err = as_before old.journal new.journal (ap (λ (row : RowState). row.journal) err)

of_device : (old new : StoreState) (d : ℕ) (result : Result Commit (NoRoom Entry)) → OnErr result (new ≡ old) → OnErr result (row_of new.rows d ≡ row_of old.rows d)
of_device old new d (Ok commit) err = err
of_device old new d (Err room) err = ap (λ (store : StoreState). row_of store.rows d) err

pub commit_extends : (old new : StoreState) (d read : ℕ) (entry : Entry) (result : Result Commit (NoRoom Entry)) → IfOk result (Commits (row_of old.rows d) (row_of new.rows d) read entry) → OnErr result (new ≡ old) → new ≡ record old { rows = set old.rows (d - 1) (row_of new.rows d) } → (i : ℕ) → Begins (journal_of old.rows i) (journal_of new.rows i)
commit_extends old new d read entry result ok err others i =
    let row = row_of new.rows d in
    ⊎_elim
    (λ (e : i - 1 ≡ d - 1).
    subst (λ (n : ℕ). Begins (slice_index_or old.rows n opening_row).journal (slice_index_or new.rows n opening_row).journal) (sym e) (row_extends (row_of old.rows d) row read entry result ok (of_device old new d result err)))
    (λ (ne : i - 1 ≡ d - 1 → ⊥).
    as_before (journal_of old.rows i) (journal_of new.rows i)
    (ap (λ (store : StoreState). journal_of store.rows i) others ∙ ap (λ (r : RowState). r.journal) (get_or-set_other old.rows (d - 1) (i - 1) row opening_row ne)))
    (cases_eq (i - 1) (d - 1))

pub known_after : (old new : RowState) (read : ℕ) (entry : Entry) (result : Result Commit (NoRoom Entry)) → IfOk result (Commits old new read entry) → IfOk result (IsKnownAfter new.journal read entry)
known_after old new read entry (Ok (Committed version)) ok =
    let count : length (old.journal ++ entry ∷ []) ≡ version = length-append old.journal (entry ∷ []) ∙ omega (arith, ok.0, ok.1) in
    let last : slice_get (old.journal ++ entry ∷ []) read ≡ Some entry = ap (slice_get (old.journal ++ entry ∷ [])) ok.0 ∙ last_more old.journal entry in
    rw ok.2 (ok.1, count, last)
known_after old new read entry (Ok (Stale asked current)) ok = rw ok.3 (ok.1, sym ok.2, λ e. ok.0 (sym e ∙ ok.2))
known_after old new read entry (Err room) ok = tt
