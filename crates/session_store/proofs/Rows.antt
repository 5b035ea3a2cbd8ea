-- Rows that stay lawful, and what a law says of a write.
use Rattle.std.proofs.Common.{◌≡◌, ℕ, ◌-◌, ◌<◌, ⊎_elim, List, length, take, set, sym, ◌∙◌, subst, arith, length-set, get_or-set_same, get_or-set_other}
use Rattle.std.specs.Prelude.{IfOk, OnErr, Result, Ok, Err, slice_index_or}
use Rattle.std.proofs.lemmas.Bool.{cases_eq}
use Rattle.std.proofs.lemmas.List.{take_all, get_or_default}
use Rattle.device_types.specs.declared.no_room.NoRoom.{NoRoom}
use Rattle.device_types.specs.declared.step.Entry.{Entry}
use Rattle.session_row.specs.declared.commit.Commit.{Commit}
use Rattle.session_row.specs.declared.commit.Commit.TheVariants.{Committed, Stale}
use Rattle.session_row.specs.Row.{RowState, Commits}
use Rattle.session_store.specs.Law.{IsLawful, CanFollow}
use Rattle.session_store.specs.Rows.{IsDevice, opening_row, row_of, journal_of, AreLawful}
use Rattle.session_store.proofs.Journals.{lawful_front, lawful_more}

-- the row that is borrowed is that of the device
pub row_is : (rows : List RowState) (d : ℕ) (row : RowState) → IsDevice (length rows) d → row ≡ slice_index_or rows (d - 1) row → row_of rows d ≡ row
row_is rows d row is value = let here : d - 1 < length rows = omega (arith, is.0, is.1) in get_or_default rows (d - 1) opening_row row here ∙ sym value

-- with another lawful journal for one device
pub set_lawful : (follows : ℕ → List Entry → Entry → Type 0) (rows : List RowState) (d : ℕ) (row : RowState) → AreLawful follows rows → IsDevice (length rows) d → IsLawful (follows d) row.journal → AreLawful follows (set rows (d - 1) row)
set_lawful follows rows d row all is lawful = λ i within.
    let here : d - 1 < length rows = omega (arith, is.0, is.1) in
    let least = within.0 in
    ⊎_elim
    (λ (e : i ≡ d).
    subst (λ (j : ℕ). IsLawful (follows j) (journal_of (set rows (d - 1) row) j)) (sym e)
    (subst (λ (r : RowState). IsLawful (follows d) r.journal) (sym (get_or-set_same rows (d - 1) row opening_row here)) lawful))
    (λ (ne : i ≡ d → ⊥).
    let apart : i - 1 ≡ d - 1 → ⊥ = λ e. ne (omega (arith, e, is.0, least)) in
    let count : length (set rows (d - 1) row) ≡ length rows = length-set rows (d - 1) row in
    subst (λ (r : RowState). IsLawful (follows i) r.journal) (sym (get_or-set_other rows (d - 1) (i - 1) row opening_row apart)) (all i (least, omega (arith, within.1, count))))
    (cases_eq i d)

pub commit_lawful : (follows : List Entry → Entry → Type 0) (old new : RowState) (read : ℕ) (entry : Entry) (result : Result Commit (NoRoom Entry)) → IfOk result (Commits old new read entry) → OnErr result (new ≡ old) → IsLawful follows old.journal → follows (take read old.journal) entry → IsLawful follows new.journal
commit_lawful follows old new read entry (Ok (Committed version)) ok err l f =
    let all : take read old.journal ≡ old.journal = take_all read old.journal (omega (arith, ok.0)) in
    rw ok.2 (lawful_more follows old.journal entry l (subst (λ (J : List Entry). follows J entry) all f))
commit_lawful follows old new read entry (Ok (Stale asked current)) ok err l f = rw ok.3 l
commit_lawful follows old new read entry (Err room) ok err l f = rw err l

-- the rows after a write that the law allows
pub rows_stay_lawful : (follows : ℕ → List Entry → Entry → Type 0) (rows : List RowState) (d : ℕ) (old new : RowState) (read : ℕ) (entry : Entry) (result : Result Commit (NoRoom Entry)) → AreLawful follows rows → IsDevice (length rows) d → row_of rows d ≡ old → IfOk result (Commits old new read entry) → OnErr result (new ≡ old) → follows d (take read (journal_of rows d)) entry → AreLawful follows (set rows (d - 1) new)
rows_stay_lawful follows rows d old new read entry result all is row ok err f =
    let was = subst (λ (r : RowState). IsLawful (follows d) r.journal) row (all d is) in
    let may = subst (λ (r : RowState). follows d (take read r.journal) entry) row f in
    set_lawful follows rows d new all is (commit_lawful (follows d) old new read entry result ok err was may)

-- the row takes what the law allows behind the version that was read
pub law_can_follow : (follows : List Entry → Entry → Type 0) (journal : List Entry) (read : ℕ) (entry : Entry) → ((J : List Entry) → IsLawful follows J → follows J entry → CanFollow J entry) → IsLawful follows journal → follows (take read journal) entry → CanFollow (take read journal) entry
law_can_follow follows journal read entry can l f = can (take read journal) (lawful_front follows journal read l) f
