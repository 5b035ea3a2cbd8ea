-- The log of rows that a law allows.
use Rattle.std.proofs.Common.{◌≡◌, ◌<◌, ◌↔◌, ℕ, zero, suc, List, [], ◌∷◌, length, take, Option, Some, None, refl, sym, ◌∙◌, subst, arith}
use Rattle.std.specs.Prelude.{slice_get}
use Rattle.std.proofs.lemmas.List.{length-take-le}
use Rattle.std.proofs.lemmas.Option.{same_Some, slice_get_within}
use Rattle.device_types.specs.declared.step.Entry.{Entry}
use Rattle.disk_log.specs.Record.{LogRecord}
use Rattle.session_row.specs.Row.{RowState}
use Rattle.session_store.specs.Law.{IsLawful}
use Rattle.session_store.specs.Rows.{IsDevice, journal_of, AreLawful}
use Rattle.session_store.proofs.Journals.{lawful_front}
use Rattle.session_disk.specs.Fits.{Entries, AllFit, AreRowsOf, entries_in, IsLogOf}
use Rattle.session_disk.proofs.Logs.{all_fit_too}
use Rattle.session_disk.proofs.Replays.{past_end}

-- lists that have the same at each place
same_lists : (xs ys : List Entry) → length xs ≡ length ys → ((v : ℕ) → v < length xs → slice_get xs v ≡ slice_get ys v) → xs ≡ ys
same_lists [] [] count each = refl
same_lists [] (y ∷ ys) count each = absurd (omega (arith, count))
same_lists (x ∷ xs) [] count each = absurd (omega (arith, count))
same_lists (x ∷ xs) (y ∷ ys) count each =
    let first : x ≡ y = same_Some x y (each zero (omega arith)) in
    let others : xs ≡ ys = same_lists xs ys (omega (arith, count)) (λ v below. each (suc v) (omega (arith, below))) in
    (λ i. first i ∷ others i)

module _ (follows : ℕ → List Entry → Entry → Type 0) (made : Entries) (only : (d : ℕ) (journal : List Entry) (entry : Entry) → IsLawful (follows d) journal → (follows d journal entry ↔ (made d (length journal) ≡ Some entry))) (rows : List RowState) (records : List LogRecord) (lawful : AreLawful follows rows) (log : IsLogOf rows records) where
  -- the entries of their journals are those that are made
  as_made : (d v : ℕ) (entry : Entry) → IsDevice (length rows) d → entries_in rows d v ≡ Some entry → made d v ≡ Some entry
  as_made d v entry is at =
      let J = journal_of rows d in
      let inside : v < length J = slice_get_within J v entry at in
      let count : length (take v J) ≡ v = length-take-le v J (omega (arith, inside)) in
      subst (λ (n : ℕ). made d n ≡ Some entry) count ((only d (take v J) entry (lawful_front (follows d) J v (lawful d is))).0 (lawful d is v entry at))

  -- so the log fits
  pub fits_made : AllFit (length rows) made records
  fits_made = all_fit_too (length rows) (entries_in rows) made records as_made log.fit

  -- and its rows have these journals
  pub same_journals : (opened : List RowState) → AreRowsOf (length rows) made records opened → (d : ℕ) → IsDevice (length rows) d → journal_of opened d ≡ journal_of rows d
  same_journals opened are d is =
      let firsts = are.journals d is in
      same_lists (journal_of opened d) (journal_of rows d) (firsts.0 ∙ sym (log.all d is)) (λ v below. firsts.1 v (omega (arith, below, firsts.0)) ∙ sym (made_at v (omega (arith, below, firsts.0, log.all d is))))
    where
      made_at : (v : ℕ) → v < length (journal_of rows d) → slice_get (journal_of rows d) v ≡ made d v
      made_at v below = by_entry (slice_get (journal_of rows d) v) refl
        where
          by_entry : (found : Option Entry) → slice_get (journal_of rows d) v ≡ found → slice_get (journal_of rows d) v ≡ made d v
          by_entry None at = absurd (omega (arith, below, past_end (journal_of rows d) v at))
          by_entry (Some entry) at = at ∙ sym (as_made d v entry is at)
