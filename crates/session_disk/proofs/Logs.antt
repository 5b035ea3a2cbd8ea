-- Logs and their rows, with one more record.
use Rattle.std.proofs.Common.{◌≡◌, ◌≤◌, ◌<◌, ℕ, ◌+◌, ◌-◌, ◌*◌, ◌⊎◌, inl, inr, ⊎_elim, eqb, true, false, cond, List, [], ◌∷◌, ◌++◌, length, take, Some, sym, ap, ◌∙◌, subst, arith, length-append, length-set, get_or-set_same, get_or-set_other}
use Rattle.std.specs.Prelude.{slice_get}
use Rattle.std.proofs.lemmas.Bool.{cases_eq, cases_lt, eq-eqb, ne_eqb}
use Rattle.std.proofs.lemmas.List.{take-append-le, take_all}
use Rattle.std.proofs.lemmas.List.Sums.{sum_by_push, sum_by-set}
use Rattle.std.proofs.lemmas.Option.{slice_get_within}
use Rattle.device_types.specs.declared.step.Entry.{Entry}
use Rattle.device_types.proofs.Journals.{last_more, get_before}
use Rattle.disk_log.specs.Record.{LogRecord, size_of}
use Rattle.session_form.specs.Form.{IsFormOf}
use Rattle.session_row.specs.Row.{RowState}
use Rattle.session_store.specs.Rows.{IsDevice, opening_row, row_of, journal_of}
use Rattle.session_store.proofs.Journals.{last_or_before}
use Rattle.session_disk.specs.Fits.{Entries, count_of, Fits, AllFit, entries_in, IsLogOf}
use Rattle.session_disk.specs.Stored.{entry_count, with_entry}
use Rattle.session_disk.proofs.Forms.{forms_few}

-- ---- counts of records

count_more_own : (d : ℕ) (records : List LogRecord) (r : LogRecord) → r.device ≡ d → count_of d (records ++ r ∷ []) ≡ count_of d records + 1
count_more_own d records r own =
    let yes : eqb r.device d ≡ true = eq-eqb _ _ own in
    sum_by_push (λ (q : LogRecord). cond (eqb q.device d) 1 0) records r ∙ ap (λ (b : _). count_of d records + cond b 1 0) yes

count_more_other : (d : ℕ) (records : List LogRecord) (r : LogRecord) → (r.device ≡ d → ⊥) → count_of d (records ++ r ∷ []) ≡ count_of d records
count_more_other d records r other =
    let no : eqb r.device d ≡ false = ne_eqb _ _ other in
    let none : count_of d records + 0 ≡ count_of d records = omega arith in
    sum_by_push (λ (q : LogRecord). cond (eqb q.device d) 1 0) records r ∙ ap (λ (b : _). count_of d records + cond b 1 0) no ∙ none

-- ---- records that fit

-- they fit where there are these entries, and others
pub fits_too : (devices : ℕ) (some more : Entries) (before : List LogRecord) (r : LogRecord) → ((d v : ℕ) (entry : Entry) → IsDevice devices d → some d v ≡ Some entry → more d v ≡ Some entry)
    → Fits devices some before r → Fits devices more before r
fits_too devices some more before r too fits = record {
  device = fits.device;
  version = fits.version;
  entry = fits.entry;
  made = too r.device (count_of r.device before) fits.entry fits.device fits.made;
  session = fits.session;
}

pub all_fit_too : (devices : ℕ) (some more : Entries) (records : List LogRecord) → ((d v : ℕ) (entry : Entry) → IsDevice devices d → some d v ≡ Some entry → more d v ≡ Some entry)
    → AllFit devices some records → AllFit devices more records
all_fit_too devices some more records too all n r at = fits_too devices some more (take n records) r too (all n r at)

-- one more that fits
all_fit_more : (devices : ℕ) (entries : Entries) (records : List LogRecord) (r : LogRecord) → AllFit devices entries records → Fits devices entries records r → AllFit devices entries (records ++ r ∷ [])
all_fit_more devices entries records r all fits n q at =
    let found = last_or_before records r q n at in
    ⊎_elim
    (λ (before : n < length records).
    subst (λ (l : List LogRecord). Fits devices entries l q) (sym (take-append-le n records (r ∷ []) (omega (arith, before)))) (all n q (found.0 before)))
    (λ (past : length records ≤ n).
    let last = found.1 past in
    let whole : take n (records ++ r ∷ []) ≡ records = take-append-le n records (r ∷ []) (omega (arith, last.0)) ∙ take_all n records past in
    subst (λ (l : List LogRecord). Fits devices entries l q) (sym whole) (subst (λ (s : LogRecord). Fits devices entries records s) last.1 fits))
    (cases_lt n (length records))

-- ---- rows with one more entry

module _ (rows : List RowState) (d : ℕ) (entry : Entry) (is : IsDevice (length rows) d) where
  abbrev later : List RowState
  later = with_entry rows d entry

  abbrev grown : RowState
  grown = record (row_of rows d) { journal = journal_of rows d ++ entry ∷ [] }

  pub same_count : length later ≡ length rows
  same_count = length-set rows (d - 1) grown

  pub own_row : row_of later d ≡ grown
  own_row = get_or-set_same rows (d - 1) grown opening_row (omega (arith, is.0, is.1))

  pub own_journal : journal_of later d ≡ journal_of rows d ++ entry ∷ []
  own_journal = ap (λ (row : RowState). row.journal) own_row

  pub other_row : (i : ℕ) → IsDevice (length rows) i → (i ≡ d → ⊥) → row_of later i ≡ row_of rows i
  other_row i within other =
      let apart : i - 1 ≡ d - 1 → ⊥ = λ e. other (omega (arith, e, is.0, within.0)) in
      get_or-set_other rows (d - 1) (i - 1) grown opening_row apart

  -- no entry went
  pub still_there : (i v : ℕ) (e : Entry) → IsDevice (length rows) i → entries_in rows i v ≡ Some e → entries_in later i v ≡ Some e
  still_there i v e within at = by_device (cases_eq i d)
    where
      by_device : (i ≡ d) ⊎ (i ≡ d → ⊥) → entries_in later i v ≡ Some e
      by_device (inr other) = ap (λ (row : RowState). slice_get row.journal v) (other_row i within other) ∙ at
      by_device (inl own) =
          let here : slice_get (journal_of rows d) v ≡ Some e = subst (λ (j : ℕ). entries_in rows j v ≡ Some e) own at in
          let inside : v < length (journal_of rows d) = slice_get_within (journal_of rows d) v e here in
          subst (λ (j : ℕ). entries_in later j v ≡ Some e) (sym own) (ap (λ (J : List Entry). slice_get J v) own_journal ∙ get_before (journal_of rows d) (entry ∷ []) v inside ∙ here)

  pub one_entry_more : entry_count later ≡ entry_count rows + 1
  one_entry_more =
      let was = sum_by-set (λ (row : RowState). length row.journal) rows (d - 1) grown opening_row (omega (arith, is.0, is.1)) in
      omega (arith, was, length-append (journal_of rows d) (entry ∷ []))

  -- the log has its record
  pub log_more : (records : List LogRecord) (r : LogRecord) → IsLogOf rows records → r.device ≡ d → r.version ≡ length (journal_of rows d) + 1 → IsFormOf r.session entry.step.session → IsLogOf later (records ++ r ∷ [])
  log_more records r log own version session =
      let counted : length (journal_of rows d) ≡ count_of d records = log.all d is in
      let before : AllFit (length later) (entries_in later) records =
      subst (λ (n : ℕ). AllFit n (entries_in later) records) (sym same_count) (all_fit_too (length rows) (entries_in rows) (entries_in later) records still_there log.fit) in
      let last : entries_in later d (length (journal_of rows d)) ≡ Some entry = ap (λ (J : List Entry). slice_get J (length (journal_of rows d))) own_journal ∙ last_more (journal_of rows d) entry in
      let made : entries_in later r.device (count_of r.device records) ≡ Some entry =
      ap (λ (j : ℕ). entries_in later j (count_of j records)) own ∙ ap (entries_in later d) (sym counted) ∙ last in
      let fits : Fits (length later) (entries_in later) records r = record {
        device = subst (λ (n : ℕ). IsDevice n r.device) (sym same_count) (subst (IsDevice (length rows)) (sym own) is);
        version = version ∙ ap (λ (n : ℕ). n + 1) (counted ∙ ap (λ (j : ℕ). count_of j records) (sym own));
        entry = entry;
        made = made;
        session = session;
      } in
      record {
        fit = all_fit_more (length later) (entries_in later) records r before fits;
        all = λ i within. by_device i (omega (arith, within.0), omega (arith, within.1, same_count)) (cases_eq i d);
      }
    where
      by_device : (i : ℕ) → IsDevice (length rows) i → (i ≡ d) ⊎ (i ≡ d → ⊥) → length (journal_of later i) ≡ count_of i (records ++ r ∷ [])
      by_device i within (inl same) =
          subst (λ (j : ℕ). length (journal_of later j) ≡ count_of j (records ++ r ∷ [])) (sym same)
          (omega (arith, ap length own_journal, length-append (journal_of rows d) (entry ∷ []), log.all d is, count_more_own d records r own))
      by_device i within (inr other) =
          ap (λ (row : RowState). length row.journal) (other_row i within other) ∙ log.all i within ∙ sym (count_more_other i records r (λ e. other (sym e ∙ own)))

  -- and its octets are few
  pub few_more : (place : ℕ) (r : LogRecord) → IsFormOf r.session entry.step.session → place ≤ 256 * entry_count rows → place + (1 + size_of r) ≤ 256 * entry_count later
  few_more place r session few = omega (arith, few, one_entry_more, forms_few r.session entry.step.session session)
