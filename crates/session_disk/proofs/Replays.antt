-- The rows of a log, a record at a time.
use Rattle.std.proofs.Common.{◌≡◌, ◌≤◌, ◌<◌, ℕ, zero, suc, ◌+◌, ◌-◌, ◌⊎◌, inl, inr, ⊎_elim, List, [], ◌∷◌, ◌++◌, length, take, drop, replicate, Option, Some, None, refl, sym, ap, ◌∙◌, subst, arith, length-drop, append-nil, append_assoc}
use Rattle.std.specs.Prelude.{slice_get, slice_index_or}
use Rattle.std.proofs.lemmas.Bool.{cases_eq, cases_lt}
use Rattle.std.proofs.lemmas.List.{drop-drop, drop_more, length-replicate}
use Rattle.std.proofs.lemmas.Option.{slice_get-get_or}
use Rattle.device_types.specs.declared.step.Entry.{Entry}
use Rattle.disk_log.specs.Record.{LogRecord, size_of, first_record}
use Rattle.disk_log.specs.Log.{log_of, gate_behind, EndsAt}
use Rattle.disk_log.proofs.Heads.{found_within}
use Rattle.disk_log.proofs.Logs.{closed, torn, one_more, gate_behind_more}
use Rattle.session_row.specs.Row.{RowState}
use Rattle.session_store.specs.Rows.{IsDevice, opening_row, row_of, journal_of, AreLawful}
use Rattle.session_store.proofs.Journals.{last_or_before}
use Rattle.session_disk.specs.Fits.{Entries, count_of, Fits, AllFit, AreRowsOf, entries_in, IsLogOf, IsForeign, none_settled}
use Rattle.session_disk.specs.Replay.{IsNext, Takes, IsReplayed}
use Rattle.session_disk.specs.Stored.{with_entry}
use Rattle.session_disk.proofs.Logs.{all_fit_too, same_count, own_row, own_journal, other_row, log_more, few_more}

-- ---- no record yet

row_of_none : (n i : ℕ) → slice_index_or (replicate n opening_row) i opening_row ≡ opening_row
row_of_none zero i = refl
row_of_none (suc n) zero = refl
row_of_none (suc n) (suc i) = row_of_none n i

pub begun : (devices : ℕ) (entries : Entries) (octets : List ℕ) (rows : List RowState) → 1 ≤ length octets → rows ≡ replicate devices opening_row → IsReplayed devices entries octets 0 rows
begun devices entries octets rows one is = rw is (record {
  before = [];
  parts = refl;
  place = refl;
  inside = omega (arith, one);
  log = record { fit = λ n r at. absurd (cc); all = λ d within. ap (λ (row : RowState). length row.journal) (row_of_none devices (d - 1)) };
  count = length-replicate devices opening_row;
  made = λ d v entry within at. nothing d v entry (ap (λ (row : RowState). slice_get row.journal v) (sym (row_of_none devices (d - 1))) ∙ at);
  unsettled = λ d within. ap (λ (row : RowState). row.settled) (row_of_none devices (d - 1));
  few = omega arith;
})
  where
    nothing : (d v : ℕ) (entry : Entry) → slice_get [] v ≡ Some entry → entries d v ≡ Some entry
    nothing d v entry at = absurd (cc)

pub none_lawful : (follows : ℕ → List Entry → Entry → Type 0) (devices : ℕ) (rows : List RowState) → rows ≡ replicate devices opening_row → AreLawful follows rows
none_lawful follows devices rows is d within v entry at = nothing (ap (λ (rs : List RowState). slice_get (journal_of rs d) v) (sym is) ∙ at)
  where
    nothing : slice_get (journal_of (replicate devices opening_row) d) v ≡ Some entry → follows d (take v (journal_of rows d)) entry
    nothing there = let none : None ≡ Some entry = ap (λ (row : RowState). slice_get row.journal v) (sym (row_of_none devices (d - 1))) ∙ there in absurd (cc)

-- ---- lists

first_of : (n : ℕ) (xs : List ℕ) (x : ℕ) → n < length xs → slice_index_or xs n 0 ≡ x → (slice_get xs n ≡ Some x) × (drop n xs ≡ x ∷ drop (n + 1) xs)
first_of n xs x inside is = (slice_get-get_or xs n 0 inside ∙ ap Some is, drop_more xs n 0 inside ∙ ap (λ (y : ℕ). y ∷ drop (n + 1) xs) is)

pub past_end : (journal : List Entry) (v : ℕ) → slice_get journal v ≡ None → length journal ≤ v
past_end [] v none = omega arith
past_end (e ∷ journal) zero none = absurd (cc)
past_end (e ∷ journal) (suc v) none = omega (arith, past_end journal v none)

-- ---- one more

module _ (devices : ℕ) (entries : Entries) (octets : List ℕ) (at : ℕ) (rows : List RowState) (so_far : IsReplayed devices entries octets at rows) (gate : slice_index_or octets at 0 ≡ 1) where
  abbrev behind : List ℕ
  behind = drop (at + 1) octets

  here : drop at octets ≡ 1 ∷ behind
  here = (first_of at octets 1 so_far.inside gate).1

  count_behind : length behind ≡ length octets - (at + 1)
  count_behind = length-drop (at + 1) octets

  pub next_inside : (r : LogRecord) → first_record behind ≡ Some r → at + (1 + size_of r) < length octets
  next_inside r some = omega (arith, found_within behind r some, count_behind)

  more_parts : (r : LogRecord) → first_record behind ≡ Some r → log_of octets ≡ so_far.before ++ r ∷ log_of (drop (at + (1 + size_of r)) octets)
  more_parts r some =
      let place : at + 1 + size_of r ≡ at + (1 + size_of r) = omega arith in
      so_far.parts ∙ ap (λ (os : List ℕ). so_far.before ++ log_of os) here ∙ ap (λ (rs : List LogRecord). so_far.before ++ rs) (one_more behind r some)
      ∙ ap (λ (os : List ℕ). so_far.before ++ r ∷ log_of os) (drop-drop (size_of r) (at + 1) octets ∙ ap (λ (n : ℕ). drop n octets) place)

  pub taken : (r : LogRecord) (later : List RowState) → first_record behind ≡ Some r → Takes entries rows later r → IsReplayed devices entries octets (at + (1 + size_of r)) later
  taken r later some takes =
      let next = takes.0 in
      let is : IsDevice (length rows) r.device = next.device in
      rw takes.1 (record {
        before = so_far.before ++ r ∷ [];
        parts = more_parts r some ∙ sym (append_assoc so_far.before (r ∷ []) (log_of (drop (at + (1 + size_of r)) octets)));
        place = omega (arith, so_far.place, gate_behind_more so_far.before r);
        inside = next_inside r some;
        log = log_more rows r.device next.entry is so_far.before r so_far.log refl next.version next.session;
        count = same_count rows r.device next.entry is ∙ so_far.count;
        made = λ d v entry within at. made_too r next d v entry within (cases_eq d r.device) at;
        unsettled = λ d within. unsettled_too r next d within (cases_eq d r.device);
        few = few_more rows r.device next.entry is at r next.session so_far.few;
      })
    where
      within_rows : (d : ℕ) → IsDevice devices d → IsDevice (length rows) d
      within_rows d within = subst (λ (n : ℕ). IsDevice n d) (sym so_far.count) within

      made_too : (r : LogRecord) (next : IsNext entries rows r) (d v : ℕ) (entry : Entry) → IsDevice devices d → (d ≡ r.device) ⊎ (d ≡ r.device → ⊥) → entries_in (with_entry rows r.device next.entry) d v ≡ Some entry → entries d v ≡ Some entry
      made_too r next d v entry within (inr other) at =
          so_far.made d v entry within (ap (λ (row : RowState). slice_get row.journal v) (sym (other_row rows r.device next.entry next.device d (within_rows d within) other)) ∙ at)
      made_too r next d v entry within (inl own) at =
          let here : slice_get (journal_of rows r.device ++ next.entry ∷ []) v ≡ Some entry =
          ap (λ (J : List Entry). slice_get J v) (sym (own_journal rows r.device next.entry next.device)) ∙ subst (λ (j : ℕ). entries_in (with_entry rows r.device next.entry) j v ≡ Some entry) own at in
          let found = last_or_before (journal_of rows r.device) next.entry entry v here in
          subst (λ (j : ℕ). entries j v ≡ Some entry) (sym own)
          (⊎_elim
          (λ (before : v < length (journal_of rows r.device)). so_far.made r.device v entry (subst (λ (n : ℕ). IsDevice n r.device) so_far.count next.device) (found.0 before))
          (λ (after : length (journal_of rows r.device) ≤ v). let last = found.1 after in ap (entries r.device) last.0 ∙ next.made ∙ ap Some last.1)
          (cases_lt v (length (journal_of rows r.device))))

      unsettled_too : (r : LogRecord) (next : IsNext entries rows r) (d : ℕ) → IsDevice devices d → (d ≡ r.device) ⊎ (d ≡ r.device → ⊥) → (row_of (with_entry rows r.device next.entry) d).settled ≡ none_settled
      unsettled_too r next d within (inr other) = ap (λ (row : RowState). row.settled) (other_row rows r.device next.entry next.device d (within_rows d within) other) ∙ so_far.unsettled d within
      unsettled_too r next d within (inl own) =
          subst (λ (j : ℕ). (row_of (with_entry rows r.device next.entry) j).settled ≡ none_settled) (sym own)
          (ap (λ (row : RowState). row.settled) (own_row rows r.device next.entry next.device) ∙ so_far.unsettled r.device (subst (λ (n : ℕ). IsDevice n r.device) so_far.count next.device))

  -- ---- a gate that should not be open

  fit : AllFit devices entries so_far.before
  fit =
      let all : AllFit devices (entries_in rows) so_far.before = subst (λ (n : ℕ). AllFit n (entries_in rows) so_far.before) so_far.count so_far.log.fit in
      all_fit_too devices (entries_in rows) entries so_far.before so_far.made all

  pub without_record : first_record behind ≡ None → IsForeign devices entries octets at
  without_record none = record {
    before = so_far.before;
    behind = [];
    parts = so_far.parts ∙ ap (λ (os : List ℕ). so_far.before ++ log_of os) here ∙ ap (λ (rs : List LogRecord). so_far.before ++ rs) (torn behind none);
    place = so_far.place;
    is_open = (first_of at octets 1 so_far.inside gate).0;
    fit = fit;
    misfit = λ r more is fits. absurd (cc);
  }

  pub with_another : (r : LogRecord) → first_record behind ≡ Some r → (IsNext entries rows r → ⊥) → IsForeign devices entries octets at
  with_another r some other = record {
    before = so_far.before;
    behind = r ∷ log_of (drop (at + (1 + size_of r)) octets);
    parts = more_parts r some;
    place = so_far.place;
    is_open = (first_of at octets 1 so_far.inside gate).0;
    fit = fit;
    misfit = λ q more is fits. other (next_of q fits (same_head q more is));
  }
    where
      same_head : (q : LogRecord) (more : List LogRecord) → r ∷ log_of (drop (at + (1 + size_of r)) octets) ≡ q ∷ more → q ≡ r
      same_head q more is = cc

      next_of : (q : LogRecord) → Fits devices entries so_far.before q → q ≡ r → IsNext entries rows r
      next_of q fits same =
          let f : Fits devices entries so_far.before r = subst (λ (s : LogRecord). Fits devices entries so_far.before s) same fits in
          let device : IsDevice (length rows) r.device = subst (λ (n : ℕ). IsDevice n r.device) (sym so_far.count) f.device in
          let counted : length (journal_of rows r.device) ≡ count_of r.device so_far.before = so_far.log.all r.device device in
          record {
            device = device;
            version = f.version ∙ ap (λ (n : ℕ). n + 1) (sym counted);
            entry = f.entry;
            made = ap (entries r.device) counted ∙ f.made;
            session = f.session;
          }

-- ---- the end

module _ (devices : ℕ) (entries : Entries) (octets : List ℕ) (at : ℕ) (rows : List RowState) (so_far : IsReplayed devices entries octets at rows) (shut : slice_index_or octets at 0 ≡ 1 → ⊥) where
  whole : log_of octets ≡ so_far.before
  whole =
      let here = first_of at octets (slice_index_or octets at 0) so_far.inside refl in
      so_far.parts ∙ ap (λ (os : List ℕ). so_far.before ++ log_of os) here.1 ∙ ap (λ (rs : List LogRecord). so_far.before ++ rs) (closed (slice_index_or octets at 0) (drop (at + 1) octets) shut) ∙ append-nil so_far.before

  pub ended : EndsAt at octets
  ended = record {
    place = so_far.place ∙ ap gate_behind (sym whole);
    closing = slice_index_or octets at 0;
    stands = (first_of at octets (slice_index_or octets at 0) so_far.inside refl).0;
    shut = shut;
  }

  pub log_is : IsLogOf rows (log_of octets)
  log_is = subst (IsLogOf rows) (sym whole) so_far.log

  pub rows_are : AreRowsOf devices entries (log_of octets) rows
  rows_are = subst (λ (rs : List LogRecord). AreRowsOf devices entries rs rows) (sym whole) (record {
    fit = all_fit_too devices (entries_in rows) entries so_far.before so_far.made (subst (λ (n : ℕ). AllFit n (entries_in rows) so_far.before) so_far.count so_far.log.fit);
    count = so_far.count;
    journals = λ d within. (
      so_far.log.all d (within_rows d within),
      λ v below. first_entry d v within (omega (arith, below, so_far.log.all d (within_rows d within))),
    );
    unsettled = so_far.unsettled;
  })
    where
      within_rows : (d : ℕ) → IsDevice devices d → IsDevice (length rows) d
      within_rows d within = subst (λ (n : ℕ). IsDevice n d) (sym so_far.count) within

      first_entry : (d v : ℕ) → IsDevice devices d → v < length (journal_of rows d) → slice_get (journal_of rows d) v ≡ entries d v
      first_entry d v within below = by_entry (slice_get (journal_of rows d) v) refl
        where
          by_entry : (found : Option Entry) → slice_get (journal_of rows d) v ≡ found → slice_get (journal_of rows d) v ≡ entries d v
          by_entry None at = absurd (omega (arith, below, past_end (journal_of rows d) v at))
          by_entry (Some entry) at = at ∙ sym (so_far.made d v entry within at)
