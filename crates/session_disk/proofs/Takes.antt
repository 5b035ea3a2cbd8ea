-- The entry of a record in the rows.
use Rattle.std.proofs.Common.{◌≡◌, ℕ, ◌+◌, ◌-◌, List, [], ◌∷◌, ◌++◌, length, take, set, Bool, true, false, Some, refl, sym, ap, ◌∙◌, subst, length-set}
use Rattle.std.specs.Bool.{Decides}
use Rattle.std.proofs.lemmas.Bool.{true≢false}
use Rattle.std.proofs.lemmas.List.{take_at}
use Rattle.std.proofs.lemmas.Option.{same_Some}
use Rattle.device_types.specs.declared.step.Entry.{Entry}
use Rattle.device_types.specs.Journal.{session_of}
use Rattle.device_types.specs.Session.{IsSession}
use Rattle.device_types.proofs.Journals.{last_more, session_more}
use Rattle.disk_log.specs.Record.{LogRecord}
use Rattle.session_form.specs.Form.{IsFormOf, IsInRange}
use Rattle.session_row.specs.declared.commit.Commit.{Commit}
use Rattle.session_row.specs.declared.commit.Commit.TheVariants.{Committed, Stale}
use Rattle.session_row.specs.Row.{RowState, Commits}
use Rattle.session_form.proofs.Sessions.{in_range}
use Rattle.session_store.specs.Law.{IsLawful, CanFollow}
use Rattle.session_store.specs.Rows.{StoreState, IsDevice, row_of, journal_of, AreLawful}
use Rattle.session_store.proofs.Journals.{lawful_front}
use Rattle.session_disk.specs.Fits.{Entries}
use Rattle.session_disk.specs.Replay.{IsNext, Takes}
use Rattle.session_disk.specs.Stored.{with_entry}

-- the session of the last entry of a lawful journal is one that is stored
pub last_session : (follows : List Entry → Entry → Type 0) (journal : List Entry) (entry : Entry) → ((J : List Entry) → IsLawful follows J → follows J entry → CanFollow J entry) → IsLawful follows (journal ++ entry ∷ []) → IsSession entry.step.session
last_session follows journal entry can lawful =
    let front : take (length journal) (journal ++ entry ∷ []) ≡ journal = take_at journal (entry ∷ []) (length journal) refl in
    let before : IsLawful follows journal = subst (IsLawful follows) front (lawful_front follows (journal ++ entry ∷ []) (length journal) lawful) in
    let last : follows journal entry = subst (λ (J : List Entry). follows J entry) front (lawful (length journal) entry (last_more journal entry)) in
    (can journal before last).session

-- ---- a commit of the store

module _ (follows : ℕ → List Entry → Entry → Type 0) (old new : StoreState) (d read : ℕ) (entry : Entry) (is : IsDevice (length old.rows) d) (others : new ≡ record old { rows = set old.rows (d - 1) (row_of new.rows d) }) where
  still_device : IsDevice (length new.rows) d
  still_device =
      let same : length new.rows ≡ length old.rows = ap (λ (s : StoreState). length s.rows) others ∙ length-set old.rows (d - 1) (row_of new.rows d) in
      subst (λ (n : ℕ). IsDevice n d) (sym same) is

  -- what a write that was made comes to
  pub record Made (version : ℕ) : Type 0 where
    pub newest : read ≡ length (journal_of old.rows d)
    pub next : version ≡ read + 1
    pub rows : new.rows ≡ with_entry old.rows d entry
    pub range : IsInRange entry.step.session
    pub last : session_of (journal_of new.rows d) ≡ entry.step.session

  module _ (can : (J : List Entry) → IsLawful (follows d) J → follows d J entry → CanFollow J entry) (lawful : AreLawful follows new.rows) where
    made_by : (version : ℕ) → Commits (row_of old.rows d) (row_of new.rows d) read entry (Committed version) → Made version
    made_by version ok =
        let grown : journal_of new.rows d ≡ journal_of old.rows d ++ entry ∷ [] = ap (λ (row : RowState). row.journal) ok.2 in
        record {
          newest = ok.0;
          next = ok.1;
          rows = ap (λ (s : StoreState). s.rows) others ∙ ap (set old.rows (d - 1)) ok.2;
          range = in_range entry.step.session (last_session (follows d) (journal_of old.rows d) entry can (subst (IsLawful (follows d)) grown (lawful d still_device)));
          last = ap session_of grown ∙ session_more (journal_of old.rows d) entry;
        }

    pub made : (commit : Commit) (version : ℕ) → commit ≡ Committed version → Commits (row_of old.rows d) (row_of new.rows d) read entry commit → Made version
    made commit version same ok = made_by version (subst (λ (c : Commit). Commits (row_of old.rows d) (row_of new.rows d) read entry c) same ok)

    -- ---- of a record

    module _ (entries : Entries) (r : LogRecord) (own : r.device ≡ d) (next : r.version ≡ read + 1) (newest : read ≡ length (journal_of old.rows d)) (made : entries d read ≡ Some entry) where
      taken_next : (commit : Commit) → Commits (row_of old.rows d) (row_of new.rows d) read entry commit → IsFormOf r.session (session_of (journal_of new.rows d)) → Takes entries old.rows new.rows r
      taken_next (Stale asked current) ok same = absurd (ok.0 newest)
      taken_next (Committed version) ok same =
          let m = made_by version ok in (
            record {
              device = subst (IsDevice (length old.rows)) (sym own) is;
              version = next ∙ ap (λ (n : ℕ). n + 1) (newest ∙ ap (λ (j : ℕ). length (journal_of old.rows j)) (sym own));
              entry = entry;
              made = ap (λ (j : ℕ). entries j (length (journal_of old.rows j))) own ∙ ap (entries d) (sym newest) ∙ made;
              session = subst (IsFormOf r.session) m.last same;
            },
            m.rows ∙ ap (λ (j : ℕ). with_entry old.rows j entry) (sym own),
          )

      other_next : (commit : Commit) → Commits (row_of old.rows d) (row_of new.rows d) read entry commit → (IsFormOf r.session (session_of (journal_of new.rows d)) → ⊥) → IsNext entries old.rows r → ⊥
      other_next (Stale asked current) ok other is_next = ok.0 newest
      other_next (Committed version) ok other is_next =
          let m = made_by version ok in
          let same : Some entry ≡ Some is_next.entry =
          sym made ∙ ap (entries d) newest ∙ ap (λ (j : ℕ). entries j (length (journal_of old.rows j))) (sym own) ∙ is_next.made in
          let entry_is : entry ≡ is_next.entry = same_Some _ _ same in
          other (subst (IsFormOf r.session) (sym (m.last ∙ ap (λ (e : Entry). e.step.session) entry_is)) is_next.session)

      -- its octets are a form of the session, or not
      pub told : (commit : Commit) → Commits (row_of old.rows d) (row_of new.rows d) read entry commit → (fits : Bool) → Decides fits (IsFormOf r.session (session_of (journal_of new.rows d))) → (fits ≡ true → Takes entries old.rows new.rows r) × (fits ≡ false → IsNext entries old.rows r → ⊥)
      told commit ok fits decides = (λ yes. taken_next commit ok (decides.0 yes), λ no. other_next commit ok (λ same. true≢false (sym (decides.1 same) ∙ no)))
