-- The rows of two devices.
use Rattle.std.proofs.Common.{◌≡◌, ◌≤◌, ◌<◌, ◌-◌, ◌^◌, ℕ, ◌⊎◌, inl, inr, List, [], ◌∷◌, length, take, set, Some, sym, ap, ◌∙◌, arith, length-set}
use Rattle.std.proofs.lemmas.Bool.{cases_lt}
use Rattle.std.proofs.lemmas.List.{take_all, length-take-le}
use Rattle.std.proofs.lemmas.Option.{slice_get-get_or}
use Rattle.device_types.specs.declared.step.Entry.{Entry}
use Rattle.session_row.specs.Row.{RowState}
use Rattle.session_store.specs.Charter.{CharterState}
use Rattle.session_store.specs.Law.{IsLawful}
use Rattle.session_store.specs.Rows.{StoreState, AreLawful, row_of, journal_of}
use Rattle.session_disk.specs.Stored.{entry_count}
use Rattle.disk_cases.specs.Numbered.{numbered, numbered_at, is_numbered, follows_number}

few : (charter : CharterState) (d : ℕ) (journal : List Entry) → IsLawful (follows_number charter d) journal → length journal ≤ 1000000
few charter d journal lawful = parted (cases_lt 1000000 (length journal))
  where
    parted : (1000000 < length journal) ⊎ (length journal ≤ 1000000) → length journal ≤ 1000000
    parted (inr is) = is
    parted (inl many) =
        let at = slice_get-get_or journal 1000000 (numbered 0 0) many in
        let t = is_numbered d (length (take 1000000 journal)) _ (lawful 1000000 _ at) in
        absurd (omega (arith, many, t.1, length-take-le 1000000 journal (omega (arith, many))))

-- a law has no more entries than there is room for
pub few_entries : (charter : CharterState) (rows : List RowState) → length rows ≡ 2 → AreLawful (follows_number charter) rows → entry_count rows < 2 ^ 40
few_entries charter [] count lawful = absurd (omega (arith, count))
few_entries charter (a ∷ []) count lawful = absurd (omega (arith, count))
few_entries charter (a ∷ b ∷ []) count lawful =
    omega (arith, few charter 1 a.journal (lawful 1 (omega arith, omega arith)), few charter 2 b.journal (lawful 2 (omega arith, omega arith)))
few_entries charter (a ∷ b ∷ c ∷ rows) count lawful = absurd (omega (arith, count))

-- the entry that is made at the length of a journal may follow the whole of it
pub next_follows : (charter : CharterState) (d read : ℕ) (journal : List Entry) (entry : Entry) → read ≡ length journal → Some entry ≡ numbered_at d read → follows_number charter d (take read journal) entry
next_follows charter d read journal entry whole made =
    let all : take read journal ≡ journal = take_all read journal (omega (arith, whole)) in
    ap (λ (j : List Entry). numbered_at d (length j)) all ∙ (ap (numbered_at d) (sym whole) ∙ sym made)

-- the rows after a commit are as many
pub same_length : (old new : StoreState) (d : ℕ) → new ≡ record old { rows = set old.rows (d - 1) (row_of new.rows d) } → length new.rows ≡ length old.rows
same_length old new d others = ap (λ (s : StoreState). length s.rows) others ∙ length-set old.rows (d - 1) (row_of new.rows d)
