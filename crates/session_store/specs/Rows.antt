-- The rows of all devices.
use Rattle.std.specs.Prelude.{◌≡◌, ◌≢◌, ◌≤◌, ℕ, ◌+◌, ◌-◌, ◌^◌, List, [], ◌++◌, length, min, Option, Some, slice_get, slice_index_or, slice_set}
use Rattle.device_types.specs.declared.effect.Effect.{Effect}
use Rattle.device_types.specs.declared.event.Lane.{Lane}
use Rattle.device_types.specs.declared.step.Entry.{Entry}
use Rattle.device_types.specs.Journal.{effects_of}
use Rattle.effect_outbox.specs.Outbox.{number_on, with_number, unsettled_at}
use Rattle.session_row.specs.declared.commit.Commit.{Commit}
use Rattle.session_row.specs.declared.commit.Commit.TheVariants.{Committed, Stale}
use Rattle.session_row.specs.Row.{RowState, Commits}
use Rattle.session_store.specs.Charter.{CharterState}
use Rattle.session_store.specs.Law.{IsLawful}

-- a charter, the row of each device in the order of their numbers, and how often the store was read
pub record StoreState : Type 0 where
  pub charter : CharterState
  pub rows : List RowState
  pub reads : ℕ

-- one read more: the count stands still at the last value of a u64
abbrev pub one_more : ℕ → ℕ
one_more reads = min (reads + 1) (2 ^ 64 - 1)

-- one of so many devices, which are numbered from 1
abbrev pub IsDevice : ℕ → ℕ → Type 0
IsDevice count d = (1 ≤ d) × (d ≤ count)

-- the row of a device that was never seen
abbrev pub opening_row : RowState
opening_row = record { journal = []; settled = record { down = 0; gateway = 0; subscriber = 0 } }

-- the row of device d, from 1
abbrev pub row_of : List RowState → ℕ → RowState
row_of rows d = slice_index_or rows (d - 1) opening_row

-- the journal of device d
abbrev pub journal_of : List RowState → ℕ → List Entry
journal_of rows d = (row_of rows d).journal

-- effect k of a lane, from 1, while it is not settled
abbrev pub unsettled_effect : RowState → Lane → ℕ → Option Effect
unsettled_effect row lane k = unsettled_at (effects_of lane row.journal) (number_on row.settled lane) k

-- the row with the effects of a lane up to k settled
abbrev pub with_settled : RowState → Lane → ℕ → RowState
with_settled row lane k = record row { settled = with_number row.settled lane k }

-- the journal of each device is lawful
abbrev pub AreLawful : (ℕ → List Entry → Entry → Type 0) → List RowState → Type 0
AreLawful follows rows = (d : ℕ) → IsDevice (length rows) d → IsLawful (follows d) (journal_of rows d)

-- a write of the store: that of the device's row, and all else is as before
abbrev pub WritesRow : StoreState → StoreState → ℕ → ℕ → Entry → Commit → Type 0
WritesRow old new d read entry commit =
    Commits (row_of old.rows d) (row_of new.rows d) read entry commit × (new ≡ record old { rows = slice_set old.rows (d - 1) (row_of new.rows d) })

-- the second list begins with the first
abbrev pub Begins : {X : Type 0} → List X → List X → Type 0
Begins {X} xs ys = (rest : List X) × (ys ≡ xs ++ rest)

-- what is known of a device after a write of a version that was read
abbrev pub IsKnownAfter : List Entry → ℕ → Entry → Commit → Type 0
IsKnownAfter journal read entry (Committed version) = (version ≡ read + 1) × (length journal ≡ version) × (slice_get journal read ≡ Some entry)
IsKnownAfter journal read entry (Stale asked current) = (asked ≡ read) × (length journal ≡ current) × (current ≢ read)
