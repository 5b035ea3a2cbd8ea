-- Which records of a log fit, and the rows that a log stands for.
use Rattle.std.specs.Prelude.{◌≡◌, ◌<◌, ℕ, ◌+◌, ◌==◌, List, ◌∷◌, ◌++◌, length, take, Option, Some, slice_get, count_by}
use Rattle.device_types.specs.declared.step.Entry.{Entry}
use Rattle.disk_log.specs.Log.{log_of, gate_behind}
use Rattle.disk_log.specs.Record.{LogRecord}
use Rattle.effect_outbox.specs.Outbox.{LaneNumbers}
use Rattle.session_form.specs.Form.{IsFormOf}
use Rattle.session_row.specs.Row.{RowState}
use Rattle.session_store.specs.Rows.{IsDevice, row_of, journal_of}

-- the entries of each device: entry v of device d, from 0, where there is one
abbrev pub Entries : Type 0
Entries = ℕ → ℕ → Option Entry

-- how many of the records are the device's
abbrev pub count_of : ℕ → List LogRecord → ℕ
count_of d records = count_by (λ r. r.device == d) records

-- a record fits behind others, in a store of so many devices: its device is one of these, it is the device's next one, and its
-- octets are a form of the session of that entry
pub record Fits (devices : ℕ) (entries : Entries) (before : List LogRecord) (r : LogRecord) : Type 0 where
  pub device : IsDevice devices r.device
  pub version : r.version ≡ count_of r.device before + 1
  pub entry : Entry
  pub made : entries r.device (count_of r.device before) ≡ Some entry
  pub session : IsFormOf r.session entry.step.session

-- each record fits behind those before it
abbrev pub AllFit : ℕ → Entries → List LogRecord → Type 0
AllFit devices entries records = (n : ℕ) (r : LogRecord) → slice_get records n ≡ Some r → Fits devices entries (take n records) r

-- ---- rows

-- so many first entries
abbrev pub AreFirst : ℕ → (ℕ → Option Entry) → List Entry → Type 0
AreFirst n entries journal = (length journal ≡ n) × ((v : ℕ) → v < n → slice_get journal v ≡ entries v)

-- nothing is settled
abbrev pub none_settled : LaneNumbers
none_settled = record { down = 0; gateway = 0; subscriber = 0 }

-- the rows of a log that fits: the journal of a device is its first entries, as many as it has records, and nothing is settled
pub record AreRowsOf (devices : ℕ) (entries : Entries) (records : List LogRecord) (rows : List RowState) : Type 0 where
  pub fit : AllFit devices entries records
  pub count : length rows ≡ devices
  pub journals : (d : ℕ) → IsDevice devices d → AreFirst (count_of d records) (entries d) (journal_of rows d)
  pub unsettled : (d : ℕ) → IsDevice devices d → (row_of rows d).settled ≡ none_settled

-- the entries of the journals of rows
abbrev pub entries_in : List RowState → Entries
entries_in rows d v = slice_get (journal_of rows d) v

-- the log whose rows have these journals: it fits them, and has as many records of a device as its journal has entries
pub record IsLogOf (rows : List RowState) (records : List LogRecord) : Type 0 where
  pub fit : AllFit (length rows) (entries_in rows) records
  pub all : (d : ℕ) → IsDevice (length rows) d → length (journal_of rows d) ≡ count_of d records

-- ---- a file of something else

-- the gate at that place is the first that is open without a whole record that fits, and a next gate: the records before it fit,
-- and the one behind it, if there is one, does not
pub record IsForeign (devices : ℕ) (entries : Entries) (octets : List ℕ) (at : ℕ) : Type 0 where
  pub before : List LogRecord
  pub behind : List LogRecord
  pub parts : log_of octets ≡ before ++ behind
  pub place : at ≡ gate_behind before
  pub is_open : slice_get octets at ≡ Some 1
  pub fit : AllFit devices entries before
  pub misfit : (r : LogRecord) (more : List LogRecord) → behind ≡ r ∷ more → Fits devices entries before r → ⊥
