-- What the records of a log come to, one behind another.
use Rattle.std.specs.Prelude.{◌≡◌, ◌≤◌, ◌<◌, ℕ, ◌+◌, ◌*◌, List, ◌++◌, length, drop, Some}
use Rattle.device_types.specs.declared.step.Entry.{Entry}
use Rattle.disk_log.specs.Log.{log_of, gate_behind}
use Rattle.disk_log.specs.Record.{LogRecord}
use Rattle.session_form.specs.Form.{IsFormOf}
use Rattle.session_row.specs.Row.{RowState}
use Rattle.session_store.specs.Rows.{IsDevice, row_of, journal_of}
use Rattle.session_disk.specs.Fits.{Entries, IsLogOf, entries_in, none_settled}
use Rattle.session_disk.specs.Stored.{entry_count, with_entry}

-- the next record of a device, by its row
pub record IsNext (entries : Entries) (rows : List RowState) (r : LogRecord) : Type 0 where
  pub device : IsDevice (length rows) r.device
  pub version : r.version ≡ length (journal_of rows r.device) + 1
  pub entry : Entry
  pub made : entries r.device (length (journal_of rows r.device)) ≡ Some entry
  pub session : IsFormOf r.session entry.step.session

-- its entry is in the rows now
abbrev pub Takes : Entries → List RowState → List RowState → LogRecord → Type 0
Takes entries old new r = (next : IsNext entries old r) × (new ≡ with_entry old r.device next.entry)

-- the rows of the log in front of the gate at that place
pub record IsReplayed (devices : ℕ) (entries : Entries) (octets : List ℕ) (at : ℕ) (rows : List RowState) : Type 0 where
  pub before : List LogRecord
  pub parts : log_of octets ≡ before ++ log_of (drop at octets)
  pub place : at ≡ gate_behind before
  pub inside : at < length octets
  pub log : IsLogOf rows before
  pub count : length rows ≡ devices
  pub made : (d v : ℕ) (entry : Entry) → IsDevice devices d → entries_in rows d v ≡ Some entry → entries d v ≡ Some entry
  pub unsettled : (d : ℕ) → IsDevice devices d → (row_of rows d).settled ≡ none_settled
  pub few : at ≤ 256 * entry_count rows
