-- A store on a disk.
use Rattle.std.specs.Prelude.{◌≤◌, ℕ, ◌-◌, ◌*◌, Bool, List, [], ◌∷◌, ◌++◌, length, Option, slice_set, IfSome}
use Rattle.std.specs.List.{sum_by}
use Rattle.device_types.specs.declared.step.Entry.{Entry}
use Rattle.disk_log.specs.Log.{log_of, EndsAt}
use Rattle.disk_log.specs.Record.{LogRecord}
use Rattle.session_form.specs.Form.{form_of}
use Rattle.session_row.specs.Row.{RowState}
use Rattle.session_store.specs.Rows.{StoreState, row_of, journal_of}
use Rattle.store_disk.specs.Moments.{IsDurable}
use Rattle.session_disk.specs.Fits.{IsLogOf}

-- a disk, the store of its rows, and whether it is open
pub record DiskState (D : Type 0) : Type 0 where
  pub disk : D
  pub store : StoreState
  pub is_open : Bool

-- how many entries the rows have together
abbrev pub entry_count : List RowState → ℕ
entry_count rows = sum_by (λ row. length row.journal) rows

-- the rows with one more entry for device d
abbrev pub with_entry : List RowState → ℕ → Entry → List RowState
with_entry rows d entry = slice_set rows (d - 1) (record (row_of rows d) { journal = journal_of rows d ++ entry ∷ [] })

-- the record of an entry behind which the row of the device has that version
abbrev pub record_of : ℕ → ℕ → Entry → LogRecord
record_of d version entry = record { device = d; version = version; session = form_of entry.step.session }

-- what holds while a store is open: what reads give is the only image, and it has a log of the rows, whose last gate is there
pub record IsAtRest (bytes : Option (List ℕ)) (images : List ℕ → Type 0) (gate : ℕ) (rows : List RowState) : Type 0 where
  pub durable : IsDurable bytes images
  pub ends : IfSome bytes (EndsAt gate)
  pub log : IfSome bytes (λ octets. IsLogOf rows (log_of octets))
  -- a record and its gate have at most 256 octets
  pub few : gate ≤ 256 * entry_count rows
