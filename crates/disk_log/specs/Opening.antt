-- What a crash leaves while a log is opened.
use Rattle.std.specs.Prelude.{◌≡◌, ◌⊎◌, ℕ, List}
use Rattle.store_disk.specs.Moments.{LeavesOnly}
use Rattle.disk_log.specs.Log.{log_of}
use Rattle.disk_log.specs.Record.{LogRecord}

-- up to the end of its first sync, what a crash might have left at the start; from then on, a file of that log
pub record LeavesLog {D : Type 0} (moment : D → ℕ) (left_since : D → ℕ → List ℕ → Type 0) (old new : D) (at_start : List ℕ → Type 0) (records : List LogRecord) : Type 0 where
  -- the disk at the end of that sync
  pub synced : D
  pub until : LeavesOnly moment left_since old synced at_start
  pub from_then : LeavesOnly moment left_since synced new (λ image. log_of image ≡ records)

-- that, or the first sync did not end well
abbrev pub OpensLog : {D : Type 0} → (D → ℕ) → (D → ℕ → List ℕ → Type 0) → D → D → (List ℕ → Type 0) → List LogRecord → Type 0
OpensLog moment left_since old new at_start records =
    LeavesOnly moment left_since old new at_start ⊎ LeavesLog moment left_since old new at_start records
