-- A log: gates on a disk, and a record behind each one that is open.
use Rattle.std.specs.Prelude.{◌≡◌, ◌≢◌, ◌⊎◌, ℕ, zero, suc, ◌+◌, ◌==◌, nat_le, List, [], ◌∷◌, ◌++◌, length, Some, None, slice_get, if◌then◌else◌}
use Rattle.disk_log.specs.Record.{LogRecord, size_of, first_record}

-- the records of a log whose next gate stands behind so many octets. A gate that is 1 is followed by a record and by the next gate;
-- at any other gate the log ends, and at one that lacks these
unfoldable pub records_behind : ℕ → List ℕ → List LogRecord
records_behind n [] = []
records_behind (suc n) (octet ∷ octets) = records_behind n octets
records_behind zero (gate ∷ octets) =
    if gate == 1 then elim (first_record octets) [ None ↦ [] | Some r ↦ r ∷ records_behind (size_of r) octets ] else []

-- the records of a log: place 0 is its first gate. A file of at most one octet has none, whatever that octet is
abbrev pub log_of : List ℕ → List LogRecord
log_of octets = records_behind 0 octets

-- the place of the gate behind these records
abbrev pub gate_behind : List LogRecord → ℕ
gate_behind [] = 0
gate_behind (r ∷ records) = 1 + size_of r + gate_behind records

-- a log whose last gate is at that place, and closed
pub record EndsAt (gate : ℕ) (octets : List ℕ) : Type 0 where
  pub place : gate ≡ gate_behind (log_of octets)
  pub closing : ℕ
  pub stands : slice_get octets gate ≡ Some closing
  pub shut : closing ≢ 1

-- the first gate, where there was none: a file of at most one octet becomes a closed gate
abbrev pub gated : List ℕ → List ℕ
gated octets = if nat_le (length octets) 1 then 0 ∷ [] else octets

-- a file of that log with a further record, or without it
abbrev pub WithOrWithout : List LogRecord → LogRecord → List ℕ → Type 0
WithOrWithout records r image = (log_of image ≡ records) ⊎ (log_of image ≡ records ++ r ∷ [])
