-- The rows of tables, as the program keeps them.
use Rattle.std.specs.Prelude.{ℕ, ◌==◌, true, false, List, position, Option}
use Rattle.protocol_ies.specs.declared.criticality.Criticality.TheVariants.{Reject, Ignore}
use Rattle.protocol_ies.specs.declared.tables.IeRow.{IeRow}

-- a needed element, whose criticality is reject
abbrev pub reject : ℕ → IeRow
reject id = record { id = id; criticality = Reject; needed = true }

-- a needed element, whose criticality is ignore
abbrev pub ignore : ℕ → IeRow
ignore id = record { id = id; criticality = Ignore; needed = true }

-- an element that may be absent, whose criticality is reject
abbrev pub optional : ℕ → IeRow
optional id = record { id = id; criticality = Reject; needed = false }

-- an element that may be absent, whose criticality is ignore
abbrev pub optional_ignore : ℕ → IeRow
optional_ignore id = record { id = id; criticality = Ignore; needed = false }

-- the row behind the last element
abbrev pub no_row : IeRow
no_row = record { id = 0; criticality = Reject; needed = false }

-- the place of the row with an id
abbrev pub place_of : List IeRow → ℕ → Option ℕ
place_of rows id = position (λ row. row.id == id) rows
