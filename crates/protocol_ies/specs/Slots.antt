-- Slots for the values of a message's IEs, each in the place of its row; V is what is kept of a value.
use Rattle.std.specs.Prelude.{ℕ, ◌&&◌, Bool, false, List, [], ◌∷◌, count_by, slice_set, slice_index_or, Option, Some, None, is_some, is_none, Result, Ok, Err, if◌then◌else◌}
use Rattle.echo_base.specs.declared.reason.Reason.{Reason}
use Rattle.echo_base.specs.declared.reason.Reason.TheVariants.{RepeatedIe}
use Rattle.protocol_ies.specs.declared.tables.IeRow.{IeRow}
use Rattle.protocol_ies.specs.Tables.{place_of}

-- no value yet
abbrev pub empty : {V : Type 0} → List (Option V)
empty = None ∷ None ∷ None ∷ None ∷ None ∷ None ∷ []

-- is there a value in a place
abbrev pub is_filled : {V : Type 0} → Option ℕ → List (Option V) → Bool
is_filled None slots = false
is_filled (Some place) slots = is_some (slice_index_or slots place None)

-- an id of which there is no value yet, or of no row
abbrev pub free_id : {V : Type 0} → List IeRow → List (Option V) → ℕ → Result ℕ Reason
free_id rows slots id = if is_filled (place_of rows id) slots then Err (RepeatedIe id) else Ok id

-- with a value in its place
abbrev pub noted : {V : Type 0} → List (Option V) → Option (ℕ × V) → List (Option V)
noted slots None = slots
noted slots (Some x) = slice_set slots x.0 (Some x.1)

-- the first needed row without a value
unfoldable pub lacking : {V : Type 0} → List IeRow → List (Option V) → Option ℕ
lacking [] values = None
lacking (row ∷ rows) [] = None
lacking (row ∷ rows) (v ∷ values) = if row.needed && is_none v then Some row.id else lacking rows values

-- how many values there are
abbrev pub count_of : {V : Type 0} → List (Option V) → ℕ
count_of values = count_by is_some values
