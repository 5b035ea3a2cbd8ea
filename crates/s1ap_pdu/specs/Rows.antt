-- Rows: the IEs of a message in order. What follows from them: the table, the values of a message's fields, and the fields out of slots.
use Rattle.std.specs.Prelude.{ℕ, suc, true, false, List, [], ◌∷◌, Option, Some, None, option_map, Result, Ok, Err, slice_index_or}
use Rattle.protocol_ies.specs.declared.tables.IeRow.{IeRow}
use Rattle.echo_base.specs.Answer.{◌>>=◌}
use Rattle.protocol_ies.specs.declared.criticality.Criticality.{Criticality}
use Rattle.s1ap_pdu.specs.Values.{FieldValue, IeType, ie_with}

-- an IE that a message has to have, or may have, by its id, with its criticality; A is the field's type
pub data Row : Type 0 → Type 1 where
  must : (id : ℕ) → Criticality → Row (ie_with id).Value
  may : (id : ℕ) → Criticality → Row (Option (ie_with id).Value)

-- the rows of a message in order; A are the values of its fields, a pair of the first and the others
infixr 10 ◌▸◌
pub data Rows : Type 0 → Type 1 where
  last : Rows (Unit {0})
  ◌▸◌ : {A B : Type 0} → Row A → Rows B → Rows (A × B)

-- a row as the program keeps it
abbrev pub row_of : {A : Type 0} → Row A → IeRow
row_of (must id criticality) = record { id = id; criticality = criticality; needed = true }
row_of (may id criticality) = record { id = id; criticality = criticality; needed = false }

-- the rows as the program keeps them
abbrev pub table : {A : Type 0} → Rows A → List IeRow
table last = []
table (row ▸ rest) = row_of row ∷ table rest

-- ---- the fields of a message

-- a function of the fields, one after another, as a variant of an enum is
abbrev pub Taking : {A : Type 0} → Rows A → Type 0 → Type 0
Taking last P = P
Taking (must id criticality ▸ rest) P = (ie_with id).Value → Taking rest P
Taking (may id criticality ▸ rest) P = Option (ie_with id).Value → Taking rest P

-- what it makes of them
abbrev pub taken : {A P : Type 0} → (rows : Rows A) → Taking rows P → A → P
taken last make fields = make
taken (must id criticality ▸ rest) make fields = taken rest (make fields.0) fields.1
taken (may id criticality ▸ rest) make fields = taken rest (make fields.0) fields.1

-- a field as the value of its IE, where it has one
abbrev pub value_of : {A : Type 0} → Row A → A → Option FieldValue
value_of (must id criticality) field = Some ((ie_with id).kind.make field)
value_of (may id criticality) field = option_map (ie_with id).kind.make field

-- the values of the fields, one a row
abbrev pub values : {A : Type 0} → Rows A → A → List (Option FieldValue)
values last fields = []
values (row ▸ rest) fields = value_of row fields.0 ∷ values rest fields.1

-- ---- the fields out of slots

-- the values in the places of the rows
abbrev pub Slots : Type 0
Slots = List (Option FieldValue)

-- what the value is made of, where it is one of the IE
abbrev pub part_of : (e : IeType) → Option FieldValue → Option e.Value
part_of e None = None
part_of e (Some v) = e.kind.part v

-- a field that has to be there, else the id that is missing
abbrev pub needed : {A : Type 0} → ℕ → Option A → Result A ℕ
needed id None = Err id
needed id (Some v) = Ok v

-- a field of the value in its slot
abbrev pub field_from : {A : Type 0} → Row A → Option FieldValue → Result A ℕ
field_from (must id criticality) v = needed id (part_of (ie_with id) v)
field_from (may id criticality) v = Ok (part_of (ie_with id) v)

abbrev pub slot : Slots → ℕ → Option FieldValue
slot slots place = slice_index_or slots place None

-- the fields out of the slots from a place on, or the first id that is missing
unfoldable pub fields_from : {A : Type 0} → Rows A → ℕ → Slots → Result A ℕ
fields_from last place slots = Ok tt
fields_from (row ▸ rest) place slots = field_from row (slot slots place) >>= λ field. fields_from rest (suc place) slots >>= λ fields. Ok (field, fields)
