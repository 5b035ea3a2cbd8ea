-- What holds of all rows: out of slots with values of their IEs come the fields that have these values, or the first IE that is needed and missing; and out of the values of fields these fields.
use Rattle.std.proofs.Common.{◌≡◌, ℕ, suc, Bool, true, false, ◌&&◌, eqb, List, [], ◌∷◌, Option, Some, None, option_map, Result, Ok, Err, refl, sym, ap}
use Rattle.s1ap_pdu.specs.declared.pdu.Pdu.{Pdu}
use Rattle.std.proofs.lemmas.Bool.{and_parts}
use Rattle.protocol_ies.specs.declared.criticality.Criticality.{Criticality}
use Rattle.protocol_ies.specs.declared.tables.IeRow.{IeRow}
use Rattle.s1ap_pdu.specs.Values.{FieldValue, IeType, ie_with, id_of}
use Rattle.s1ap_pdu.proofs.Ies.{own_id}
use Rattle.s1ap_pdu.specs.Rows.{Row, Rows, last, ◌▸◌, must, may, row_of, taken, Slots, table, value_of, values, part_of, slot, field_from, fields_from}
use Rattle.echo_base.specs.Answer.{◌>>=◌}
use Rattle.s1ap_pdu.specs.Messages.{Message, values_or_none, made_from}
use Rattle.protocol_ies.specs.Slots.{lacking}

-- the id of a row, and the IE with that id
abbrev pub row_id : {A : Type 0} → Row A → ℕ
row_id (must id criticality) = id
row_id (may id criticality) = id

abbrev pub ie_of : {A : Type 0} → Row A → IeType
ie_of row = ie_with (row_id row)

-- a value of the IE, or none
abbrev pub IsOf : IeType → Option FieldValue → Type 0
IsOf e None = Unit {0}
IsOf e (Some v) = (a : e.Value) × (v ≡ e.kind.make a)

-- from a place on stand values of the IEs of rows
unfoldable pub AreOf : {A : Type 0} → Rows A → ℕ → Slots → Type 0
AreOf last place slots = Unit {0}
AreOf (row ▸ rest) place slots = IsOf (ie_of row) (slot slots place) × AreOf rest (suc place) slots

-- what stands from a place on, one value a row
unfoldable pub front : {A : Type 0} → Rows A → ℕ → Slots → Slots
front last place slots = []
front (row ▸ rest) place slots = slot slots place ∷ front rest (suc place) slots

-- what is made of values: the fields that have them, or the first id that is lacking
abbrev pub MakesFields : {A : Type 0} → Rows A → Slots → Result A ℕ → Type 0
MakesFields rows slots (Ok fields) = values rows fields ≡ slots
MakesFields rows slots (Err id) = lacking (table rows) slots ≡ Some id

makes_row : {A B : Type 0} (row : Row A) (rest : Rows B) (o : Option FieldValue) (slots : Slots) (r : Result B ℕ) → IsOf (ie_of row) o → MakesFields rest slots r → MakesFields (row ▸ rest) (o ∷ slots) (field_from row o >>= λ field. r >>= λ fields. Ok (field, fields))
unfolding lacking
makes_row (must id criticality) rest None slots r is m = refl
makes_row (must id criticality) rest (Some v) slots (Ok fields) is m = rw (is.1, (ie_with id).kind.back is.0) (ap (λ l. Some ((ie_with id).kind.make is.0) ∷ l) m)
makes_row (must id criticality) rest (Some v) slots (Err lacks) is m = rw (is.1, (ie_with id).kind.back is.0) m
makes_row (may id criticality) rest None slots (Ok fields) is m = ap (λ l. None ∷ l) m
makes_row (may id criticality) rest (Some v) slots (Ok fields) is m = rw (is.1, (ie_with id).kind.back is.0) (ap (λ l. Some ((ie_with id).kind.make is.0) ∷ l) m)
makes_row (may id criticality) rest None slots (Err lacks) is m = m
makes_row (may id criticality) rest (Some v) slots (Err lacks) is m = m

pub makes_fields : {A : Type 0} (rows : Rows A) (place : ℕ) (slots : Slots) → AreOf rows place slots → MakesFields rows (front rows place slots) (fields_from rows place slots)
unfolding AreOf front fields_from
makes_fields last place slots are = refl
makes_fields (row ▸ rest) place slots are = makes_row row rest (slot slots place) (front rest (suc place) slots) (fields_from rest (suc place) slots) are.0 (makes_fields rest (suc place) slots are.1)

part_back : (e : IeType) (o : Option e.Value) → part_of e (option_map e.kind.make o) ≡ o
part_back e None = refl
part_back e (Some a) = e.kind.back a

field_back : {A : Type 0} (row : Row A) (field : A) → field_from row (value_of row field) ≡ Ok field
field_back (must id criticality) field = rw ((ie_with id).kind.back field) refl
field_back (may id criticality) field = ap Ok (part_back (ie_with id) field)

head_is : {A : Type 0} (a b : A) (xs ys : List A) → a ∷ xs ≡ b ∷ ys → a ≡ b
head_is a b xs ys e = cc

tail_is : {A : Type 0} (a b : A) (xs ys : List A) → a ∷ xs ≡ b ∷ ys → xs ≡ ys
tail_is a b xs ys e = cc

-- where the values of fields stand, these fields are made
fields_back : {A : Type 0} (rows : Rows A) (place : ℕ) (slots : Slots) (fields : A) → front rows place slots ≡ values rows fields → fields_from rows place slots ≡ Ok fields
unfolding front fields_from
fields_back last place slots fields h = refl
fields_back (row ▸ rest) place slots fields h = rw (head_is _ _ _ _ h, field_back row fields.0, fields_back rest (suc place) slots fields.1 (tail_is _ _ _ _ h)) refl

whole_fields : {A : Type 0} (rows : Rows A) (fields : A) → lacking (table rows) (values rows fields) ≡ None
unfolding lacking
whole_fields last fields = refl
whole_fields (must id criticality ▸ rest) fields = whole_fields rest fields.1
whole_fields (may id criticality ▸ rest) fields = whole_fields rest fields.1

-- ---- a message

-- where its values stand, it is made
pub message_back : (m : Message) (p : Pdu) (fields : m.Fields) → m.part p ≡ Some fields → p ≡ taken m.rows m.make fields → (slots : Slots) → front m.rows 0 slots ≡ values_or_none m.rows (m.part p) → made_from m slots ≡ Ok p
message_back m p fields is of slots h =
    let here : front m.rows 0 slots ≡ values m.rows fields = rw is at h in
    rw (fields_back m.rows 0 slots fields here) (ap Ok (sym of))

-- it lacks nothing that it needs
pub message_whole : (m : Message) (p : Pdu) (fields : m.Fields) → m.part p ≡ Some fields → lacking (table m.rows) (values_or_none m.rows (m.part p)) ≡ None
message_whole m p fields is = rw is (whole_fields m.rows fields)

-- ---- each value is one of its row

unfoldable pub are_of : List IeRow → List (Option FieldValue) → Bool
are_of [] [] = true
are_of [] (v ∷ values) = false
are_of (row ∷ rows) [] = false
are_of (row ∷ rows) (None ∷ values) = are_of rows values
are_of (row ∷ rows) (Some v ∷ values) = eqb (id_of v) row.id && are_of rows values

-- the ids of rows are those of their IEs
abbrev pub are_listed : {A : Type 0} → Rows A → Bool
are_listed last = true
are_listed (row ▸ rest) = eqb (ie_of row).id (row_id row) && are_listed rest

of_may : (id : ℕ) (criticality : Criticality) (o : Option (ie_with id).Value) (rows : List IeRow) (values : List (Option FieldValue)) → eqb (ie_with id).id id ≡ true → are_of rows values ≡ true → are_of (row_of (may id criticality) ∷ rows) (option_map (ie_with id).kind.make o ∷ values) ≡ true
unfolding are_of
of_may id criticality None rows values listed of = of
of_may id criticality (Some a) rows values listed of = rw (own_id id a, listed) of

of_rows : {A : Type 0} (rows : Rows A) → are_listed rows ≡ true → (fields : A) → are_of (table rows) (values rows fields) ≡ true
unfolding are_of
of_rows last listed fields = refl
of_rows (must id criticality ▸ rest) listed fields =
    let parts = and_parts (eqb (ie_with id).id id) (are_listed rest) listed in
    rw (own_id id fields.0, parts.0) (of_rows rest parts.1 fields.1)
of_rows (may id criticality ▸ rest) listed fields =
    let parts = and_parts (eqb (ie_with id).id id) (are_listed rest) listed in
    of_may id criticality fields.0 (table rest) (values rest fields.1) parts.0 (of_rows rest parts.1 fields.1)

pub message_of_rows : (m : Message) (p : Pdu) (fields : m.Fields) → m.part p ≡ Some fields → are_listed m.rows ≡ true → are_of (table m.rows) (values_or_none m.rows (m.part p)) ≡ true
message_of_rows m p fields is listed = rw is (of_rows m.rows listed fields)
