-- A message is made of what stands under the ids of its table, or the first IE that it needs is missing; and it is made again of its values.
use Rattle.std.proofs.Common.{◌≡◌, ℕ, ◌+◌, ◌-◌, Bool, true, false, ◌&&◌, cond, eqb, List, [], ◌∷◌, ◌++◌, length, map, replicate, Option, Some, None, is_none, IfSome, Result, Ok, Err, refl, sym, ap, ◌∙◌, subst, inl, inr}
use Rattle.std.proofs.lemmas.Bool.{cases_Bool, eqb-true}
use Rattle.aper_fields.specs.Reading.{Input}
use Rattle.aper_fields.specs.Format as formats
use Rattle.aper_fields.specs.Format.{either, just}
use Rattle.aper_fields.specs.Asn1.{format}
use Rattle.aper_fields.specs.Many.{InOrder, inside}
use Rattle.protocol_ies.specs.declared.tables.IeRow.{IeRow}
use Rattle.s1ap_pdu.specs.declared.tables.MessageKind.{MessageKind}
use Rattle.s1ap_pdu.specs.declared.tables.MessageKind.TheVariants as kind
use Rattle.s1ap_pdu.specs.declared.pdu.Pdu.{Pdu}
use Rattle.s1ap_pdu.specs.declared.pdu.Pdu.TheVariants as pdus
use Rattle.s1ap_pdu.specs.Values.{FieldValue, ie_with, value_type}
use Rattle.s1ap_pdu.specs.Rows.{Rows, last, ◌▸◌, taken, Slots, table, values}
use Rattle.s1ap_pdu.specs.Messages.{Message, message_of, kind_of, rows_of, values_of, made, made_from, message_from}
use Rattle.s1ap_pdu.specs.Grammar.{Ie, Named, Other, found, has_ie, ie_in, fields_of, missing}
use Rattle.protocol_ies.specs.Slots.{lacking}
use Rattle.s1ap_pdu.proofs.Ies.{known}
use Rattle.s1ap_pdu.proofs.Kept.{slots_of}
use Rattle.s1ap_pdu.proofs.RowLaws.{row_id, ie_of, IsOf, AreOf, front, MakesFields, makes_fields, message_back, message_whole}

-- ---- values under their ids

abbrev IsSpelled : ℕ → FieldValue → Type 0
IsSpelled id v = (at : ℕ) × (run : List Bool) × (format (value_type id)).Spells at v run

-- its value is spelled under its id
abbrev IsTyped : Ie → Type 0
IsTyped (Named id v) = IsSpelled id v
IsTyped (Other id) = Unit {0}

abbrev pub AreTyped : List Ie → Type 0
AreTyped [] = Unit {0}
AreTyped (ie ∷ ies) = IsTyped ie × AreTyped ies

content_typed : (id : ℕ) (content : Input) (b : Bool) (at : ℕ) (ie : Ie) (run : List Bool) → (either b (formats.◌>>=◌ (inside content (format (value_type id))) (λ v. just (Named id v))) (just (Other id))).Spells at ie run → IsTyped ie
content_typed id content true at ie run s = subst IsTyped (sym s.5.0) (content.offset, s.4.0.0, s.4.0.1)
content_typed id content false at ie run s = subst IsTyped (sym s.0) tt

ie_typed : (kind : MessageKind) (before : List Ie) (at : ℕ) (ie : Ie) (run : List Bool) → (ie_in kind before).Spells at ie run → IsTyped ie
unfolding ie_in
ie_typed kind before at ie run s = let opened = s.5.5 in content_typed s.0 opened.0 (has_ie kind s.0) 0 ie opened.2 opened.5

pub in_order_typed : (kind : MessageKind) (before : List Ie) (at : ℕ) (ies : List Ie) (run : List Bool) → InOrder (ie_in kind) before at ies run → AreTyped ies
in_order_typed kind before at [] run s = tt
in_order_typed kind before at (ie ∷ ies) run s = (ie_typed kind before at ie s.0 s.3, in_order_typed kind (before ++ ie ∷ []) (at + length s.0) ies s.1 s.4)

typed_under : (id : ℕ) (ies : List Ie) → AreTyped ies → IfSome (found id ies) (IsSpelled id)
unfolding found
typed_under id [] typed = tt
typed_under id (Named n v ∷ ies) typed =
    elim (cases_Bool (eqb n id)) [
      | inl t ↦ rw t (subst (λ m. IsSpelled m v) (eqb-true n id t) typed.0)
      | inr f ↦ rw f (typed_under id ies typed.1)
    ]
typed_under id (Other n ∷ ies) typed = typed_under id ies typed.1

-- ---- the IEs of rows

-- under each id stands a value of its IE, or none
abbrev AreUnder : {A : Type 0} → Rows A → (ℕ → Option FieldValue) → Type 0
AreUnder last under = Unit {0}
AreUnder (row ▸ rest) under = IsOf (ie_of row) (under (row_id row)) × AreUnder rest under

one_under : (id : ℕ) (o : Option FieldValue) → IfSome o (IsSpelled id) → IsOf (ie_with id) o
unfolding format
one_under id None s = tt
one_under id (Some v) s = let x = known id s.0 v s.1 s.2 in (x.0, x.1)

are_under : {A : Type 0} (rows : Rows A) (ies : List Ie) → AreTyped ies → AreUnder rows (λ id. found id ies)
are_under last ies typed = tt
are_under (row ▸ rest) ies typed = (one_under (row_id row) (found (row_id row) ies) (typed_under (row_id row) ies typed), are_under rest ies typed)

-- ---- messages

-- what is made of values: a message of that kind that has them, or the id of the first that is lacking
abbrev pub Makes : MessageKind → Slots → Result Pdu ℕ → Type 0
Makes kind values (Ok p) = (kind_of p ≡ kind) × (values_of p ≡ values)
Makes kind values (Err id) = lacking (rows_of kind) values ≡ Some id

-- the messages of a kind have its values
abbrev HasKind : Message → MessageKind → Type 0
HasKind m kind = (fields : m.Fields) → (kind_of (taken m.rows m.make fields) ≡ kind) × (values_of (taken m.rows m.make fields) ≡ values m.rows fields)

of_fields : (m : Message) (kind : MessageKind) → HasKind m kind → table m.rows ≡ rows_of kind → (slots : Slots) (r : Result m.Fields ℕ) → MakesFields m.rows slots r → Makes kind slots (made (taken m.rows m.make) r)
of_fields m kind has rows slots (Ok fields) h = ((has fields).0, (has fields).1 ∙ h)
of_fields m kind has rows slots (Err id) h = ap (λ t. lacking t slots) (sym rows) ∙ h

of_message : (m : Message) (kind : MessageKind) → HasKind m kind → table m.rows ≡ rows_of kind → (slots : Slots) → AreOf m.rows 0 slots → Makes kind (front m.rows 0 slots) (made_from m slots)
of_message m kind has rows slots are = of_fields m kind has rows (front m.rows 0 slots) _ (makes_fields m.rows 0 slots are)

pub makes : (kind : MessageKind) (ies : List Ie) → AreTyped ies → Makes kind (fields_of kind ies) (message_from kind (slots_of kind ies))
unfolding message_from front AreOf
makes kind.InitialUeMessage ies typed = of_message (message_of kind.InitialUeMessage) kind.InitialUeMessage (λ fields. (refl, refl)) refl (slots_of kind.InitialUeMessage ies) (are_under (message_of kind.InitialUeMessage).rows ies typed)
makes kind ies typed = of_message (message_of kind) kind (λ fields. (refl, refl)) refl (slots_of kind ies) (are_under (message_of kind).rows ies typed)

-- ---- and back

-- the places behind a table
abbrev pub filled_up : MessageKind → Slots → Slots
filled_up kind values = values ++ replicate (6 - length (rows_of kind)) None

pub made_back : (p : Pdu) → message_from (kind_of p) (filled_up (kind_of p) (values_of p)) ≡ Ok p
unfolding message_from front
made_back (pdus.UeContextReleaseCommand ids cause) = message_back (message_of kind.UeContextReleaseCommand) (pdus.UeContextReleaseCommand ids cause) _ refl refl _ refl
made_back p = message_back (message_of (kind_of p)) p _ refl refl _ refl

-- a message lacks nothing that it needs
pub whole_values : (p : Pdu) → lacking (rows_of (kind_of p)) (values_of p) ≡ None
whole_values (pdus.UeContextReleaseCommand ids cause) = message_whole (message_of kind.UeContextReleaseCommand) (pdus.UeContextReleaseCommand ids cause) _ refl
whole_values p = message_whole (message_of (kind_of p)) p _ refl

pub missing_is : (rows : List IeRow) (ies : List Ie) → missing rows ies ≡ lacking rows (map (λ row. found row.id ies) rows)
unfolding missing lacking
missing_is [] ies = refl
missing_is (row ∷ rows) ies = ap (λ o. cond (row.needed && is_none (found row.id ies)) (Some row.id) o) (missing_is rows ies)
