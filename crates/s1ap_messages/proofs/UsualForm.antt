-- What is written for a message, octet by octet.
use Rattle.std.proofs.Common.{◌≡◌, ℕ, zero, suc, ◌+◌, ◌-◌, ◌*◌, ◌<◌, Bool, eqb, ◌&&◌, List, [], ◌∷◌, ◌++◌, length, get_or, take, drop, Option, Some, None, IfSome, is_some, unwrap_or, option_map, cond, Ok, refl, sym, ap, ◌∙◌, subst, inl, inr, append_assoc, arith}
use Rattle.std.specs.List.{All, AllByRecursion}
use Rattle.std.proofs.lemmas.Bool.{cases_Bool, eqb-true, and_parts}
use Rattle.std.proofs.lemmas.List.{length-append, take_at}
use Rattle.std.proofs.lemmas.List.Sums.{count_by-le-length, sum_by-cons}
use Rattle.aper_fields.specs.Bits.{bits, bits_of, zeros, gap, filled}
use Rattle.aper_fields.specs.Run.{fixed_bits_run, number_run}
use Rattle.aper_fields.specs.Spelling.{IsOctets}
use Rattle.aper_fields.proofs.BitLaws.{length-bits, length-bits_of}
use Rattle.aper_fields.proofs.Packed.{IsBytes, packed_is}
use Rattle.protocol_ies.specs.declared.tables.IeRow.{IeRow}
use Rattle.s1ap_pdu.specs.declared.tables.MessageKind.{MessageKind}
use Rattle.s1ap_pdu.specs.declared.tables.MessageKind.TheVariants as kind
use Rattle.s1ap_pdu.specs.Messages.{rows_of}
use Rattle.s1ap_ies.specs.declared.stmsi.Stmsi.{Stmsi}
use Rattle.aper_fields.specs.Asn1.{run}
use Rattle.s1ap_ies.proofs.Items.{dones_fit, dones_right, setups_fit, setups_right}
use Rattle.protocol_ies.specs.Criticalities.{criticality_number}
use Rattle.s1ap_pdu.specs.declared.value.IeValue.TheVariants as value
use Rattle.s1ap_pdu.specs.declared.pdu.Pdu.{Pdu}
use Rattle.s1ap_pdu.specs.declared.pdu.Pdu.TheVariants as pdu
use Rattle.s1ap_pdu.specs.Messages.{outcome_index, header_of, kinds, kind_of, values_of}
use Rattle.s1ap_pdu.specs.Grammar.{Spells, kind_among, kind_with}
use Rattle.s1ap_pdu.specs.Built.{message_at}
use Rattle.protocol_ies.specs.Slots.{count_of}
use Rattle.s1ap_pdu.specs.Run.{value_run, ie_run, fields_run, ies_run, header_run, pdu_run, written, IsShort, IsRightValue, IsRightField, IsRight, HasOctetsIn, HasOctets}
use Rattle.aper_octets.specs.Octets.{counted, ie_octets}
use Rattle.s1ap_messages.specs.Usual.{octets_of, value_octets, Given, HasForm, IsUsualValue, fields_octets, body_octets, message_octets, usual_octets, unfinished_octets, HasForms, IsPut, HasUsualValues, IsUsual, AreFieldsOf, AreSmallIds, BeginsAs}
use Rattle.s1ap_pdu.specs.Values.{FieldValue}
use Rattle.s1ap_pdu.proofs.Distinct.{few_rows}
use Rattle.s1ap_pdu.proofs.Writes.{values-length}
use Rattle.s1ap_pdu.proofs.Whole.{written_spelled}
use Rattle.s1ap_pdu.proofs.Exact.{only_message}
use Rattle.s1ap_messages.proofs.UsualBits.{AreOctets, octets_then, two_bits, low_octet, filled_is, Contains, contains_octets, open_octets, item_is, ie_few}
use Rattle.s1ap_messages.proofs.UsualNumbers.{mme_is, enb_is, rates_are, ids_are}
use Rattle.s1ap_messages.proofs.UsualValues.{counted_some, text_is, key_is, tai_is, cgi_is, stmsi_is, caps_are, rrc_is, cause_is}
use Rattle.s1ap_messages.proofs.UsualErabs.{dones_are, setups_are, counted_behind, id_behind, item_behind, setups_behind}

-- ---- values

-- the content of a field
abbrev content_run : Option FieldValue → List Bool
content_run None = []
content_run (Some v) = value_run v 0

field_is : (field : Option FieldValue) → Given (octets_of field) (IfSome field IsRightValue) → Contains (content_run field) (unwrap_or (octets_of field) [])
unfolding value_run run
field_is (Some (value.Mme mme)) right = mme_is mme (omega (arith, right))
field_is (Some (value.Cause cause)) right = cause_is cause right
field_is (Some (value.Enb enb)) right = enb_is enb (omega (arith, right))
field_is (Some (value.Bearers bearers)) right = setups_are bearers (setups_right (λ octets. Unit {0}) bearers right).2
field_is (Some (value.Nas nas)) right = contains_octets _ (counted nas) (counted_some nas) (text_is nas (omega (arith, right.0)))
field_is (Some (value.Done done)) right = dones_are done (dones_right (λ octets. Unit {0}) done right).2
field_is (Some (value.Rates rates)) right = rates_are rates right
field_is (Some (value.Tai tai)) right = tai_is tai
field_is (Some (value.Key key)) right = contains_octets _ key (omega (arith, right.0)) (key_is key)
field_is (Some (value.Radio radio)) right = contains_octets _ (counted radio) (counted_some radio) (text_is radio (omega (arith, right.0)))
field_is (Some (value.Stmsi stmsi)) right = stmsi_is stmsi right
field_is (Some (value.Ids ids)) right = ids_are ids right
field_is (Some (value.Cgi cgi)) right = cgi_is cgi
field_is (Some (value.Caps caps)) right = caps_are caps right
field_is (Some (value.Rrc rrc)) right = rrc_is rrc right
field_is _ right = absurd right

value_is : (v : FieldValue) → IsUsualValue v → Contains (value_run v 0) (value_octets v)
value_is v right = field_is (Some v) right

given : {P : Type 0} (octets : Option (List ℕ)) → Given octets P → P
given None h = absurd h
given (Some octets) h = h

both_given : {P : Type 0} (octets : Option (List ℕ)) → P → Given octets (Unit {0}) → Given octets P
both_given None h form = form
both_given (Some octets) h form = h

in_range : (v : FieldValue) → IsUsualValue v → IsRightValue v
in_range v usual = given (octets_of (Some v)) usual

-- ---- the IEs of a table

-- values in their ranges, with octets
abbrev AreUsual : List (Option FieldValue) → Type 0
AreUsual values = AllByRecursion (λ v. IfSome v IsUsualValue) values

fields_are : (rows : List IeRow) (values : List (Option FieldValue)) → AreUsual values → IsOctets (fields_octets rows values) → length (fields_octets rows values) < 16384 → AreOctets (fields_run rows values) (fields_octets rows values)
unfolding fields_run bits_of ie_run
fields_are [] [] usual h few = λ k. refl
fields_are [] (v ∷ values) usual h few = λ k. refl
fields_are (row ∷ rows) [] usual h few = λ k. refl
fields_are (row ∷ rows) (None ∷ values) usual h few =
    octets_then (ie_run row None) (fields_run rows values) [] (fields_octets rows values) (λ k. refl) (fields_are rows values usual.1 h few)
fields_are (row ∷ rows) (Some v ∷ values) usual h few =
    let criticality = criticality_number row.criticality in
    let l = ie_few row.id criticality (value_octets v) (fields_octets rows values) few in
    let small = id_behind row.id criticality (value_octets v) (fields_octets rows values) h in
    let behind = item_behind row.id criticality (value_octets v) (fields_octets rows values) h in
    octets_then (ie_run row (Some v)) (fields_run rows values) (ie_octets row.id criticality (value_octets v)) (fields_octets rows values) (item_is row.id criticality (value_run v 0) (value_octets v) small (value_is v usual.0) l.0) (fields_are rows values usual.1 behind.1 l.1)

-- ---- tables

-- the rows of a table of six places
pub rows_taken : (all rows pad : List IeRow) (n : ℕ) → all ≡ rows ++ pad → n ≡ length rows → take n all ≡ rows
rows_taken all rows pad n e l = ap (take n) e ∙ take_at rows pad n (sym l)

-- ids are less than 256
pub small_ids : (kind : MessageKind) → AreSmallIds (rows_of kind)
small_ids kind.InitialUeMessage = search arith
small_ids _ = search arith

-- an IE that is absent has no octets
pub absent_octets : (rows : List IeRow) → fields_octets rows (None ∷ []) ≡ []
absent_octets [] = refl
absent_octets (row ∷ rows) = refl

-- a value in front of others
pub count_more : (v : FieldValue) (values : List (Option FieldValue)) → count_of (Some v ∷ values) ≡ 1 + count_of values
count_more v values = sum_by-cons (λ (x : Option FieldValue). cond (is_some x) 1 0) (Some v) values

-- ---- the message

body_parts : (kind : MessageKind) (values : List (Option FieldValue)) → ies_run kind values 0 ≡ bits 8 0 ++ (bits 16 (count_of values - 0) ++ fields_run (rows_of kind) values 24)
unfolding ies_run fixed_bits_run number_run bits
body_parts kind values = refl

few_fields : (p : Pdu) → count_of (values_of p) < 256
few_fields p = omega (arith, few_rows (kind_of p), values-length p, count_by-le-length (λ (v : Option FieldValue). is_some v) (values_of p))

-- its IEs are octets
abbrev HasOctetIes : Pdu → Type 0
HasOctetIes p = IsOctets (fields_octets (rows_of (kind_of p)) (values_of p))

body_is : (p : Pdu) → IsUsual p → HasOctetIes p → ies_run (kind_of p) (values_of p) 0 ≡ bits_of (body_octets p)
unfolding bits_of
body_is p usual h =
    let kind = kind_of p in
    let values = values_of p in
    let m : count_of values - 0 ≡ count_of values = omega arith in
    let here : fields_run (rows_of kind) values 24 ≡ bits_of (fields_octets (rows_of kind) values) = fields_are (rows_of kind) values usual.0 h (omega (arith, usual.1)) 3 in
    rw (body_parts kind values, m, low_octet (count_of values) (few_fields p), here) (simp append_assoc)

body_content : (p : Pdu) → IsUsual p → HasOctetIes p → Contains (ies_run (kind_of p) (values_of p) 0) (body_octets p)
body_content p usual h = contains_octets _ (body_octets p) (omega arith) (body_is p usual h)

header_is : (kind : MessageKind) → header_run (header_of kind) 0 ≡ bits 8 (32 * (outcome_index (header_of kind).outcome)) ++ (bits 8 (header_of kind).code ++ bits 2 (criticality_number (header_of kind).criticality))
unfolding header_run fixed_bits_run number_run bits
header_is kind.InitialUeMessage = refl
header_is _ = refl

message_is : (p : Pdu) → IsUsual p → HasOctetIes p → pdu_run (kind_of p) (values_of p) 0 ≡ bits_of (usual_octets p)
unfolding pdu_run usual_octets bits_of
message_is p usual h =
    let header = header_of (kind_of p) in
    let front : List Bool = bits 8 (32 * (outcome_index header.outcome)) ++ (bits 8 header.code ++ bits 2 (criticality_number header.criticality)) in
    let l : 0 + length front ≡ 18 = omega (arith, length-append (bits 8 (32 * (outcome_index header.outcome))) (bits 8 header.code ++ bits 2 (criticality_number header.criticality)), length-append (bits 8 header.code) (bits 2 (criticality_number header.criticality)), length-bits 8 (32 * (outcome_index header.outcome)), length-bits 8 header.code, length-bits 2 (criticality_number header.criticality)) in
    rw (header_is (kind_of p), l, open_octets _ (body_octets p) 18 (body_content p usual h) usual.1, two_bits (criticality_number header.criticality)) (simp append_assoc)

are_octets : (octets : List ℕ) → IsBytes octets → IsOctets octets
are_octets [] fits = tt
are_octets (b ∷ bs) fits = (fits 0, are_octets bs (λ i. fits (suc i)))

ies_behind : (p : Pdu) (octets : List ℕ) → IsBytes octets → octets ≡ usual_octets p → HasOctetIes p
unfolding usual_octets
ies_behind p octets fits e =
    let all : IsOctets (usual_octets p) = subst IsOctets e (are_octets octets fits) in
    let body = counted_behind (body_octets p) all.1.1.1 in
    body.1.1.1

-- octets in the usual form of a message are what is written for it
pub usual_is_written : (p : Pdu) (octets : List ℕ) → IsBytes octets → octets ≡ usual_octets p → IsUsual p → octets ≡ written p
unfolding written
usual_is_written p octets fits e usual =
    let run = pdu_run (kind_of p) (values_of p) 0 in
    let same : run ≡ bits_of octets = message_is p usual (ies_behind p octets fits e) ∙ ap bits_of (sym e) in
    packed_is octets run fits (sym (ap (λ (l : List Bool). filled l) same ∙ filled_is octets))

-- ---- such a message is right

short_content : (body : List Bool) (octets : List ℕ) → Contains body octets → length octets < 16384 → IsShort body
short_content body octets c few =
    elim (cases_Bool (eqb (length body) 0)) [
      | inl none ↦ omega (arith, eqb-true _ _ none)
      | inr some ↦
          let e : filled body ≡ bits_of octets = rw some at (c.0) in
          omega (arith, ap length e, length-append body (zeros (gap (length body))), length-bits_of octets, few)
    ]

fields_right : (rows : List IeRow) (values : List (Option FieldValue)) → length values ≡ length rows → AreUsual values → length (fields_octets rows values) < 16384 → AllByRecursion (λ v. IfSome v IsRightField) values
fields_right rows [] whole usual few = tt
fields_right [] (v ∷ values) whole usual few = absurd (omega (arith, whole))
fields_right (row ∷ rows) (None ∷ values) whole usual few = (tt, fields_right rows values (omega (arith, whole)) usual.1 few)
fields_right (row ∷ rows) (Some v ∷ values) whole usual few =
    let l = ie_few row.id (criticality_number row.criticality) (value_octets v) (fields_octets rows values) few in
    ((in_range v usual.0, short_content _ _ (value_is v usual.0) l.0), fields_right rows values (omega (arith, whole)) usual.1 l.1)

usual_right : (p : Pdu) → IsUsual p → HasOctetIes p → IsRight p
usual_right p usual h =
    (fields_right (rows_of (kind_of p)) (values_of p) (values-length p) usual.0 (omega (arith, usual.1)), short_content _ _ (body_content p usual h) usual.1)

-- ---- its strings are octets

field_behind : (field : Option FieldValue) → Given (octets_of field) (IfSome field IsRightValue) → IsOctets (unwrap_or (octets_of field) []) → IfSome field HasOctetsIn
field_behind (Some (value.Bearers bearers)) right h = setups_fit IsOctets bearers (setups_right (λ octets. Unit {0}) bearers right) (setups_behind bearers h)
field_behind (Some (value.Nas nas)) right h = (right.0, counted_behind nas h)
field_behind (Some (value.Done done)) right h = dones_fit IsOctets done (dones_right (λ octets. Unit {0}) done right)
field_behind (Some (value.Key key)) right h = (right.0, h)
field_behind (Some (value.Radio radio)) right h = (right.0, counted_behind radio h)
field_behind _ right h = search right

fields_behind : (rows : List IeRow) (values : List (Option FieldValue)) → length values ≡ length rows → AreUsual values → IsOctets (fields_octets rows values) → AllByRecursion (λ v. IfSome v HasOctetsIn) values
fields_behind rows [] whole usual h = tt
fields_behind [] (v ∷ values) whole usual h = absurd (omega (arith, whole))
fields_behind (row ∷ rows) (None ∷ values) whole usual h = (tt, fields_behind rows values (omega (arith, whole)) usual.1 h)
fields_behind (row ∷ rows) (Some v ∷ values) whole usual h =
    let r = item_behind row.id (criticality_number row.criticality) (value_octets v) (fields_octets rows values) h in
    (field_behind (Some v) usual.0 r.0, fields_behind rows values (omega (arith, whole)) usual.1 r.1)

usual_has_octets : (p : Pdu) → HasUsualValues p → HasOctetIes p → HasOctets p
usual_has_octets p usual h = fields_behind (rows_of (kind_of p)) (values_of p) (values-length p) usual h

-- what the reading gives of octets in the usual form of a message
usual_read : (p : Pdu) (octets : List ℕ) → IsBytes octets → octets ≡ usual_octets p → IsUsual p → message_at octets ≡ Ok p
usual_read p octets fits e usual =
    let h = ies_behind p octets fits e in
    let spelled : Spells (written p) p = written_spelled p (usual_right p usual h) (usual_has_octets p usual.0 h) in
    only_message octets p (subst (λ o. Spells o p) (sym (usual_is_written p octets fits e usual)) spelled)

pub usual_reads : (r : Option Pdu) (octets : List ℕ) → IsBytes octets → IfSome r (λ p. (octets ≡ usual_octets p) × IsUsual p) → IfSome r (λ p. message_at octets ≡ Ok p)
usual_reads None octets fits found = tt
usual_reads (Some p) octets fits found = usual_read p octets fits found.0 found.1

bytes_of_all : (octets : List ℕ) → All (λ (x : ℕ). x < 256) octets → IsBytes octets
bytes_of_all [] all i = omega arith
bytes_of_all (b ∷ bs) all i = elim i as (λ k. get_or (b ∷ bs) k 0 < 256) [ zero ↦ all 0 0 (omega arith) | suc i ↦ bytes_of_all bs (λ k d l. all (suc k) d (omega (arith, l))) i ]

-- fields of a message that is right are in their ranges
fields_usual : (values : List (Option FieldValue)) → AllByRecursion (λ v. IfSome v IsRightField) values → AllByRecursion (λ v. IfSome v HasForm) values → AreUsual values
fields_usual [] right forms = tt
fields_usual (None ∷ values) right forms = (tt, fields_usual values right.1 forms.1)
fields_usual (Some v ∷ values) right forms = (both_given (octets_of (Some v)) right.0.0 forms.0, fields_usual values right.1 forms.1)

-- ---- messages as they are read

-- a kind that is found by its outcome and its procedure code begins with these
among_begins : (kinds : List MessageKind) (kind : MessageKind) (outcome code : ℕ) → kind_among kinds outcome code ≡ Some kind → (outcome_index (header_of kind).outcome ≡ outcome) × ((header_of kind).code ≡ code)
unfolding kind_among
among_begins [] kind outcome code e = absurd cc
among_begins (k ∷ kinds) kind outcome code e =
    let same = eqb (outcome_index (header_of k).outcome) outcome in
    elim (cases_Bool (same && eqb (header_of k).code code)) [
      | inl found ↦
          let is : k ≡ kind = let h : Some k ≡ Some kind = rw found at e in cc in
          let parts = and_parts same (eqb (header_of k).code code) found in
          rw (← is) (eqb-true _ _ parts.0, eqb-true _ _ parts.1)
      | inr other ↦ among_begins kinds kind outcome code (rw other at e)
    ]

pub kind_begins : (kind : MessageKind) (index outcome code criticality : ℕ) → kind_with index code ≡ Some kind → outcome ≡ 32 * index → criticality ≡ 64 * criticality_number (header_of kind).criticality → BeginsAs kind outcome code criticality
kind_begins kind index outcome code criticality e o c =
    let h = among_begins kinds kind index code e in
    (o ∙ ap (λ (n : ℕ). 32 * n) (sym h.0), sym h.1, c)

usual_from : (p : Pdu) (kind : MessageKind) (octets rest : List ℕ) (count : ℕ) → kind_of p ≡ kind → rest ≡ fields_octets (rows_of kind) (values_of p) → count ≡ count_of (values_of p) → HasUsualValues p → octets ≡ message_octets (header_of kind) (0 ∷ 0 ∷ count ∷ rest) → length (0 ∷ 0 ∷ count ∷ rest) < 16384 → (octets ≡ usual_octets p) × IsUsual p
unfolding usual_octets
usual_from p kind octets rest count k r c right e few =
    let body : 0 ∷ 0 ∷ count ∷ rest ≡ body_octets p = rw (c, r, ← k) refl in
    (e ∙ ap (λ b. message_octets (header_of kind) b) body ∙ ap (λ x. message_octets (header_of x) (body_octets p)) (sym k), (right, subst (λ (b : List ℕ). length b < 16384) body few))

-- what the reader of a body found, behind the header of its kind
pub usual_body : (kind : MessageKind) (r : Option Pdu) (octets rest : List ℕ) (outcome code criticality count : ℕ) → octets ≡ outcome ∷ code ∷ criticality ∷ counted (0 ∷ 0 ∷ count ∷ rest) → length (0 ∷ 0 ∷ count ∷ rest) < 16384 → BeginsAs kind outcome code criticality → IfSome r (AreFieldsOf kind rest count) → IfSome r (λ p. (octets ≡ usual_octets p) × IsUsual p)
usual_body kind None octets rest outcome code criticality count e few h found = tt
usual_body kind (Some p) octets rest outcome code criticality count e few h found = usual_from p kind octets rest count found.0 found.1 found.2 found.3 (e ∙ rw (h.0, h.1, h.2) refl) few

-- ---- messages as they are written

-- an S-TMSI has octets, where there is one
stmsi_form : (stmsi : Option Stmsi) → IfSome (option_map value.Stmsi stmsi) HasForm
stmsi_form None = tt
stmsi_form (Some stmsi) = tt

finished : (p : Pdu) (out octets : List ℕ) → out ≡ unfinished_octets p → octets ≡ take 3 out ++ counted (drop 4 out) → length out < 16388 → (octets ≡ usual_octets p) × (length (body_octets p) < 16384)
unfolding unfinished_octets usual_octets
finished p out octets e set few =
    let l : length out ≡ 4 + length (body_octets p) = ap length e ∙ omega arith in
    (set ∙ ap (λ (x : List ℕ). take 3 x ++ counted (drop 4 x)) e, omega (arith, l, few))

-- what is written octet by octet has octets
put_forms : (p : Pdu) → IsPut p → HasForms p
put_forms (pdu.InitialUeMessage enb nas tai cgi rrc stmsi) is = search (stmsi_form stmsi)
put_forms _ is = search

-- what was finished is what is written
pub finished_is_written : (p : Pdu) (out octets : List ℕ) → IsRight p → IsPut p → out ≡ unfinished_octets p → octets ≡ take 3 out ++ counted (drop 4 out) → length out < 16388 → All (λ (x : ℕ). x < 256) octets → octets ≡ written p
finished_is_written p out octets right is e set few all =
    let forms = put_forms p is in
    let f = finished p out octets e set few in
    usual_is_written p octets (bytes_of_all octets all) f.0 (fields_usual (values_of p) right.0 forms, f.1)
