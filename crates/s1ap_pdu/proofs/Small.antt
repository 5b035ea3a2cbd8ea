-- A message of small fields fits into its open types.
use Rattle.std.proofs.Common.{◌+◌, ◌*◌, ◌≤◌, List, [], ◌∷◌, length, Option, Some, None, IfSome, arith}
use Rattle.std.specs.List.{AllByRecursion}
use Rattle.aper_fields.specs.Run.{◌▸◌, number_run, fixed_bits_run}
use Rattle.aper_fields.proofs.Lengths.{Takes, then_takes, number_takes, fixed_bits_takes}
use Rattle.protocol_ies.specs.declared.tables.IeRow.{IeRow}
use Rattle.s1ap_pdu.specs.declared.tables.MessageKind.{MessageKind}
use Rattle.s1ap_pdu.specs.Messages.{rows_of}
use Rattle.aper_fields.proofs.Sizes.{item_takes, takes_of, most_of}
use Rattle.protocol_ies.specs.Criticalities.{criticality_number}
use Rattle.s1ap_pdu.specs.declared.pdu.Pdu.{Pdu}
use Rattle.s1ap_pdu.specs.Values.{FieldValue, asn1_of}
use Rattle.s1ap_pdu.specs.Messages.{kind_of, values_of}
use Rattle.protocol_ies.specs.Slots.{count_of}
use Rattle.s1ap_pdu.specs.Run.{value_run, ie_run, fields_run, ies_run, IsRight, IsRightValue, IsRightField, IsShort}
use Rattle.s1ap_pdu.proofs.Distinct.{few_rows}
use Rattle.s1ap_pdu.proofs.Writes.{values-length}
use Rattle.s1ap_pdu.proofs.Ies.{value_sound}
use Rattle.s1ap_pdu.specs.Small.{most_of_all, IsSmall}

abbrev AreRight : List (Option FieldValue) → Type 0
AreRight values = AllByRecursion (λ v. IfSome v IsRightValue) values

-- ---- values

value_takes : (v : FieldValue) → IsRightValue v → Takes (most_of (asn1_of v) v) (value_run v)
unfolding value_run
value_takes v right = takes_of (λ octets. Unit {0}) (asn1_of v) (value_sound v) v right

-- ---- the message

ie_takes : (row : IeRow) (v : FieldValue) → IsRightValue v → Takes (114 + most_of (asn1_of v) v) (ie_run row (Some v))
unfolding ie_run
ie_takes row v right = item_takes row.id (criticality_number row.criticality) (most_of (asn1_of v) v) (value_run v 0) (value_takes v right 0)

no_ie_takes : (row : IeRow) → Takes 0 (ie_run row None)
unfolding ie_run
no_ie_takes row = λ at. omega arith

fields_take : (rows : List IeRow) (values : List (Option FieldValue)) → AreRight values → Takes (length values * 114 + most_of_all values) (fields_run rows values)
unfolding fields_run
fields_take [] values all = λ at. omega arith
fields_take (row ∷ rows) [] all = λ at. omega arith
fields_take (row ∷ rows) (None ∷ values) all =
    let whole = then_takes 0 (length values * 114 + most_of_all values) (ie_run row None) (fields_run rows values) (no_ie_takes row) (fields_take rows values all.1) in
    λ at. omega (arith, whole at)
fields_take (row ∷ rows) (Some v ∷ values) all =
    let whole = then_takes (114 + most_of (asn1_of v) v) (length values * 114 + most_of_all values) (ie_run row (Some v)) (fields_run rows values) (ie_takes row v all.0) (fields_take rows values all.1) in
    λ at. omega (arith, whole at)

ies_short : (kind : MessageKind) (values : List (Option FieldValue)) → length values ≤ 6 → AreRight values → most_of_all values ≤ 130000 → IsShort (ies_run kind values 0)
unfolding ies_run
ies_short kind values few all most =
    let whole = then_takes 8 (74 + (length values * 114 + most_of_all values)) (fixed_bits_run 1 0) (number_run 0 65535 (count_of values) ▸ fields_run (rows_of kind) values) (fixed_bits_takes 1 0) (then_takes 74 (length values * 114 + most_of_all values) (number_run 0 65535 (count_of values)) (fields_run (rows_of kind) values) (number_takes 0 65535 (count_of values)) (fields_take (rows_of kind) values all)) in
    omega (arith, whole 0)

right_fields : (values : List (Option FieldValue)) → AreRight values → most_of_all values ≤ 130000 → AllByRecursion (λ v. IfSome v IsRightField) values
right_fields [] all most = tt
right_fields (None ∷ values) all most = (tt, right_fields values all.1 most)
right_fields (Some v ∷ values) all most = ((all.0, omega (arith, value_takes v all.0 0, most)), right_fields values all.1 (omega (arith, most)))

pub small_right : (p : Pdu) → IsSmall p → IsRight p
small_right p small = (right_fields (values_of p) small.fields small.most, ies_short (kind_of p) (values_of p) (omega (arith, few_rows (kind_of p), values-length p)) small.fields small.most)
