-- What is written for the IEs of a message takes no more bits than the IEs that were read.
use Rattle.std.proofs.Common.{◌≡◌, ℕ, ◌+◌, ◌%◌, ◌≤◌, false, eqb, List, [], ◌∷◌, length, map, Option, Some, None, refl, ap, inl, inr, arith}
use Rattle.std.specs.List.{AllByRecursion, IsDistinct, sum_by}
use Rattle.std.proofs.lemmas.Bool.{cases_Bool, eqb-true}
use Rattle.std.proofs.lemmas.List.{length-append}
use Rattle.std.proofs.lemmas.List.Sums.{sum_by-cons}
use Rattle.protocol_ies.specs.declared.tables.IeRow.{IeRow}
use Rattle.aper_fields.specs.Asn1.{item_run}
use Rattle.protocol_ies.specs.Criticalities.{criticality_number}
use Rattle.s1ap_pdu.specs.Values.{FieldValue}
use Rattle.s1ap_pdu.specs.Grammar.{Ie, Named, Other, found}
use Rattle.s1ap_pdu.specs.Run.{value_run, ie_run, fields_run}
use Rattle.aper_fields.proofs.ItemSize.{size, size_whole, length-item_run}
use Rattle.s1ap_pdu.proofs.Whole.{named_behind}

abbrev Slot : Type 0
Slot = Option FieldValue

abbrev pub cost : Slot → ℕ
cost None = 0
cost (Some v) = size (value_run v 0)

-- of those that were read, what their values take
abbrev pub ie_cost : Ie → ℕ
ie_cost (Named id v) = size (value_run v 0)
ie_cost (Other id) = 0

pub length-fields_run : (rows : List IeRow) (values : List Slot) (at : ℕ) → at % 8 ≡ 0 → length (fields_run rows values at) ≤ sum_by cost values
unfolding fields_run ie_run
length-fields_run [] values at whole = omega arith
length-fields_run (row ∷ rows) [] at whole = omega arith
length-fields_run (row ∷ rows) (None ∷ values) at whole =
    let rest = length-fields_run rows values (at + 0) (omega (arith, whole)) in
    omega (arith, rest, sum_by-cons cost None values)
length-fields_run (row ∷ rows) (Some v ∷ values) at whole =
    let body = value_run v 0 in
    let item = item_run row.id (criticality_number row.criticality) body at in
    let len : length item ≡ size body = omega (arith, whole, length-item_run row.id (criticality_number row.criticality) at body) in
    let next : (at + length item) % 8 ≡ 0 = omega (arith, whole, len, size_whole body) in
    omega (arith, len, length-fields_run rows values (at + length item) next, length-append item (fields_run rows values (at + length item)), sum_by-cons cost (Some v) values)

-- each value is found under one id at most
one_more : (id : ℕ) (v : FieldValue) (ies : List Ie) (rows : List IeRow) → IsDistinct eqb (map (λ row. row.id) rows) → sum_by cost (map (λ row. found row.id (Named id v ∷ ies)) rows) ≤ size (value_run v 0) + sum_by cost (map (λ row. found row.id ies) rows)
unfolding found IsDistinct
one_more id v ies [] distinct = omega arith
one_more id v ies (row ∷ rows) distinct =
    let here = map (λ (r : IeRow). found r.id ies) rows in
    let there = map (λ (r : IeRow). found r.id (Named id v ∷ ies)) rows in
    let before : sum_by cost (found row.id ies ∷ here) ≡ cost (found row.id ies) + sum_by cost here = sum_by-cons cost (found row.id ies) here in
    elim (cases_Bool (eqb id row.id)) [
      | inl t ↦
          let differ : AllByRecursion (λ other. eqb id other ≡ false) (map (λ (r : IeRow). r.id) rows) = rw (eqb-true id row.id t) distinct.0 in
          let same : there ≡ here = named_behind id v ies rows differ in
          rw t (omega (arith, before, ap (sum_by cost) same, sum_by-cons cost (Some v) there))
      | inr f ↦ rw f (omega (arith, before, one_more id v ies rows distinct.1, sum_by-cons cost (found row.id ies) there))
    ]

none_cost : (rows : List IeRow) → sum_by cost (map (λ row. found row.id []) rows) ≡ 0
unfolding found
none_cost [] = refl
none_cost (row ∷ rows) = omega (arith, sum_by-cons cost None (map (λ (r : IeRow). found r.id []) rows), none_cost rows)

pub found_cost : (rows : List IeRow) (ies : List Ie) → IsDistinct eqb (map (λ row. row.id) rows) → sum_by cost (map (λ row. found row.id ies) rows) ≤ sum_by ie_cost ies
unfolding found
found_cost rows [] distinct = omega (arith, none_cost rows)
found_cost rows (Named id v ∷ ies) distinct = omega (arith, one_more id v ies rows distinct, found_cost rows ies distinct, sum_by-cons ie_cost (Named id v) ies)
found_cost rows (Other id ∷ ies) distinct = omega (arith, found_cost rows ies distinct, sum_by-cons ie_cost (Other id) ies)
