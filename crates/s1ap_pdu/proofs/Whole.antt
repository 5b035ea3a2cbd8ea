-- What is written for a message spells it.
use Rattle.std.proofs.Common.{◌≡◌, ℕ, ◌+◌, ◌<◌, ◌≤◌, Bool, true, false, ◌&&◌, cond, eqb, ltb, leb, List, [], ◌∷◌, ◌++◌, length, map, Option, Some, None, is_some, IfSome, refl, sym, ap, ◌∙◌, subst, arith}
use Rattle.std.specs.List.{AllByRecursion, IsDistinct, list_all}
use Rattle.std.proofs.lemmas.Bool.{eq-eqb, eqb-true, eqb-false, ne_eqb, leb-true, ltb-true, and_parts}
use Rattle.std.proofs.lemmas.List.{append-nil, length-append}
use Rattle.std.proofs.lemmas.List.Sums.{count_by-le-length, sum_by-cons}
use Rattle.aper_fields.specs.Bits.{zeros, gap}
use Rattle.aper_fields.specs.Run.{◌▸◌, fixed_bits_run, number_run, open_run, closing}
use Rattle.aper_fields.proofs.BitLaws.{length-bits}
use Rattle.aper_fields.proofs.Packed.{bits_of-packed}
use Rattle.aper_fields.proofs.Periodic.{IsPeriodic, constant_periodic, then_periodic, number_periodic, fixed_bits_periodic}
use Rattle.protocol_ies.specs.declared.tables.IeRow.{IeRow}
use Rattle.s1ap_pdu.specs.declared.tables.MessageKind.{MessageKind}
use Rattle.s1ap_pdu.specs.declared.tables.MessageKind.TheVariants as kind
use Rattle.s1ap_pdu.specs.Messages.{rows_of}
use Rattle.aper_fields.specs.Sequence.{zero_bit_in}
use Rattle.aper_fields.specs.Asn1.{index_run, format, item_run}
use Rattle.aper_fields.specs.Format.{IsSpelledBy}
use Rattle.s1ap_pdu.proofs.Distinct.{ids_distinct, few_rows}
use Rattle.aper_fields.proofs.Spelled.{choice_spelled}
use Rattle.protocol_ies.specs.Criticalities.{criticality_number}
use Rattle.s1ap_pdu.specs.declared.pdu.Pdu.{Pdu}
use Rattle.s1ap_pdu.specs.declared.pdu.Pdu.TheVariants as pdus
use Rattle.aper_fields.specs.Many.{InOrder}
use Rattle.s1ap_pdu.specs.Values.{FieldValue, value_type, id_of}
use Rattle.s1ap_pdu.specs.Messages.{outcome_index, header_of, message_of, kind_of, values_of}
use Rattle.s1ap_pdu.specs.Grammar.{Ie, Named, found, has_ie, or_other, kind_with, kind_among, header_in, ie_in, ies_in, pdu_in, Spells}
use Rattle.protocol_ies.specs.Slots.{count_of}
use Rattle.s1ap_pdu.specs.Run.{value_run, ie_run, fields_run, ies_run, header_run, pdu_run, written, IsRightField, HasOctetsIn, IsRight, HasOctets}
use Rattle.s1ap_pdu.proofs.Kept.{found-append}
use Rattle.s1ap_pdu.proofs.RowLaws.{are_of, message_of_rows}
use Rattle.s1ap_pdu.proofs.Frame.{pdu_some}
use Rattle.aper_fields.proofs.Opens.{open_holds, closing_some}
use Rattle.s1ap_pdu.proofs.Ies.{value_periodic, value_some, value_spelled}
use Rattle.aper_fields.proofs.Types.{item_periodic}
use Rattle.aper_fields.proofs.Spelled.{criticality_spelled}
use Rattle.s1ap_pdu.proofs.Writes.{values-length}

abbrev Slot : Type 0
Slot = Option FieldValue

-- the IEs of a table that a message has
unfoldable named : List IeRow → List Slot → List Ie
named [] values = []
named (row ∷ rows) [] = []
named (row ∷ rows) (None ∷ values) = named rows values
named (row ∷ rows) (Some v ∷ values) = Named row.id v ∷ named rows values

-- ---- rows and values that fit

-- a row of the table of a kind of message, which can be written
abbrev is_row : MessageKind → IeRow → Bool
is_row kind row = has_ie kind row.id && (leb row.id 65535 && leb (criticality_number row.criticality) 2)

each_is_row : (kind : MessageKind) → list_all (is_row kind) (rows_of kind) ≡ true
each_is_row kind.InitialUeMessage = refl
each_is_row _ = refl

of_values : (p : Pdu) → are_of (rows_of (kind_of p)) (values_of p) ≡ true
of_values (pdus.UeContextReleaseCommand ids cause) = message_of_rows (message_of kind.UeContextReleaseCommand) (pdus.UeContextReleaseCommand ids cause) _ refl refl
of_values p = message_of_rows (message_of (kind_of p)) p _ refl refl

-- no IE before has the id of a row
abbrev AreFree : List Ie → List IeRow → Type 0
AreFree before rows = AllByRecursion (λ (row : IeRow). found row.id before ≡ None) rows

-- one IE more, of an id that no row has
still_free : (before : List Ie) (id : ℕ) (v : FieldValue) (rows : List IeRow) → AllByRecursion (λ other. eqb id other ≡ false) (map (λ (row : IeRow). row.id) rows) → AreFree before rows → AreFree (before ++ Named id v ∷ []) rows
unfolding found
still_free before id v [] differ free = tt
still_free before id v (row ∷ rows) differ free = (found-append row.id before (Named id v) ∙ rw (free.0, differ.0) refl, still_free before id v rows differ.1 free.1)

free_of_none : (rows : List IeRow) → AreFree [] rows
unfolding found
free_of_none [] = tt
free_of_none (row ∷ rows) = (refl, free_of_none rows)

-- ---- one IE

ie_there : (kind : MessageKind) (before : List Ie) (row : IeRow) (v : FieldValue) (at : ℕ) → found row.id before ≡ None → is_row kind row ≡ true → id_of v ≡ row.id → IsRightField v → HasOctetsIn v → (ie_in kind before).Spells at (Named row.id v) (ie_run row (Some v) at)
unfolding ie_in ie_run item_run
ie_there kind before row v at free is typed right octets =
    let parts = and_parts (has_ie kind row.id) (leb row.id 65535 && leb (criticality_number row.criticality) 2) is in
    let limits = and_parts (leb row.id 65535) (leb (criticality_number row.criticality) 2) parts.1 in
    let first = number_run 0 65535 row.id at in
    let i = at + length first in
    let second = fixed_bits_run 2 (criticality_number row.criticality) i in
    let j = i + length second in
    let body = open_run (value_run v 0) j in
    let spelled : IsSpelledBy (format (value_type row.id)) v (value_run v) = subst (λ n. IsSpelledBy (format (value_type n)) v (value_run v)) typed (value_spelled v octets) in
    let o = open_holds (format (value_type row.id)) v (value_run v) j spelled (value_periodic v) (value_some v right.0, right.1) in
    (row.id, first, second ++ body, refl, (row.id, rw free refl, ((omega arith, omega (arith, leb-true _ _ limits.0)), refl)), (criticality_number row.criticality, second, body, refl, criticality_spelled (criticality_number row.criticality) i (leb-true _ _ limits.1), (o.0, body, [], sym (append-nil body), o.1, rw parts.0 (v, [], [], refl, (o.2, refl), (refl, refl)))))

-- ---- the IEs of a table

abbrev AreRight : List Slot → Type 0
AreRight values = AllByRecursion (λ v. IfSome v IsRightField) values × AllByRecursion (λ v. IfSome v HasOctetsIn) values

fields_there : (kind : MessageKind) (before : List Ie) (rows : List IeRow) (values : List Slot) (at : ℕ) → IsDistinct eqb (map (λ row. row.id) rows) → list_all (is_row kind) rows ≡ true → AreFree before rows → are_of rows values ≡ true → AreRight values → InOrder (ie_in kind) before at (named rows values) (fields_run rows values at)
unfolding fields_run named are_of IsDistinct ie_run
fields_there kind before [] values at distinct good free of right = refl
fields_there kind before (row ∷ rows) [] at distinct good free of right = refl
fields_there kind before (row ∷ rows) (None ∷ values) at distinct good free of right =
    let parts = and_parts (is_row kind row) (list_all (is_row kind) rows) good in
    let same : at + 0 ≡ at = omega arith in
    subst (λ o. InOrder (ie_in kind) before at (named rows values) (fields_run rows values o)) (sym same) (fields_there kind before rows values at distinct.1 parts.1 free.1 of (right.0.1, right.1.1))
fields_there kind before (row ∷ rows) (Some v ∷ values) at distinct good free of right =
    let parts = and_parts (is_row kind row) (list_all (is_row kind) rows) good in
    let typed = and_parts (eqb (id_of v) row.id) (are_of rows values) of in
    let front = ie_run row (Some v) at in
    (front, fields_run rows values (at + length front), refl, ie_there kind before row v at free.0 parts.0 (eqb-true _ _ typed.0) right.0.0 right.1.0, fields_there kind (before ++ Named row.id v ∷ []) rows values (at + length front) distinct.1 parts.1 (still_free before row.id v rows distinct.0 free.1) typed.1 (right.0.1, right.1.1))

named_count : (rows : List IeRow) (values : List Slot) → are_of rows values ≡ true → length (named rows values) ≡ count_of values
unfolding named are_of
named_count [] [] of = refl
named_count [] (v ∷ values) of = absurd cc
named_count (row ∷ rows) [] of = absurd cc
named_count (row ∷ rows) (None ∷ values) of = named_count rows values of ∙ sym (sum_by-cons (λ (v : Slot). cond (is_some v) 1 0) None values ∙ omega arith)
named_count (row ∷ rows) (Some v ∷ values) of =
    let typed = and_parts (eqb (id_of v) row.id) (are_of rows values) of in
    let counted = sum_by-cons (λ (o : Slot). cond (is_some o) 1 0) (Some v) values in
    omega (arith, named_count rows values typed.1, counted)

other_way : (a b : ℕ) → eqb a b ≡ false → eqb b a ≡ false
other_way a b differ = ne_eqb b a (λ same. eqb-false a b differ (sym same))

-- no row has the id
named_absent : (id : ℕ) (rows : List IeRow) (values : List Slot) → AllByRecursion (λ other. eqb id other ≡ false) (map (λ (row : IeRow). row.id) rows) → found id (named rows values) ≡ None
unfolding named found
named_absent id [] values differ = refl
named_absent id (row ∷ rows) [] differ = refl
named_absent id (row ∷ rows) (None ∷ values) differ = named_absent id rows values differ.1
named_absent id (row ∷ rows) (Some v ∷ values) differ = rw (other_way id row.id differ.0) (named_absent id rows values differ.1)

-- an IE in front of others, of an id that no row has
pub named_behind : (id : ℕ) (v : FieldValue) (ies : List Ie) (rows : List IeRow) → AllByRecursion (λ other. eqb id other ≡ false) (map (λ (row : IeRow). row.id) rows) → map (λ row. found row.id (Named id v ∷ ies)) rows ≡ map (λ row. found row.id ies) rows
unfolding found
named_behind id v ies [] differ = refl
named_behind id v ies (row ∷ rows) differ = rw differ.0 (ap (λ (l : List Slot). found row.id ies ∷ l) (named_behind id v ies rows differ.1))

named_found : (rows : List IeRow) (values : List Slot) → IsDistinct eqb (map (λ row. row.id) rows) → are_of rows values ≡ true → map (λ row. found row.id (named rows values)) rows ≡ values
unfolding named are_of found IsDistinct
named_found [] [] distinct of = refl
named_found [] (v ∷ values) distinct of = absurd cc
named_found (row ∷ rows) [] distinct of = absurd cc
named_found (row ∷ rows) (None ∷ values) distinct of = ap (λ (s : Slot). s ∷ map (λ r. found r.id (named rows values)) rows) (named_absent row.id rows values distinct.0) ∙ ap (λ (l : List Slot). None ∷ l) (named_found rows values distinct.1 of)
named_found (row ∷ rows) (Some v ∷ values) distinct of =
    let typed = and_parts (eqb (id_of v) row.id) (are_of rows values) of in
    rw (eq-eqb row.id row.id refl) (ap (λ (l : List Slot). Some v ∷ l) (named_behind row.id v (named rows values) rows distinct.0 ∙ named_found rows values distinct.1 typed.1))

-- ---- the SEQUENCE of IEs

ies_there : (kind : MessageKind) (values : List Slot) → length values ≡ length (rows_of kind) → are_of (rows_of kind) values ≡ true → AreRight values → IsSpelledBy (ies_in kind) (named (rows_of kind) values) (ies_run kind values)
unfolding ies_in ies_run zero_bit_in
ies_there kind values whole of right = record {
  everywhere = λ at.
      let rows = rows_of kind in
      let first = fixed_bits_run 1 0 at in
      let i = at + length first in
      let second = number_run 0 65535 (count_of values) i in
      let j = i + length second in
      let few : count_of values ≤ 65535 = omega (arith, few_rows kind, whole, count_by-le-length (λ (v : Slot). is_some v) values) in
      (0, first, second ++ fields_run rows values j, refl, (refl, (omega arith, refl)), (count_of values, second, fields_run rows values j, refl, ((omega arith, omega (arith, few)), refl), (named_count rows values of, fields_there kind [] rows values j (ids_distinct kind) (each_is_row kind) (free_of_none rows) of right)));
}

one_periodic : (row : IeRow) (v : Slot) → IsPeriodic (ie_run row v)
unfolding ie_run
one_periodic row None = constant_periodic []
one_periodic row (Some v) = item_periodic row.id (criticality_number row.criticality) (value_run v 0)

fields_periodic : (rows : List IeRow) (values : List Slot) → IsPeriodic (fields_run rows values)
unfolding fields_run
fields_periodic [] values = constant_periodic []
fields_periodic (row ∷ rows) [] = constant_periodic []
fields_periodic (row ∷ rows) (v ∷ values) = then_periodic _ _ (one_periodic row v) (fields_periodic rows values)

pub ies_periodic : (kind : MessageKind) (values : List Slot) → IsPeriodic (ies_run kind values)
unfolding ies_run
ies_periodic kind values = then_periodic _ _ (fixed_bits_periodic 1 0) (then_periodic _ _ (number_periodic 0 65535 (count_of values)) (fields_periodic (rows_of kind) values))

ies_some : (kind : MessageKind) (values : List Slot) → 0 < length (ies_run kind values 0)
unfolding ies_run fixed_bits_run
ies_some kind values = omega (arith, length-append (fixed_bits_run 1 0 0) ((number_run 0 65535 (count_of values) ▸ fields_run (rows_of kind) values) (0 + length (fixed_bits_run 1 0 0))), length-bits 1 0)

-- ---- the message

kind_back : (kind : MessageKind) → kind_with (outcome_index (header_of kind).outcome) (header_of kind).code ≡ Some kind
unfolding kind_among
kind_back kind.InitialUeMessage = refl
kind_back _ = refl

-- the header of a kind can be written
abbrev is_header : MessageKind → Bool
is_header kind = ltb (outcome_index (header_of kind).outcome) 3 && (leb (header_of kind).code 255 && leb (criticality_number (header_of kind).criticality) 2)

each_is_header : (kind : MessageKind) → is_header kind ≡ true
each_is_header kind.InitialUeMessage = refl
each_is_header _ = refl

header_there : (kind : MessageKind) → IsSpelledBy header_in kind (header_run (header_of kind))
unfolding header_in header_run
header_there kind = record {
  everywhere = λ at.
      let header = header_of kind in
      let a = and_parts (ltb (outcome_index header.outcome) 3) (leb header.code 255 && leb (criticality_number header.criticality) 2) (each_is_header kind) in
      let b = and_parts (leb header.code 255) (leb (criticality_number header.criticality) 2) a.1 in
      let outcome : (outcome_index header.outcome) < 3 = ltb-true _ _ a.0 in
      let code : header.code ≤ 255 = leb-true _ _ b.0 in
      let first = index_run 2 (outcome_index header.outcome) at in
      let i = at + length first in
      let second = fixed_bits_run 5 0 i in
      let j = i + length second in
      let third = number_run 0 255 header.code j in
      let k = j + length third in
      let last = fixed_bits_run 2 (criticality_number header.criticality) k in
      ((outcome_index header.outcome), first, second ++ (third ++ last), refl, choice_spelled 3 2 (outcome_index header.outcome) outcome (omega (arith, outcome)) at, (0, second, third ++ last, refl, (refl, (omega arith, refl)), (kind, third, last, refl, (header.code, ap (or_other header.code) (kind_back kind), ((omega arith, omega (arith, code)), refl)), ((criticality_number header.criticality), last, [], sym (append-nil last), criticality_spelled (criticality_number header.criticality) k (leb-true _ _ b.1), (refl, refl)))));
}

pub written_ies : (p : Pdu) → List Ie
written_ies p = named (rows_of (kind_of p)) (values_of p)

pub pdu_there : (p : Pdu) → IsRight p → HasOctets p → pdu_in.Spells 0 (kind_of p, written_ies p) (pdu_run (kind_of p) (values_of p) 0)
unfolding pdu_in pdu_run written_ies
pdu_there p right octets =
    let kind = kind_of p in
    let values = values_of p in
    let first = header_run (header_of kind) 0 in
    let i = 0 + length first in
    let body = open_run (ies_run kind values 0) i in
    let ies = named (rows_of kind) values in
    let o = open_holds (ies_in kind) ies (ies_run kind values) i (ies_there kind values (values-length p) (of_values p) (right.0, octets)) (ies_periodic kind values) (ies_some kind values, right.1) in
    (kind, first, body, refl, (header_there kind).everywhere 0, (ies, body, [], sym (append-nil body), (o.0, body, [], sym (append-nil body), o.1, (o.2, refl)), (refl, refl)))

pub written_spelled : (p : Pdu) → IsRight p → HasOctets p → Spells (written p) p
unfolding written written_ies
written_spelled p right octets =
    let run = pdu_run (kind_of p) (values_of p) 0 in
    let from_start : 0 + length run ≡ length run = omega arith in
    let there = pdu_there p right octets in
    let ends : closing 0 (0 + length run) ≡ gap (length run) = closing_some 0 run (pdu_some 0 (kind_of p, named (rows_of (kind_of p)) (values_of p)) run there) ∙ ap gap from_start in
    (written_ies p, (run, there, bits_of-packed run ∙ sym (ap (λ n. run ++ zeros n) ends)), named_found (rows_of (kind_of p)) (values_of p) (ids_distinct (kind_of p)) (of_values p))
