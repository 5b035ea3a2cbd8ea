-- What is read of a message can be written: its fields are in their ranges, and its open types have room for them.
use Rattle.std.proofs.Common.{◌≡◌, ℕ, ◌+◌, ◌-◌, ◌*◌, ◌%◌, ◌≤◌, Bool, true, false, eqb, List, [], ◌∷◌, ◌++◌, length, map, Option, IfSome, IfOk, Result, Ok, Err, sym, ap, ◌∙◌, subst, inl, inr, arith}
use Rattle.std.specs.List.{AllByRecursion, sum_by}
use Rattle.std.proofs.lemmas.Bool.{cases_Bool}
use Rattle.std.proofs.lemmas.List.{length-append, length-replicate}
use Rattle.std.proofs.lemmas.List.Sums.{sum_by-cons}
use Rattle.echo_base.specs.declared.refusal.Bad.{Bad}
use Rattle.echo_base.specs.declared.refusal.Bad.TheVariants.{Refused, OutOfMemory}
use Rattle.echo_base.specs.declared.refusal.Refusal.{Refusal}
use Rattle.aper_fields.specs.Bits.{bits, zeros, gap}
use Rattle.aper_fields.specs.Reading.{Input}
use Rattle.aper_fields.specs.Run.{number_run, fixed_bits_run, padding_run, open_run, closing}
use Rattle.aper_fields.specs.Spelling.{Open}
use Rattle.aper_fields.specs.Format as formats
use Rattle.aper_fields.specs.Format.{either, just}
use Rattle.aper_fields.proofs.BitLaws.{length-bits}
use Rattle.protocol_ies.specs.declared.tables.IeRow.{IeRow}
use Rattle.s1ap_pdu.specs.declared.tables.MessageKind.{MessageKind}
use Rattle.s1ap_pdu.specs.Messages.{rows_of}
use Rattle.aper_fields.specs.Sequence.{zero_bit_in}
use Rattle.aper_fields.specs.Asn1.{format, item_run}
use Rattle.s1ap_pdu.proofs.Distinct.{ids_distinct}
use Rattle.s1ap_pdu.specs.declared.pdu.Pdu.{Pdu}
use Rattle.aper_fields.specs.Many.{InOrder, inside}
use Rattle.s1ap_pdu.specs.Values.{FieldValue, value_type}
use Rattle.s1ap_pdu.specs.Messages.{kind_of}
use Rattle.s1ap_pdu.specs.Grammar.{Ie, Named, Other, found, has_ie, fields_of, ie_in, ies_in, pdu_in, Spells}
use Rattle.protocol_ies.specs.Slots.{count_of}
use Rattle.s1ap_pdu.specs.Run.{value_run, fields_run, ies_run, IsShort, IsRightValue, IsRightField, IsRight, HasOctetsIn, HasOctets}
use Rattle.echo_base.specs.Answer.{Answers}
use Rattle.aper_fields.proofs.Ends.{EndsBy, front_ends, open_ends}
use Rattle.aper_fields.proofs.Opens.{open_offset, open_small}
use Rattle.aper_fields.proofs.Room.{HasRoom, open_room}
use Rattle.aper_fields.proofs.Room.{head_ends}
use Rattle.s1ap_pdu.proofs.Ies.{right_value, value_octets, value_least}
use Rattle.aper_fields.proofs.ItemSize.{length-item_run}
use Rattle.s1ap_pdu.proofs.Sizes.{cost, ie_cost, length-fields_run, found_cost}

-- ---- IEs

-- the open type of an IE of the table has room for its value
abbrev HasRoomFor : Input → Ie → Type 0
HasRoomFor content (Named id v) = IsRightValue v × HasOctetsIn v × HasRoom content (value_run v 0)
HasRoomFor content (Other id) = Unit {0}

-- an IE of the table has a value with the property
abbrev Has : (FieldValue → Type 0) → Ie → Type 0
Has P (Named id v) = P v
Has P (Other id) = Unit {0}

-- its value is right, its strings are octets, and it takes no fewer bits than are written for it
record IsRightIe (ie : Ie) (run : List Bool) : Type 0 where
  field : Has IsRightField ie
  octets : Has HasOctetsIn ie
  least : ie_cost ie ≤ length run

record AreRightIes (ies : List Ie) (run : List Bool) : Type 0 where
  fields : AllByRecursion (Has IsRightField) ies
  octets : AllByRecursion (Has HasOctetsIn) ies
  least : sum_by ie_cost ies ≤ length run

content_room : (id place : ℕ) (content : Input) (opened : List Bool) (b : Bool) (at : ℕ) (ie : Ie) (run : List Bool) → Open place content opened → (either b (formats.◌>>=◌ (inside content (format (value_type id))) (λ v. just (Named id v))) (just (Other id))).Spells at ie run → HasRoomFor content ie
content_room id place content opened true at ie run o s =
    let v = s.0 in
    let held = s.4.0 in
    let octets = value_octets id _ v held.0 held.1 in
    let right = right_value v octets in
    subst (HasRoomFor content) (sym s.5.0) (right, octets, open_room (format (value_type id)) v (value_run v) place content opened (value_least id v right) o held)
content_room id place content opened false at ie run o s = subst (HasRoomFor content) (sym s.0) tt

right_of : (id at : ℕ) (content : Input) (ie : Ie) (run : List Bool) → ((body : List Bool) → HasRoom content body → EndsBy (item_run id 0 body) at run) → length content.left ≤ 8 * 16383 → HasRoomFor content ie → IsRightIe ie run
right_of id at content (Named n v) run ends small room = record {
  field = (room.0, omega (arith, small, room.2.0));
  octets = room.1;
  least = omega (arith, ends (value_run v 0) room.2 at (omega arith), length-item_run id 0 at (value_run v 0));
}
right_of id at content (Other n) run ends small room = record { field = tt; octets = tt; least = omega arith }

ie_right : (kind : MessageKind) (before : List Ie) (at : ℕ) (ie : Ie) (run : List Bool) → (ie_in kind before).Spells at ie run → IsRightIe ie run
unfolding ie_in
ie_right kind before at ie run s =
    let looked = s.4 in
    let second = s.5 in
    let opened = second.5 in
    let content = opened.0 in
    let room = content_room s.0 _ content opened.1 (has_ie kind s.0) 0 ie opened.2 opened.4 opened.5 in
    let small : length content.left ≤ 8 * 16383 = open_small _ content opened.1 opened.4 in
    let ends : (body : List Bool) → HasRoom content body → EndsBy (item_run looked.0 0 body) at run = λ body wide. head_ends looked.0 0 second.0 body at s.1 second.1 run s.2 second.2 s.3 looked.2.1 second.3 second.4 (front_ends (open_run body) _ opened.1 opened.2 second.2 opened.3 (open_ends body _ content opened.1 opened.4 wide.1)) in
    right_of looked.0 at content ie run ends small room

in_order_right : (kind : MessageKind) (before : List Ie) (at : ℕ) (ies : List Ie) (run : List Bool) → InOrder (ie_in kind) before at ies run → AreRightIes ies run
in_order_right kind before at [] run s = record { fields = tt; octets = tt; least = omega arith }
in_order_right kind before at (ie ∷ ies) run s =
    let first = ie_right kind before at ie s.0 s.3 in
    let others = in_order_right kind (before ++ ie ∷ []) (at + length s.0) ies s.1 s.4 in
    record {
      fields = (first.field, others.fields);
      octets = (first.octets, others.octets);
      least = omega (arith, first.least, others.least, ap length s.2, length-append s.0 s.1, sum_by-cons ie_cost ie ies);
    }

found_by : (P : FieldValue → Type 0) (id : ℕ) (ies : List Ie) → AllByRecursion (Has P) ies → IfSome (found id ies) P
unfolding found
found_by P id [] all = tt
found_by P id (Named n v ∷ ies) all =
    elim (cases_Bool (eqb n id)) [
      | inl t ↦ rw t all.0
      | inr f ↦ rw f (found_by P id ies all.1)
    ]
found_by P id (Other n ∷ ies) all = found_by P id ies all.1

fields_by : (P : FieldValue → Type 0) (rows : List IeRow) (ies : List Ie) → AllByRecursion (Has P) ies → AllByRecursion (λ v. IfSome v P) (map (λ row. found row.id ies) rows)
fields_by P [] ies all = tt
fields_by P (row ∷ rows) ies all = (found_by P row.id ies all, fields_by P rows ies all)

-- ---- the SEQUENCE of IEs

length-ies_run : (kind : MessageKind) (values : List (Option FieldValue)) → length (ies_run kind values 0) ≤ 24 + sum_by cost values
unfolding ies_run number_run fixed_bits_run
length-ies_run kind values =
    let first = bits 1 0 in
    let i = 0 + length first in
    let second = padding_run i ++ bits 16 (count_of values - 0) in
    let j = i + length second in
    let rest = fields_run (rows_of kind) values j in
    let one : length first ≡ 1 = length-bits 1 0 in
    let two : length second ≡ 23 = omega (arith, one, length-append (padding_run i) (bits 16 (count_of values - 0)), length-replicate (gap i) false, length-bits 16 (count_of values - 0)) in
    omega (arith, one, two, length-append first (second ++ rest), length-append second rest, length-fields_run (rows_of kind) values j (omega (arith, one, two)))

-- of a SEQUENCE that begins at an octet: it takes no fewer bits than are written for it
ies_least : (kind : MessageKind) (at : ℕ) (ies : List Ie) (run : List Bool) → at % 8 ≡ 0 → (ies_in kind).Spells at ies run → AllByRecursion (Has IsRightField) ies × AllByRecursion (Has HasOctetsIn) ies × (length (ies_run kind (fields_of kind ies) 0) ≤ length run)
unfolding ies_in zero_bit_in number_run fixed_bits_run
ies_least kind at ies run whole s =
    let first = s.1 in
    let count = s.5 in
    let i = at + length first in
    let one : length first ≡ 1 = ap length s.4.1.1 ∙ length-bits 1 s.0 in
    let is : count.1 ≡ padding_run i ++ bits 16 (count.0 - 0) = count.4.1 in
    let two : length count.1 ≡ 23 = omega (arith, whole, one, ap length is, length-append (padding_run i) (bits 16 (count.0 - 0)), length-replicate (gap i) false, length-bits 16 (count.0 - 0)) in
    let right = in_order_right kind [] _ ies count.2 count.5.1 in
    (right.fields, right.octets, omega (arith, one, two, right.least, ap length s.3, ap length count.3, length-append first s.2, length-append count.1 count.2, length-ies_run kind (fields_of kind ies), found_cost (rows_of kind) ies (ids_distinct kind)))

-- ---- the message

-- the fields are right and have octets, and the open type of them is short
abbrev AreWritable : MessageKind × List Ie → Type 0
AreWritable x = AllByRecursion (Has IsRightField) x.1 × AllByRecursion (Has HasOctetsIn) x.1 × IsShort (ies_run x.0 (fields_of x.0 x.1) 0)

pdu_right : (at : ℕ) (x : MessageKind × List Ie) (run : List Bool) → pdu_in.Spells at x run → AreWritable x
unfolding pdu_in
pdu_right at x run s =
    let opened = s.5.4 in
    let content = opened.0 in
    let held = opened.5.0 in
    let same : x ≡ (s.0, s.5.0) = s.5.5.0 in
    let whole : content.offset % 8 ≡ 0 = omega (arith, open_offset _ content opened.1 opened.4) in
    let right = ies_least s.0 content.offset s.5.0 held.0 whole held.1 in
    let small : length content.left ≤ 8 * 16383 = open_small _ content opened.1 opened.4 in
    subst AreWritable (sym same) (right.0, right.1, omega (arith, right.2, small, ap length held.2, length-append held.0 (zeros (closing content.offset (content.offset + length held.0)))))

-- what each value of a message is
abbrev EachValue : (FieldValue → Type 0) → List (Option FieldValue) → Type 0
EachValue P values = AllByRecursion (λ v. IfSome v P) values

pub message_right : (octets : List ℕ) (p : Pdu) → Spells octets p → IsRight p × HasOctets p
message_right octets p s =
    let kind = kind_of p in
    let rows = rows_of kind in
    let right = pdu_right 0 (kind, s.0) s.1.0 s.1.1 in
    ((subst (EachValue IsRightField) s.2 (fields_by IsRightField rows s.0 right.0), subst (λ (values : List (Option FieldValue)). IsShort (ies_run kind values 0)) s.2 right.2), subst (EachValue HasOctetsIn) s.2 (fields_by HasOctetsIn rows s.0 right.1))

pub answer_right : (Right : Pdu → Type 0) (Due : Refusal → Type 0) → ((p : Pdu) → Right p → IsRight p) → (r : Result Pdu Bad) → Answers Right Due (Unit {0}) r → IfOk r IsRight
answer_right Right Due right (Ok p) h = right p h
answer_right Right Due right (Err (Refused e)) h = tt
answer_right Right Due right (Err OutOfMemory) h = tt
