-- Messages on the wire (TS 36.413, 9.1 and 9.3): a header, and a list of IEs, each an id, a criticality and an open type.
use Rattle.std.specs.Prelude.{◌≡◌, ◌⊎◌, ℕ, ◌==◌, ◌&&◌, Bool, List, [], ◌∷◌, length, map, Option, Some, None, is_some, is_none, Result, Ok, Err, if◌then◌else◌}
use Rattle.std.specs.List.{list_any}
use Rattle.echo_base.specs.declared.reason.Reason.{Reason}
use Rattle.echo_base.specs.declared.reason.Reason.TheVariants as reasons
use Rattle.echo_base.specs.declared.refusal.Refusal.{Refusal}
use Rattle.aper_fields.specs.Bits.{bits_of}
use Rattle.aper_fields.specs.Reading.{Input}
use Rattle.aper_fields.specs.Spelling.{Holds}
use Rattle.aper_fields.specs.Format.{Format, ◌>>=◌, just, passing, either, fixed_bits_in, number_in, open_in, contained_in, WholeRefuses}
use Rattle.protocol_ies.specs.declared.tables.IeRow.{IeRow}
use Rattle.s1ap_pdu.specs.declared.tables.MessageKind.{MessageKind}
use Rattle.s1ap_pdu.specs.Messages.{rows_of}
use Rattle.aper_fields.specs.Sequence.{zero_bit_in, criticality_in, choice_in}
use Rattle.s1ap_pdu.specs.declared.pdu.Pdu.{Pdu}
use Rattle.aper_fields.specs.Asn1.{format}
use Rattle.aper_fields.specs.Many.{many_in, inside, looked_up}
use Rattle.s1ap_pdu.specs.Values.{FieldValue, value_type}
use Rattle.s1ap_pdu.specs.Messages.{outcome_index, header_of, kinds, kind_of, values_of, is_downlink}

-- an IE as it stands in a message: one of the message's table, its id and its value; or another, which is passed over
pub data Ie : Type 0 where
  Named : ℕ → FieldValue → Ie
  Other : ℕ → Ie

-- ---- the header

-- the kind of message that begins with that outcome and procedure code
unfoldable pub kind_among : List MessageKind → ℕ → ℕ → Option MessageKind
kind_among [] outcome code = None
kind_among (kind ∷ rest) outcome code = if outcome_index (header_of kind).outcome == outcome && (header_of kind).code == code then Some kind else kind_among rest outcome code

abbrev pub kind_with : ℕ → ℕ → Option MessageKind
kind_with outcome code = kind_among kinds outcome code

abbrev pub or_other : ℕ → Option MessageKind → Result MessageKind Reason
or_other code None = Err (reasons.OtherProcedure code)
or_other code (Some kind) = Ok kind

-- outcome, a CHOICE of three, in an octet of its own; procedure code; criticality, whichever of the three
unfoldable pub header_in : Format MessageKind
header_in = do
  outcome ← choice_in 3 2
  padding ← passing (λ bits. bits == 0) reasons.NonZeroPadding (fixed_bits_in 5)
  kind ← looked_up (λ code. or_other code (kind_with outcome code)) (number_in 0 255)
  criticality ← criticality_in
  just kind

-- ---- the IEs

-- the value that stands under an id
unfoldable pub found : ℕ → List Ie → Option FieldValue
found id [] = None
found id (Named named v ∷ ies) = if named == id then Some v else found id ies
found id (Other other ∷ ies) = found id ies

-- does the table of the message have that id
abbrev pub has_ie : MessageKind → ℕ → Bool
has_ie kind id = list_any (λ row. row.id == id) (rows_of kind)

-- an id of the table that stands already is repeated
abbrev pub new_id : List Ie → ℕ → Result ℕ Reason
new_id before id = if is_some (found id before) then Err (reasons.RepeatedIe id) else Ok id

-- an IE behind others: one of the table, with all of its open type, or another, whatever it contains
unfoldable pub ie_in : MessageKind → List Ie → Format Ie
ie_in kind before = do
  id ← looked_up (new_id before) (number_in 0 65535)
  criticality ← criticality_in
  content ← open_in
  either (has_ie kind id) (inside content (format (value_type id)) >>= λ v. just (Named id v)) (just (Other id))

-- the SEQUENCE of IEs: its extension bit, how many IEs there are, and so many of them
unfoldable pub ies_in : MessageKind → Format (List Ie)
ies_in kind = do
  extension ← zero_bit_in reasons.SequenceExtension
  count ← number_in 0 65535
  many_in (ie_in kind) count

-- a header, and an open type that contains the IEs
unfoldable pub pdu_in : Format (MessageKind × List Ie)
pdu_in = do
  kind ← header_in
  ies ← contained_in (ies_in kind)
  just (kind, ies)

-- ---- messages

-- octets from the start of a PDU on
abbrev pub start : List ℕ → Input
start octets = record { offset = 0; left = bits_of octets }

-- all of the octets are a header and these IEs
abbrev pub AreIes : List ℕ → MessageKind → List Ie → Type 0
AreIes octets kind ies = Holds pdu_in.Spells (start octets) (kind, ies)

-- what stands under the ids of the table, in its order
abbrev pub fields_of : MessageKind → List Ie → List (Option FieldValue)
fields_of kind ies = map (λ row. found row.id ies) (rows_of kind)

-- The octets are a message: a header and IEs, in any order and with others among them, and under each id of the table the message's value, or nothing where the message has none.
abbrev pub Spells : List ℕ → Pdu → Type 0
Spells octets p = (ies : List Ie) × AreIes octets (kind_of p) ies × (fields_of (kind_of p) ies ≡ values_of p)

-- the first needed row whose id does not stand
unfoldable pub missing : List IeRow → List Ie → Option ℕ
missing [] ies = None
missing (row ∷ rows) ies = if row.needed && is_none (found row.id ies) then Some row.id else missing rows ies

-- The refusal that is due: the first piece that is wrong; and where every piece is right, at the end, the first needed IE that is missing.
abbrev pub Refused : List ℕ → Refusal → Type 0
Refused octets e = WholeRefuses pdu_in (start octets) e ⊎ ((kind : MessageKind) × (ies : List Ie) × AreIes octets kind ies × (id : ℕ) × (missing (rows_of kind) ies ≡ Some id) × (e ≡ record { reason = reasons.MissingIe id; place = length octets }))

-- the same of messages that an MME receives: one that an MME sends is refused behind its first octet
abbrev pub SpellsUplink : List ℕ → Pdu → Type 0
SpellsUplink octets p = Spells octets p × (is_downlink (kind_of p) ≡ Bool.false)

abbrev pub RefusedUplink : List ℕ → Refusal → Type 0
RefusedUplink octets e = Refused octets e ⊎ ((p : Pdu) × Spells octets p × (is_downlink (kind_of p) ≡ Bool.true) × (e ≡ record { reason = reasons.WrongDirection; place = 1 }))
