-- The octets with which a message is written: the IEs of its table in order, each with the table's criticality.
use Rattle.std.specs.Prelude.{ℕ, ◌*◌, ◌≤◌, Bool, List, [], ◌∷◌, length, Option, Some, None, IfSome}
use Rattle.std.specs.List.{AllByRecursion}
use Rattle.aper_fields.specs.Bits.{packed}
use Rattle.aper_fields.specs.Run.{Run, ◌▸◌, nothing_run, fixed_bits_run, number_run, open_run}
use Rattle.aper_fields.specs.Spelling.{IsOctets}
use Rattle.protocol_ies.specs.declared.tables.IeRow.{IeRow}
use Rattle.protocol_ies.specs.Slots.{count_of}
use Rattle.s1ap_pdu.specs.declared.tables.MessageKind.{MessageKind}
use Rattle.s1ap_pdu.specs.Messages.{rows_of}
use Rattle.aper_fields.specs.Asn1.{index_run, run, item_run, CanBeWritten, Fits}
use Rattle.protocol_ies.specs.Criticalities.{criticality_number}
use Rattle.s1ap_ies.specs.declared.names.TheConstants as names
use Rattle.s1ap_pdu.specs.declared.header.Header.{Header}
use Rattle.s1ap_pdu.specs.declared.pdu.Pdu.{Pdu}
use Rattle.s1ap_pdu.specs.Values.{FieldValue, asn1_of}
use Rattle.s1ap_pdu.specs.Messages.{outcome_index, header_of, kind_of, values_of}

-- ---- values

unfoldable pub value_run : FieldValue → Run
value_run v = run (asn1_of v) v

-- an open type has at most 16,383 octets
abbrev pub IsShort : List Bool → Type 0
IsShort body = length body ≤ 8 * names.MOST_OCTETS

-- a value in its range
abbrev pub IsRightValue : FieldValue → Type 0
IsRightValue v = CanBeWritten (asn1_of v) v

-- a value in its range, whose strings are octets, as those of a program are
abbrev pub HasOctetsIn : FieldValue → Type 0
HasOctetsIn v = Fits IsOctets (asn1_of v) v

-- ---- the message

-- an IE, where the message has it
unfoldable pub ie_run : IeRow → Option FieldValue → Run
ie_run row None = nothing_run
ie_run row (Some v) = item_run row.id (criticality_number row.criticality) (value_run v 0)

-- the IEs of a table, with their values
unfoldable pub fields_run : List IeRow → List (Option FieldValue) → Run
fields_run (row ∷ rows) (v ∷ values) = ie_run row v ▸ fields_run rows values
fields_run [] values = nothing_run
fields_run (row ∷ rows) [] = nothing_run

unfoldable pub ies_run : MessageKind → List (Option FieldValue) → Run
ies_run kind values = fixed_bits_run 1 0 ▸ number_run 0 65535 (count_of values) ▸ fields_run (rows_of kind) values

-- outcome, in an octet of its own, procedure code, and criticality
unfoldable pub header_run : Header → Run
header_run header = index_run 2 (outcome_index header.outcome) ▸ fixed_bits_run 5 0 ▸ number_run 0 255 header.code ▸ fixed_bits_run 2 (criticality_number header.criticality)

unfoldable pub pdu_run : MessageKind → List (Option FieldValue) → Run
pdu_run kind values = header_run (header_of kind) ▸ open_run (ies_run kind values 0)

-- the octets of a message as it is written
unfoldable pub written : Pdu → List ℕ
written p = packed (pdu_run (kind_of p) (values_of p) 0)

-- what a field is: in its range, and short enough for an open type
abbrev pub IsRightField : FieldValue → Type 0
IsRightField v = IsRightValue v × IsShort (value_run v 0)

-- A message whose fields are in their ranges, and of whose open types none has more than 16,383 octets.
abbrev pub IsRight : Pdu → Type 0
IsRight p = AllByRecursion (λ v. IfSome v IsRightField) (values_of p) × IsShort (ies_run (kind_of p) (values_of p) 0)

abbrev pub HasOctets : Pdu → Type 0
HasOctets p = AllByRecursion (λ v. IfSome v HasOctetsIn) (values_of p)
