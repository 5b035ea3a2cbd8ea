-- Reading a message from left to right, with a slot for each row of its table.
use Rattle.std.specs.Prelude.{ℕ, zero, suc, ◌==◌, List, Option, Some, None}
use Rattle.echo_base.specs.declared.reason.Reason.TheVariants as reasons
use Rattle.aper_fields.specs.Reading.{Input, fixed_bits_at, number_at, open_at, contained_at}
use Rattle.protocol_ies.specs.declared.tables.IeRow.{IeRow}
use Rattle.protocol_ies.specs.Tables.{place_of}
use Rattle.protocol_ies.specs.Slots.{empty, free_id, noted}
use Rattle.s1ap_pdu.specs.declared.tables.MessageKind.{MessageKind}
use Rattle.s1ap_pdu.specs.Messages.{rows_of}
use Rattle.aper_fields.specs.SequenceReading.{Reader, ◌>>=◌, done, passing_at, zero_bit_at, criticality_at, choice_at}
use Rattle.aper_fields.specs.Asn1.{reading}
use Rattle.aper_fields.specs.Many.{inside_at, looked_up_at}
use Rattle.s1ap_pdu.specs.Values.{FieldValue, value_type}
use Rattle.s1ap_pdu.specs.Rows.{Slots}
use Rattle.s1ap_pdu.specs.Grammar.{kind_with, or_other}

-- ---- the header

unfoldable pub header_at : Reader MessageKind
header_at = do
  outcome ← choice_at 3 2
  padding ← passing_at (λ bits. bits == 0) reasons.NonZeroPadding (fixed_bits_at 5)
  kind ← looked_up_at (λ code. or_other code (kind_with outcome code)) (number_at 0 255)
  criticality ← criticality_at
  done kind

-- ---- the IEs

-- a value with its place, or nothing of an IE that is passed over
abbrev pub content_at : Option ℕ → ℕ → Input → Reader (Option (ℕ × FieldValue))
content_at None id content = done None
content_at (Some place) id content = inside_at content (reading (value_type id)) >>= λ v. done (Some (place, v))

unfoldable pub ie_at : List IeRow → Slots → Reader (Option (ℕ × FieldValue))
ie_at rows slots = do
  id ← looked_up_at (free_id rows slots) (number_at 0 65535)
  criticality ← criticality_at
  content ← open_at
  content_at (place_of rows id) id content

-- so many IEs
unfoldable pub fields_at : List IeRow → ℕ → Slots → Reader Slots
fields_at rows zero slots = done slots
fields_at rows (suc n) slots = ie_at rows slots >>= λ ie. fields_at rows n (noted slots ie)

unfoldable pub ies_at : MessageKind → Reader Slots
ies_at kind = do
  extension ← zero_bit_at reasons.SequenceExtension
  count ← number_at 0 65535
  fields_at (rows_of kind) count empty

unfoldable pub pdu_at : Reader (MessageKind × Slots)
pdu_at = do
  kind ← header_at
  slots ← contained_at (ies_at kind)
  done (kind, slots)
