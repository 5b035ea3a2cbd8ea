-- Messages (RFC 6733, 3; 3GPP TS 29.272, 7.2): which octets spell them, and how they are read.
use Rattle.std.specs.Prelude.{◌≡◌, ℕ, ◌-◌, ◌≤◌, ◌==◌, nat_le, Bool, true, false, List, [], ◌∷◌, Result, Ok}
use Rattle.echo_base.specs.declared.reason.Reason.TheVariants as reasons
use Rattle.echo_base.specs.declared.refusal.Refusal.{Refusal}
use Rattle.echo_base.specs.Answer.{◌>>=◌}
use Rattle.echo_base.specs.Format as formats
use Rattle.echo_base.specs.Format.{just, meant}
use Rattle.echo_base.specs.Field.{Field, FieldReader, octet_in, octets_in, number_in, octet_at, octets_at, number_at}
use Rattle.echo_base.specs.Reading as readings
use Rattle.echo_base.specs.Reading.{done, known, value_of}
use Rattle.tlv_elements.specs.Element.{refusal_at, truncated, room_in, room_at}
use Rattle.tlv_elements.specs.Reading.{table_at}
use Rattle.tlv_elements.specs.Grammar.{laws, SpellsTable, RefusesWhole}
use Rattle.tlv_elements.specs.Piece.{passing, Passes}
use Rattle.dia_avps.specs.Frame.{frame_in, dia, nothing}
use Rattle.dia_avps.specs.Finding.{succeeded}
use Rattle.dia_wire.specs.declared.dia.Dia.{Dia}
use Rattle.dia_wire.specs.declared.kind.Command.{Command}
use Rattle.dia_wire.specs.declared.kind.Kind.{Kind}
use Rattle.dia_wire.specs.declared.kind.Kind.TheVariants as kinds
use Rattle.dia_wire.specs.declared.said.Said.{Said}
use Rattle.dia_wire.specs.Commands.{code_of, command_of, asking, answering}
use Rattle.dia_wire.specs.Header.{Header}
use Rattle.dia_wire.specs.Shapes.{shape_of, kind_rules}

-- ---- the kind of a message

abbrev pub kind_by : Bool → Command → ℕ → List ℕ → Kind
kind_by true command end octets = asking command
kind_by false command end octets = answering (succeeded end octets) command

abbrev pub kind_of : Header → Kind
kind_of h = kind_by h.request h.command h.end h.octets

-- where a message of a kind is an answer that does not succeed, its first result is not 2001
abbrev pub RejectsBy : Kind → ℕ → List ℕ → Type 0
RejectsBy (kinds.Rejected command) end octets = succeeded end octets ≡ false
RejectsBy _ end octets = Unit {0}

-- ---- what is behind the header, up to the end that its length says; are there octets behind that end?

abbrev pub SpellsSaid : Kind → ℕ → Bool → List ℕ → Said → Type 0
SpellsSaid kind end behind octets b = SpellsTable frame_in dia (shape_of kind).rows (shape_of kind).make end behind octets b

abbrev pub RefusesSaid : Kind → ℕ → Bool → List ℕ → Refusal → Type 0
RefusesSaid kind end behind octets x = RefusesWhole frame_in dia (laws frame_in dia (shape_of kind).rows) end behind octets x

-- the same from left to right
unfoldable pub said_at : Kind → ℕ → Bool → List ℕ → Result Said Refusal
said_at kind end behind octets = table_at dia (kind_rules kind) (shape_of kind).pick end behind octets

-- ---- the header (RFC 6733, 3)

-- behind the length: flags, of which bit 80, R, is set in a request; the command; the application, which is that of S6a (TS 29.272, 7.1.8); Hop-by-Hop
-- and End-to-End Identifier; the AVPs
unfoldable pub rest_in : ℕ → Field Refusal Header
rest_in size =
    formats.◌>>=◌ (octet_in (truncated 1)) (λ flags.
    formats.◌>>=◌ (number_in (truncated 1) 3) (λ code.
    formats.◌>>=◌ (meant (λ command. code ≡ code_of command) (refusal_at (reasons.DiaCommand code) 5)) (λ command.
    formats.◌>>=◌ (number_in (truncated 1) 4) (λ application.
    formats.◌>>=◌ (meant (Passes (application ≡ 0x01000023) nothing) (refusal_at reasons.DiaHeader 8)) (λ s6a.
    formats.◌>>=◌ (number_in (truncated 1) 4) (λ hop.
    formats.◌>>=◌ (number_in (truncated 1) 4) (λ end_to_end.
    formats.◌>>=◌ (octets_in (truncated 1) (size - 20)) (λ octets.
    just (record { command = command; request = nat_le 128 flags; hop = hop; end_to_end = end_to_end; end = size; octets = octets })))))))))

unfoldable pub rest_at : ℕ → FieldReader Refusal Header
rest_at size =
    readings.◌>>=◌ (octet_at (truncated 1)) (λ flags.
    readings.◌>>=◌ (number_at (truncated 1) 3) (λ code.
    readings.◌>>=◌ (known (command_of code) (refusal_at (reasons.DiaCommand code) 5)) (λ command.
    readings.◌>>=◌ (number_at (truncated 1) 4) (λ application.
    readings.◌>>=◌ (known (passing (application == 0x01000023) nothing) (refusal_at reasons.DiaHeader 8)) (λ s6a.
    readings.◌>>=◌ (number_at (truncated 1) 4) (λ hop.
    readings.◌>>=◌ (number_at (truncated 1) 4) (λ end_to_end.
    readings.◌>>=◌ (octets_at (truncated 1) (size - 20)) (λ octets.
    done (record { command = command; request = nat_le 128 flags; hop = hop; end_to_end = end_to_end; end = size; octets = octets })))))))))

-- version 1; a length that counts all of the message, which is there; and what is behind it
unfoldable pub header_in : Field Refusal Header
header_in =
    formats.◌>>=◌ (octet_in (truncated 0)) (λ version.
    formats.◌>>=◌ (meant (Passes (version ≡ 1) nothing) (refusal_at reasons.DiaHeader 0)) (λ first.
    formats.◌>>=◌ (number_in (truncated 1) 3) (λ size.
    formats.◌>>=◌ (meant (Passes (20 ≤ size) nothing) (truncated 1)) (λ enough.
    formats.◌>>=◌ (room_in (truncated 1) (size - 4)) (λ room.
    rest_in size)))))

unfoldable pub header_at : FieldReader Refusal Header
header_at =
    readings.◌>>=◌ (octet_at (truncated 0)) (λ version.
    readings.◌>>=◌ (known (passing (version == 1) nothing) (refusal_at reasons.DiaHeader 0)) (λ first.
    readings.◌>>=◌ (number_at (truncated 1) 3) (λ size.
    readings.◌>>=◌ (known (passing (nat_le 20 size) nothing) (truncated 1)) (λ enough.
    readings.◌>>=◌ (room_at (truncated 1) (size - 4)) (λ room.
    rest_at size)))))

-- ---- whole messages

abbrev pub with_head : Header → Said → Dia
with_head h b = record { hop = h.hop; end = h.end_to_end; session = b.session; body = b.body }

abbrev pub is_behind : List ℕ → Bool
is_behind [] = false
is_behind (o ∷ os) = true

-- what stands behind a header
abbrev pub behind_in : Header → Field Refusal Dia
behind_in h = record {
  Stands = λ s d t. ((b : Said) × SpellsSaid (kind_of h) h.end (is_behind s) h.octets b × (d ≡ with_head h b)) × (s ≡ t);
  Refuses = λ s x. RefusesSaid (kind_of h) h.end (is_behind s) h.octets x;
}

abbrev pub behind_at : Header → FieldReader Refusal Dia
behind_at h s = said_at (kind_of h) h.end (is_behind s) h.octets >>= λ b. Ok (with_head h b, s)

unfoldable pub dia_in : Field Refusal Dia
dia_in = formats.◌>>=◌ header_in behind_in

unfoldable pub dia_at : FieldReader Refusal Dia
dia_at = readings.◌>>=◌ header_at behind_at

-- the octets are this message
abbrev pub DiaSpells : List ℕ → Dia → Type 0
DiaSpells octets d = (rest : List ℕ) × dia_in.Stands octets d rest

-- they are none, and this is the refusal of the first wrong piece
abbrev pub DiaRefuses : List ℕ → Refusal → Type 0
DiaRefuses octets x = dia_in.Refuses octets x

-- what octets are, read from left to right
abbrev pub dia_of : List ℕ → Result Dia Refusal
dia_of octets = value_of (dia_at octets)

-- ---- each message takes memory: its session

abbrev pub KeepsSession : Said → Type 0
KeepsSession b = Unit {0}

abbrev pub TakesMemory : Dia → Type 0
TakesMemory d = Unit {0}

abbrev pub SpellsTaking : List ℕ → Type 0
SpellsTaking octets = (d : Dia) × TakesMemory d × DiaSpells octets d
