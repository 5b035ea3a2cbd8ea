-- Messages (3GPP TS 29.274, 5 and 7): which octets spell them, and how they are read.
use Rattle.std.specs.Prelude.{◌≡◌, ℕ, ◌+◌, ◌-◌, ◌≤◌, ◌==◌, nat_le, Bool, true, false, List, [], ◌∷◌, Option, Some, None, Result, Ok, if◌then◌else◌}
use Rattle.echo_base.specs.declared.reason.Reason.TheVariants as reasons
use Rattle.echo_base.specs.declared.refusal.Refusal.{Refusal}
use Rattle.echo_base.specs.Answer.{◌>>=◌}
use Rattle.echo_base.specs.Format as formats
use Rattle.echo_base.specs.Format.{Format, just, meant}
use Rattle.echo_base.specs.Field.{Field, FieldReader, octet_in, octets_in, number_in, octet_at, octets_at, number_at}
use Rattle.echo_base.specs.Reading as readings
use Rattle.echo_base.specs.Reading.{done, known, value_of}
use Rattle.tlv_elements.specs.Element.{Element, refusal_at, truncated}
use Rattle.tlv_elements.specs.Reading.{whole_at, table_at}
use Rattle.tlv_elements.specs.Grammar.{laws, SpellsTable, SpellsWhole, RefusesWhole}
use Rattle.tlv_elements.specs.Piece.{passing, Passes}
use Rattle.gtp2_ies.specs.Frame.{frame_in, gtp}
use Rattle.gtp2_ies.specs.Picking.{rejecting}
use Rattle.gtp2_wire.specs.declared.gtp.Gtp.{Gtp}
use Rattle.gtp2_wire.specs.declared.gtp.GtpBody.{GtpBody}
use Rattle.gtp2_wire.specs.declared.gtp.GtpBody.TheVariants as body
use Rattle.gtp2_wire.specs.declared.kind.Kind.{Kind}
use Rattle.gtp2_wire.specs.Header.{Header}
use Rattle.gtp2_wire.specs.Kinds.{type_of, kind_of, is_answer}
use Rattle.gtp2_wire.specs.Shapes.{shape_of, kind_rules}

-- the cause of an answer that rejects
abbrev pub rejection : Kind → ℕ → List ℕ → Option ℕ
rejection kind end octets = if is_answer kind then rejecting end octets else None

-- ---- what is behind the header, up to the end that its length says; are there octets behind that end?

-- right elements, of which none but a cause is needed
abbrev pub Wholes : Kind → ℕ → Bool → List ℕ → Type 0
Wholes kind end behind octets = (es : List Element) × SpellsWhole frame_in (laws frame_in gtp ((shape_of kind).rows false)) end behind octets es

-- what the values of all elements make; of an answer that rejects its cause, and no more is needed
abbrev pub SpellsBy : Option ℕ → Kind → ℕ → Bool → List ℕ → GtpBody → Type 0
SpellsBy None kind end behind octets b = SpellsTable frame_in gtp ((shape_of kind).rows true) (shape_of kind).make end behind octets b
SpellsBy (Some c) kind end behind octets b = Wholes kind end behind octets × (b ≡ body.Rejected (type_of kind) c)

abbrev pub RefusesBy : Option ℕ → Kind → ℕ → Bool → List ℕ → Refusal → Type 0
RefusesBy None kind end behind octets x = RefusesWhole frame_in gtp (laws frame_in gtp ((shape_of kind).rows true)) end behind octets x
RefusesBy (Some c) kind end behind octets x = RefusesWhole frame_in gtp (laws frame_in gtp ((shape_of kind).rows false)) end behind octets x

abbrev pub SpellsBody : Kind → ℕ → Bool → List ℕ → GtpBody → Type 0
SpellsBody kind end behind octets b = SpellsBy (rejection kind end octets) kind end behind octets b

abbrev pub RefusesBody : Kind → ℕ → Bool → List ℕ → Refusal → Type 0
RefusesBody kind end behind octets x = RefusesBy (rejection kind end octets) kind end behind octets x

-- the same from left to right
abbrev pub body_by : Option ℕ → Kind → ℕ → Bool → List ℕ → Result GtpBody Refusal
body_by None kind end behind octets = table_at gtp (kind_rules kind true) (shape_of kind).pick end behind octets
body_by (Some c) kind end behind octets = whole_at gtp (kind_rules kind false) end behind octets >>= λ right. Ok (body.Rejected (type_of kind) c)

unfoldable pub body_at : Kind → ℕ → Bool → List ℕ → Result GtpBody Refusal
body_at kind end behind octets = body_by (rejection kind end octets) kind end behind octets

-- ---- the header (5.1): version 2 with a TEID, no piggybacked message; a type; the length of what follows; TEID, sequence number, a spare octet

abbrev pub nothing : Unit {0}
nothing = tt

unfoldable pub header_in : Field Refusal Header
header_in =
    formats.◌>>=◌ (octet_in (truncated 0)) (λ first.
    formats.◌>>=◌ (meant (Passes (first ≡ 0x48) nothing) (refusal_at reasons.GtpHeader 0)) (λ version.
    formats.◌>>=◌ (octet_in (truncated 1)) (λ type.
    formats.◌>>=◌ (meant (λ kind. type ≡ type_of kind) (refusal_at (reasons.GtpType type) 1)) (λ kind.
    formats.◌>>=◌ (number_in (truncated 2) 2) (λ size.
    formats.◌>>=◌ (meant (Passes (8 ≤ size) nothing) (truncated 2)) (λ enough.
    formats.◌>>=◌ (number_in (truncated 2) 4) (λ teid.
    formats.◌>>=◌ (number_in (truncated 2) 3) (λ seq.
    formats.◌>>=◌ (octet_in (truncated 2)) (λ spare.
    formats.◌>>=◌ (octets_in (truncated 2) (size - 8)) (λ octets.
    just (record { kind = kind; teid = teid; seq = seq; end = size + 4; octets = octets })))))))))))

unfoldable pub header_at : FieldReader Refusal Header
header_at =
    readings.◌>>=◌ (octet_at (truncated 0)) (λ first.
    readings.◌>>=◌ (known (passing (first == 0x48) nothing) (refusal_at reasons.GtpHeader 0)) (λ version.
    readings.◌>>=◌ (octet_at (truncated 1)) (λ type.
    readings.◌>>=◌ (known (kind_of type) (refusal_at (reasons.GtpType type) 1)) (λ kind.
    readings.◌>>=◌ (number_at (truncated 2) 2) (λ size.
    readings.◌>>=◌ (known (passing (nat_le 8 size) nothing) (truncated 2)) (λ enough.
    readings.◌>>=◌ (number_at (truncated 2) 4) (λ teid.
    readings.◌>>=◌ (number_at (truncated 2) 3) (λ seq.
    readings.◌>>=◌ (octet_at (truncated 2)) (λ spare.
    readings.◌>>=◌ (octets_at (truncated 2) (size - 8)) (λ octets.
    done (record { kind = kind; teid = teid; seq = seq; end = size + 4; octets = octets })))))))))))

-- ---- whole messages

abbrev pub with_head : Header → GtpBody → Gtp
with_head h b = record { teid = h.teid; seq = h.seq; body = b }

abbrev pub is_behind : List ℕ → Bool
is_behind [] = false
is_behind (o ∷ os) = true

-- what stands behind a header
abbrev pub behind_in : Header → Field Refusal Gtp
behind_in h = record {
  Stands = λ s g t. ((b : GtpBody) × SpellsBody h.kind h.end (is_behind s) h.octets b × (g ≡ with_head h b)) × (s ≡ t);
  Refuses = λ s x. RefusesBody h.kind h.end (is_behind s) h.octets x;
}

abbrev pub behind_at : Header → FieldReader Refusal Gtp
behind_at h s = body_at h.kind h.end (is_behind s) h.octets >>= λ b. Ok (with_head h b, s)

unfoldable pub gtp_in : Field Refusal Gtp
gtp_in = formats.◌>>=◌ header_in behind_in

unfoldable pub gtp_at : FieldReader Refusal Gtp
gtp_at = readings.◌>>=◌ header_at behind_at

-- the octets are this message
abbrev pub GtpSpells : List ℕ → Gtp → Type 0
GtpSpells octets g = (rest : List ℕ) × gtp_in.Stands octets g rest

-- they are none, and this is the refusal of the first wrong piece
abbrev pub GtpRefuses : List ℕ → Refusal → Type 0
GtpRefuses octets x = gtp_in.Refuses octets x

-- what octets are, read from left to right
abbrev pub gtp_of : List ℕ → Result Gtp Refusal
gtp_of octets = value_of (gtp_at octets)

-- ---- the messages that take memory: those with an access point name

abbrev pub IsCreate : GtpBody → Type 0
IsCreate b = (imsi : ℕ) × ((ebi : ℕ) × ((apn : List ℕ) × ((ul : ℕ) × ((dl : ℕ) × ((addr : ℕ) × ((control : ℕ) × (b ≡ body.Create imsi ebi apn ul dl addr control)))))))

abbrev pub TakesMemory : Gtp → Type 0
TakesMemory g = IsCreate g.body

abbrev pub SpellsTaking : List ℕ → Type 0
SpellsTaking octets = (g : Gtp) × TakesMemory g × GtpSpells octets g
