-- How Diameter frames its AVPs (RFC 6733, 4.1), and how it refuses them.
use Rattle.std.specs.Prelude.{ℕ, ◌+◌, ◌-◌, ◌%◌, ◌≤◌, ◌==◌, nat_le, Bool, true, false, List, ◌∷◌, ◌++◌, length, replicate, if◌then◌else◌}
use Rattle.echo_base.specs.declared.reason.Reason.TheVariants as reasons
use Rattle.echo_base.specs.declared.refusal.Refusal.{Refusal}
use Rattle.echo_base.specs.Format as formats
use Rattle.echo_base.specs.Format.{just, meant}
use Rattle.echo_base.specs.Field.{Field, FieldReader, octet_in, octets_in, number_in, octet_at, octets_at, number_at, number_run}
use Rattle.echo_base.specs.Reading as readings
use Rattle.echo_base.specs.Reading.{done, known}
use Rattle.tlv_elements.specs.Element.{Element, Protocol, refusal_at, truncated, here_in, here_at, room_in, room_at}
use Rattle.tlv_elements.specs.Piece.{passing, Passes}

-- the mark of an AVP: 0 without a vendor, or one more than its vendor. That of 3GPP is 10415
abbrev pub tgpp : ℕ
tgpp = 10416

-- the octets behind so many, up to a multiple of four: the length of an AVP does not count them
abbrev pub padding : ℕ → ℕ
padding size = (4 - size % 4) % 4

-- with bit 80 of the flags, V, a vendor stands in the head
abbrev pub has_vendor : ℕ → Bool
has_vendor flags = nat_le 128 flags

abbrev pub head_size : ℕ → ℕ
head_size flags = if has_vendor flags then 12 else 8

-- ---- how they are read

abbrev pub nothing : Unit {0}
nothing = tt

abbrev pub mark_by_in : Bool → Refusal → Field Refusal ℕ
mark_by_in true short = formats.◌>>=◌ (number_in short 4) (λ vendor. just (vendor + 1))
mark_by_in false short = just 0

abbrev pub mark_by_at : Bool → Refusal → FieldReader Refusal ℕ
mark_by_at true short = readings.◌>>=◌ (number_at short 4) (λ vendor. done (vendor + 1))
mark_by_at false short = done 0

unfoldable pub mark_in : ℕ → Refusal → Field Refusal ℕ
mark_in flags short = mark_by_in (has_vendor flags) short

unfoldable pub mark_at : ℕ → Refusal → FieldReader Refusal ℕ
mark_at flags short = mark_by_at (has_vendor flags) short

-- behind the length: a vendor where the flags say so, the value, and padding of any octets
unfoldable pub body_in : (end place code flags size : ℕ) → Field Refusal Element
body_in end place code flags size =
    formats.◌>>=◌ (mark_in flags (truncated place)) (λ mark.
    formats.◌>>=◌ (octets_in (truncated place) (size - head_size flags)) (λ value.
    formats.◌>>=◌ (here_in end) (λ stop.
    formats.◌>>=◌ (octets_in (truncated place) (padding size)) (λ pad.
    just (record { tag = code; mark = mark; place = place; stop = stop; value = value })))))

unfoldable pub body_at : (end place code flags size : ℕ) → FieldReader Refusal Element
body_at end place code flags size =
    readings.◌>>=◌ (mark_at flags (truncated place)) (λ mark.
    readings.◌>>=◌ (octets_at (truncated place) (size - head_size flags)) (λ value.
    readings.◌>>=◌ (here_at end) (λ stop.
    readings.◌>>=◌ (octets_at (truncated place) (padding size)) (λ pad.
    done (record { tag = code; mark = mark; place = place; stop = stop; value = value })))))

-- code, flags, a length that counts the head and the value, and what is behind it. An AVP that is not whole, padding too, is so before its length is
-- looked at
unfoldable pub frame_in : ℕ → Field Refusal Element
frame_in end =
    formats.◌>>=◌ (here_in end) (λ place.
    formats.◌>>=◌ (number_in (truncated place) 4) (λ code.
    formats.◌>>=◌ (octet_in (truncated place)) (λ flags.
    formats.◌>>=◌ (number_in (truncated place) 3) (λ size.
    formats.◌>>=◌ (room_in (truncated place) (size + padding size - 8)) (λ room.
    formats.◌>>=◌ (meant (Passes (head_size flags ≤ size) nothing) (refusal_at (reasons.DiaAvp code) place)) (λ enough.
    body_in end place code flags size))))))

unfoldable pub frame_at : ℕ → FieldReader Refusal Element
frame_at end =
    readings.◌>>=◌ (here_at end) (λ place.
    readings.◌>>=◌ (number_at (truncated place) 4) (λ code.
    readings.◌>>=◌ (octet_at (truncated place)) (λ flags.
    readings.◌>>=◌ (number_at (truncated place) 3) (λ size.
    readings.◌>>=◌ (room_at (truncated place) (size + padding size - 8)) (λ room.
    readings.◌>>=◌ (known (passing (nat_le (head_size flags) size) nothing) (refusal_at (reasons.DiaAvp code) place)) (λ enough.
    body_at end place code flags size))))))

-- ---- how they are written: with bit 40 of the flags, M, and zeros as padding

abbrev pub head_run : ℕ → ℕ → ℕ → List ℕ
head_run code mark count = if mark == 0 then number_run 4 code ++ (0x40 ∷ number_run 3 (8 + count)) else number_run 4 code ++ (0xc0 ∷ (number_run 3 (12 + count) ++ number_run 4 (mark - 1)))

abbrev pub padding_run : ℕ → List ℕ
padding_run count = replicate (padding count) 0

unfoldable pub frame_run : ℕ → ℕ → List ℕ → List ℕ
frame_run code mark value = head_run code mark (length value) ++ (value ++ padding_run (length value))

-- ---- the protocol

-- what is refused: an AVP of wrong form, a repeated one, a missing one. A group may be empty.
abbrev pub dia : Protocol
dia = record {
  frame_at = frame_at;
  wrong = λ code. reasons.DiaAvp code;
  repeated = λ code. reasons.RepeatedAvp code;
  missing = λ code. reasons.MissingAvp code;
  takes_empty = true;
}
