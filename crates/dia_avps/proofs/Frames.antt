-- The frame of an AVP is read exactly, and takes octets; one that is written is read as it.
use Rattle.std.proofs.Common.{◌≡◌, ℕ, ◌+◌, ◌-◌, ◌^◌, ◌<◌, ◌≤◌, eqb, leb, Bool, true, false, cond, List, [], ◌∷◌, ◌++◌, length, replicate, refl, sym, ap, ◌∙◌, arith}
use Rattle.std.proofs.lemmas.Bool.{eqb-true, eqb-false, leb-true, le-leb}
use Rattle.std.proofs.lemmas.List.{append_assoc, length-append, length-replicate}
use Rattle.byteorder.specs.Numbers.{length-bytes_high_first}
use Rattle.echo_base.specs.declared.refusal.Refusal.{Refusal}
use Rattle.echo_base.specs.Format.{IsExactly}
use Rattle.echo_base.specs.Field.{number_in, number_run}
use Rattle.echo_base.proofs.Formats.{just_exactly, behind, known_exactly}
use Rattle.echo_base.proofs.Fields.{octet_exactly, octets_exactly, number_exactly, number_back}
use Rattle.tlv_elements.specs.Element.{Element, truncated}
use Rattle.tlv_elements.specs.Piece.{passing, Passes}
use Rattle.tlv_elements.proofs.Frames.{here_exactly, room_exactly}
use Rattle.tlv_elements.proofs.Pieces.{passing_decides}
use Rattle.tlv_elements.proofs.Exact.{IsFrame}
use Rattle.tlv_elements.proofs.Writes.{IsWritten}
use Rattle.dia_avps.specs.Frame.{tgpp, nothing, padding, head_size, mark_by_in, mark_by_at, mark_in, mark_at, body_in, body_at, frame_in, frame_at, padding_run, frame_run, dia}

-- ---- what is read

mark_by_exactly : (b : Bool) (short : Refusal) → IsExactly (mark_by_in b short) (mark_by_at b short)
mark_by_exactly true short = behind _ _ _ _ (number_exactly short 4) (λ vendor. just_exactly _)
mark_by_exactly false short = just_exactly _

mark_exactly : (flags : ℕ) (short : Refusal) → IsExactly (mark_in flags short) (mark_at flags short)
unfolding mark_in mark_at
mark_exactly flags short = mark_by_exactly (leb 128 flags) short

pub frame_exactly : (end : ℕ) → IsExactly (frame_in end) (frame_at end)
unfolding frame_in frame_at body_in body_at
frame_exactly end =
    behind _ _ _ _ (here_exactly end) (λ place.
    behind _ _ _ _ (number_exactly (truncated place) 4) (λ code.
    behind _ _ _ _ (octet_exactly (truncated place)) (λ flags.
    behind _ _ _ _ (number_exactly (truncated place) 3) (λ size.
    behind _ _ _ _ (room_exactly (truncated place) _) (λ room.
    behind _ _ _ _ (known_exactly (passing (leb (head_size flags) size) nothing) (Passes (head_size flags ≤ size) nothing) _ (passing_decides (leb (head_size flags) size) nothing (head_size flags ≤ size) (λ h. leb-true (head_size flags) size h) (λ p. le-leb (head_size flags) size p))) (λ enough.
    behind _ _ _ _ (mark_exactly flags (truncated place)) (λ mark.
    behind _ _ _ _ (octets_exactly (truncated place) _) (λ value.
    behind _ _ _ _ (here_exactly end) (λ stop.
    behind _ _ _ _ (octets_exactly (truncated place) _) (λ pad.
    just_exactly _))))))))))

mark_by_less : (b : Bool) (short : Refusal) (s : List ℕ) (v : ℕ) (t : List ℕ) → (mark_by_in b short).Stands s v t → length t ≤ length s
unfolding number_in
mark_by_less true short s v t h = omega (arith, ap length h.2.2.0, length-append h.2.0 h.2.1, ap length h.2.3.1, ap length h.3.1)
mark_by_less false short s v t h = omega (arith, ap length h.1)

mark_less : (flags : ℕ) (short : Refusal) (s : List ℕ) (v : ℕ) (t : List ℕ) → (mark_in flags short).Stands s v t → length t ≤ length s
unfolding mark_in
mark_less flags short s v t h = mark_by_less (leb 128 flags) short s v t h

frame_shorter : (end : ℕ) (s : List ℕ) (e : Element) (t : List ℕ) → (frame_in end).Stands s e t → length t < length s
unfolding frame_in body_in number_in
frame_shorter end s e t f =
    let code = f.3 in
    let flags = code.3 in
    let size = flags.3 in
    let room = size.3 in
    let enough = room.3 in
    let mark = enough.3 in
    let value = mark.3 in
    let stop = value.3 in
    let pad = stop.3 in
    omega (arith, ap length f.2.1, ap length code.2.2.0, length-append code.2.0 code.2.1, ap length code.2.3.1, ap length flags.2, ap length size.2.2.0, length-append size.2.0 size.2.1, ap length size.2.3.1, ap length room.2.1, ap length enough.2.1, mark_less flags.0 (truncated f.0) enough.1 mark.0 mark.1 mark.2, ap length value.2.0, length-append value.0 value.1, ap length stop.2.1, ap length pad.2.0, length-append pad.0 pad.1, ap length pad.3.1)

pub dia_is : IsFrame frame_in dia
dia_is = record {
  exact = frame_exactly;
  shorter = λ end s e t h. frame_shorter end s e t ((frame_exactly end).found s e t h);
}

-- ---- what is written

pub plain_length : (code : ℕ) (v : List ℕ) → length (frame_run code 0 v) ≡ 8 + length v + padding (length v)
unfolding frame_run
plain_length code v = omega (arith, length-append v (padding_run (length v)), length-replicate {A = ℕ} (padding (length v)) 0)

pub tgpp_length : (code : ℕ) (v : List ℕ) → length (frame_run code tgpp v) ≡ 12 + length v + padding (length v)
unfolding frame_run
tgpp_length code v = omega (arith, length-append v (padding_run (length v)), length-replicate {A = ℕ} (padding (length v)) 0)

-- what can be framed
abbrev pub Fits : ℕ → ℕ → List ℕ → Type 0
Fits code mark v = (code < 2 ^ 32) × (mark ≤ 2 ^ 32) × (length v < 65536)

pub three_zeros : (n : ℕ) → n < 4 → (n ≡ 0 → ⊥) → (n ≡ 1 → ⊥) → (n ≡ 2 → ⊥) → replicate {A = ℕ} n 0 ≡ 0 ∷ 0 ∷ 0 ∷ []
three_zeros n few a b c =
    let three : n ≡ 3 = omega (arith, few, a, b, c) in
    rw three refl

-- a value with its padding, and what is behind them
abbrev filled : List ℕ → List ℕ → List ℕ
filled v t = (v ++ padding_run (length v)) ++ t

filled_length : (v t : List ℕ) → length (filled v t) ≡ length v + padding (length v) + length t
filled_length v t = omega (arith, length-append (v ++ padding_run (length v)) t, length-append v (padding_run (length v)), length-replicate {A = ℕ} (padding (length v)) 0)

plain_framed : (end code : ℕ) (v t : List ℕ) → code < 2 ^ 32 → length v < 65536 → (e : Element) × (frame_in end).Stands (number_run 4 code ++ (0x40 ∷ (number_run 3 (8 + length v) ++ filled v t))) e t × (e.tag ≡ code) × (e.mark ≡ 0) × (e.value ≡ v)
unfolding frame_in body_in mark_in
plain_framed end code v t few short =
    let size = 8 + length v in
    let back = filled v t in
    let pad = padding_run (length v) in
    let behind_flags = number_run 3 size ++ back in
    let s = number_run 4 code ++ (0x40 ∷ behind_flags) in
    let place = end - length s in
    let room : 8 + length v + padding (8 + length v) - 8 ≤ length (filled v t) = omega (arith, filled_length v t) in
    let value : length v ≡ 8 + length v - 8 = omega arith in
    let filling : length (padding_run (length v)) ≡ padding (8 + length v) = omega (arith, length-replicate {A = ℕ} (padding (length v)) 0) in (
      record { tag = code; mark = 0; place = place; stop = end - length (pad ++ t); value = v },
      (place, s, (refl, refl), (code, 0x40 ∷ behind_flags, number_back (truncated place) 4 code few (0x40 ∷ behind_flags), (0x40, behind_flags, refl, (size, back, number_back (truncated place) 3 size (omega (arith, short)) back, (nothing, back, (room, refl), (nothing, back, ((refl, omega arith), refl), (0, back, (refl, refl), (v, pad ++ t, (append_assoc v pad t, value), (end - length (pad ++ t), pad ++ t, (refl, refl), (pad, t, (refl, filling), (refl, refl))))))))))),
      refl,
      refl,
      refl,
    )

vendor_framed : (end code vendor : ℕ) (v t : List ℕ) → code < 2 ^ 32 → vendor < 2 ^ 32 → length v < 65536 → (e : Element) × (frame_in end).Stands (number_run 4 code ++ (0xc0 ∷ (number_run 3 (12 + length v) ++ (number_run 4 vendor ++ filled v t)))) e t × (e.tag ≡ code) × (e.mark ≡ vendor + 1) × (e.value ≡ v)
unfolding frame_in body_in mark_in
vendor_framed end code vendor v t few known short =
    let size = 12 + length v in
    let back = filled v t in
    let pad = padding_run (length v) in
    let behind_size = number_run 4 vendor ++ back in
    let behind_flags = number_run 3 size ++ behind_size in
    let s = number_run 4 code ++ (0xc0 ∷ behind_flags) in
    let place = end - length s in
    let room : 12 + length v + padding (12 + length v) - 8 ≤ length (number_run 4 vendor ++ filled v t) = omega (arith, length-append (number_run 4 vendor) (filled v t), length-bytes_high_first 4 vendor, filled_length v t) in
    let value : length v ≡ 12 + length v - 12 = omega arith in
    let filling : length (padding_run (length v)) ≡ padding (12 + length v) = omega (arith, length-replicate {A = ℕ} (padding (length v)) 0) in (
      record { tag = code; mark = vendor + 1; place = place; stop = end - length (pad ++ t); value = v },
      (place, s, (refl, refl), (code, 0xc0 ∷ behind_flags, number_back (truncated place) 4 code few (0xc0 ∷ behind_flags), (0xc0, behind_flags, refl, (size, behind_size, number_back (truncated place) 3 size (omega (arith, short)) behind_size, (nothing, behind_size, (room, refl), (nothing, behind_size, ((refl, omega arith), refl), (vendor + 1, back, (vendor, back, number_back (truncated place) 4 vendor known back, (refl, refl)), (v, pad ++ t, (append_assoc v pad t, value), (end - length (pad ++ t), pad ++ t, (refl, refl), (pad, t, (refl, filling), (refl, refl))))))))))),
      refl,
      refl,
      refl,
    )

-- what is framed in either form
abbrev IsFramed : ℕ → ℕ → ℕ → List ℕ → List ℕ → List ℕ → Type 0
IsFramed end code mark v t s = (e : Element) × (frame_in end).Stands s e t × (e.tag ≡ code) × (e.mark ≡ mark) × (e.value ≡ v)

framed_by : (b : Bool) (end code mark : ℕ) (v t : List ℕ) → eqb mark 0 ≡ b → Fits code mark v → IsFramed end code mark v t ((cond b (number_run 4 code ++ (0x40 ∷ number_run 3 (8 + length v))) (number_run 4 code ++ (0xc0 ∷ (number_run 3 (12 + length v) ++ number_run 4 (mark - 1)))) ++ (v ++ padding_run (length v))) ++ t)
framed_by true end code mark v t none fits =
    let x = plain_framed end code v t fits.0 fits.2 in
    let zero : mark ≡ 0 = eqb-true mark 0 none in
    (x.0, x.1, x.2, x.3 ∙ sym zero, x.4)
framed_by false end code mark v t some fits =
    let other : mark ≡ 0 → ⊥ = eqb-false mark 0 some in
    let less : mark - 1 < 2 ^ 32 = omega (arith, other, fits.1) in
    let x = vendor_framed end code (mark - 1) v t fits.0 less fits.2 in
    (x.0, x.1, x.2, omega (arith, other, x.3), x.4)

pub dia_written : IsWritten frame_in frame_run Fits
unfolding frame_run
dia_written = record { framed = λ end code mark v t fits. framed_by (eqb mark 0) end code mark v t refl fits }
