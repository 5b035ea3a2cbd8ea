-- What is written of a piece is something: at least one bit.
use Rattle.std.proofs.Common.{ℕ, ◌≡◌, ◌-◌, ◌*◌, ◌^◌, ◌<◌, ◌≤◌, ◌+◌, Bool, true, false, cond, List, length, eqb, ltb, refl, inl, inr, arith}
use Rattle.std.proofs.lemmas.List.{length-append}
use Rattle.std.proofs.lemmas.Bool.{cases_lt, lt-ltb, le-ltb, ne_eqb, ltb-false}
use Rattle.aper_fields.specs.declared.enumerated.EnumValue.{EnumValue}
use Rattle.aper_fields.specs.Bits.{bits, bits_of, zeros, gap}
use Rattle.aper_fields.specs.Reading.{width}
use Rattle.aper_fields.specs.Run.{Run, ◌▸◌, bits_run, padding_run, nothing_run, octet_count, length_octets, length_run, octet_string_run, fixed_octets_run, enumerated_run, fixed_bits_run, number_run}
use Rattle.aper_fields.proofs.BitLaws.{length-bits, length-bits_of}
use Rattle.aper_fields.proofs.Counts.{octet_count_more, octet_count_few}
use Rattle.aper_fields.proofs.Widths.{width_some}

pub first_some : (f g : Run) (at : ℕ) → 0 < length (f at) → 0 < length ((f ▸ g) at)
first_some f g at h = omega (arith, h, length-append (f at) (g (at + length (f at))))

pub bit_some : 0 < length (fixed_bits_run 1 0 0)
unfolding fixed_bits_run
bit_some = omega (arith, length-bits 1 0)

either_some : (b : Bool) (f g : Run) → 0 < length (f 0) → 0 < length (g 0) → 0 < length ((cond b f g) 0)
either_some true f g p q = p
either_some false f g p q = q

pub fixed_bits_some : (n v : ℕ) → 0 < n → 0 < length (fixed_bits_run n v 0)
unfolding fixed_bits_run
fixed_bits_some n v large = either_some (ltb 16 n) (padding_run ▸ bits_run n v) (bits_run n v) (omega (arith, large, length-append (zeros (gap 0)) (bits n v), length-bits n v)) (omega (arith, large, length-bits n v))

-- a number above 65,536 values begins with the count of its octets
counted_some : (top n : ℕ) → 255 < top → top < 2 ^ 64 → 0 < length (bits_run (width (octet_count top - 1)) n 0)
counted_some top n large small =
    let more : 1 < octet_count top = octet_count_more top large small in
    let few : octet_count top ≤ 8 = octet_count_few top small in
    omega (arith, width_some (octet_count top - 1) (omega arith) (omega arith), length-bits (width (octet_count top - 1)) n)

counted_octets_some : (b : Bool) (n : ℕ) → 0 < length ((padding_run ▸ bits_run (cond b 8 16) n) 0)
counted_octets_some true n = omega (arith, length-append (zeros (gap 0)) (bits 8 n), length-bits 8 n)
counted_octets_some false n = omega (arith, length-append (zeros (gap 0)) (bits 16 n), length-bits 16 n)

chosen_some : (a b c : Bool) (f g h : Run) → a ≡ false → (b ≡ true → 0 < length (f 0)) → (c ≡ true → 0 < length (g 0)) → (c ≡ false → 0 < length (h 0)) → 0 < length ((cond a nothing_run (cond b f (cond c g h))) 0)
chosen_some true b c f g h e p q r = absurd cc
chosen_some false true c f g h e p q r = p refl
chosen_some false false true f g h e p q r = q refl
chosen_some false false false f g h e p q r = r refl

pub number_some : (low top v : ℕ) → 0 < top → top < 2 ^ 64 → 0 < length (number_run low top v 0)
unfolding number_run
number_some low top v large small =
    let n = v - low in
    let octets : Run = padding_run ▸ bits_run (cond (eqb top 255) 8 16) n in
    let first : Run = bits_run (width (octet_count top - 1)) (octet_count n - 1) in
    let behind : Run = padding_run ▸ bits_run (8 * octet_count n) n in
    chosen_some (eqb top 0) (ltb top 255) (ltb top 65536) (bits_run (width top) n) octets (first ▸ behind) (ne_eqb top 0 (λ z. absurd (omega (arith, z, large))))
    (λ t. omega (arith, width_some top large small, length-bits (width top) n)) (λ t. counted_octets_some (eqb top 255) n)
    (λ t. first_some first behind 0 (counted_some top (octet_count n - 1) (omega (arith, ltb-false top 65536 t)) small))

length_octets_some : (n : ℕ) → 0 < length (length_octets n)
unfolding length_octets
length_octets_some n =
    elim (cases_lt n 128) [
      | inl short ↦ rw (lt-ltb n 128 short) (omega arith)
      | inr long ↦ rw (le-ltb n 128 long) (omega arith)
    ]

pub text_some : (text : List ℕ) → 0 < length (octet_string_run text 0)
unfolding octet_string_run length_run
text_some text = first_some (padding_run ▸ λ at. length_octets (length text)) (λ at. bits_of text) 0 (omega (arith, length_octets_some (length text), length-append (zeros (gap 0)) (length_octets (length text))))

pub marked_some : (roots : ℕ) (v : EnumValue) → 0 < length (enumerated_run roots true v 0)
unfolding enumerated_run
marked_some roots v =
    let beyond : Run = bits_run 1 0 ▸ bits_run 6 v.index in
    let within : Run = number_run 0 (roots - 1) v.index in
    either_some v.extended (bits_run 1 1 ▸ beyond) (bits_run 1 0 ▸ within) (first_some (bits_run 1 1) beyond 0 (omega (arith, length-bits 1 1))) (first_some (bits_run 1 0) within 0 (omega (arith, length-bits 1 0)))

pub unmarked_some : (roots : ℕ) (v : EnumValue) → 1 < roots → roots < 2 ^ 64 → 0 < length (enumerated_run roots false v 0)
unfolding enumerated_run
unmarked_some roots v large small =
    let beyond : Run = bits_run 1 0 ▸ bits_run 6 v.index in
    let within : Run = number_run 0 (roots - 1) v.index in
    either_some v.extended (bits_run 1 1 ▸ beyond) (nothing_run ▸ within) (first_some (bits_run 1 1) beyond 0 (omega (arith, length-bits 1 1))) (number_some 0 (roots - 1) v.index (omega arith) (omega arith))

pub octets_some : (n : ℕ) (octets : List ℕ) → 0 < n → length octets ≡ n → 0 < length (fixed_octets_run octets 0)
unfolding fixed_octets_run
octets_some n octets large whole = omega (arith, large, whole, length-bits_of octets, length-append (zeros (gap 0)) (bits_of octets))
