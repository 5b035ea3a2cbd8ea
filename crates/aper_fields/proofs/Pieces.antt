-- What the pieces are written as.
use Rattle.std.proofs.Common.{◌≡◌, ℕ, ◌+◌, ◌-◌, ◌*◌, ◌/◌, ◌^◌, ◌<◌, ◌≤◌, Bool, true, false, ltb, eqb, List, [], ◌∷◌, ◌++◌, length, inl, inr, refl, sym, ap, ◌∙◌, arith}
use Rattle.std.proofs.lemmas.List.{length-append, length-replicate, append-nil}
use Rattle.std.proofs.lemmas.Nat.{shr_high}
use Rattle.std.proofs.Math.Nat.{div-eq_of_lt}
use Rattle.std.proofs.lemmas.Bool.{cases_lt, lt-ltb, le-ltb, eq-eqb, ne_eqb}
use Rattle.aper_fields.specs.declared.enumerated.EnumValue.{EnumValue}
use Rattle.aper_fields.specs.Bits.{bits, bits_of, zeros, gap, filled}
use Rattle.aper_fields.specs.Reading.{width}
use Rattle.aper_fields.specs.Run.{◌▸◌, bits_run, padding_run, number_run, length_octets, length_run, fixed_octets_run, octet_string_run, enumerated_run, content_of, open_run}
use Rattle.aper_fields.proofs.Widths.{width_below, width_holds}
use Rattle.aper_fields.proofs.BitLaws.{length-bits, length-bits_of, bits-add, bits-low, bits-zero}

-- ---- lengths

pub length_octets-short : (n : ℕ) → n < 128 → bits 8 n ≡ length_octets n
unfolding bits length_octets
length_octets-short n h =
    let none : n / 2 ^ 7 ≡ 0 = div-eq_of_lt h in
    rw (none, lt-ltb n 128 h) refl

two_bits : bits 2 2 ≡ true ∷ false ∷ []
unfolding bits
two_bits = refl

pub length_octets-long : (n : ℕ) → 128 ≤ n → n < 2 ^ 14 → bits 16 (32768 + n) ≡ length_octets n
unfolding length_octets
length_octets-long n h small =
    let e : 32768 + n ≡ 2 * 2 ^ 14 + n = omega arith in
    ap (bits 16) e ∙ bits-add 2 14 (2 * 2 ^ 14 + n) ∙ rw (shr_high 2 14 n small, bits-low 14 2 n, le-ltb n 128 h, two_bits) refl

pub length_run-short : (n at : ℕ) → n < 128 → (padding_run ▸ bits_run 8 n) at ≡ length_run n at
unfolding length_run
length_run-short n at h = ap (λ (l : List Bool). zeros (gap at) ++ l) (length_octets-short n h)

pub length_run-long : (n at : ℕ) → 128 ≤ n → n < 2 ^ 14 → (padding_run ▸ bits_run 16 (32768 + n)) at ≡ length_run n at
unfolding length_run
length_run-long n at h small = ap (λ (l : List Bool). zeros (gap at) ++ l) (length_octets-long n h small)

-- a length ends where an octet ends
pub length_run-ends : (n at : ℕ) → gap (at + length (length_run n at)) ≡ 0
unfolding length_run length_octets
length_run-ends n at =
    elim (cases_lt n 128) [
      | inl short ↦ rw (lt-ltb n 128 short) (omega (arith, length-bits 7 n, length-append (zeros (gap at)) (false ∷ bits 7 n), length-replicate (gap at) false))
      | inr long ↦ rw (le-ltb n 128 long) (omega (arith, length-bits 14 n, length-append (zeros (gap at)) (true ∷ false ∷ bits 14 n), length-replicate (gap at) false))
    ]

-- ---- octet strings

-- octets behind a length need no padding
pub octet_string_run-is : (octets : List ℕ) (at : ℕ) → (length_run (length octets) ▸ fixed_octets_run octets) at ≡ octet_string_run octets at
unfolding octet_string_run fixed_octets_run
octet_string_run-is octets at = rw (length_run-ends (length octets) at) refl

-- ---- open types

content_of-none : (octets : List ℕ) (body : List Bool) → bits_of octets ≡ filled body → length octets ≡ 0 → content_of body ≡ zeros 8
content_of-none octets body e none =
    let z : length body ≡ 0 = omega (arith, ap length e, length-append body (zeros (gap (length body))), length-bits_of octets) in
    rw (eq-eqb _ _ z) refl

pub content_of-some : (octets : List ℕ) (body : List Bool) → bits_of octets ≡ filled body → (length octets ≡ 0 → ⊥) → content_of body ≡ bits_of octets
content_of-some octets body e some =
    let ne : eqb (length body) 0 ≡ false = ne_eqb _ _ (λ z. some (omega (arith, z, ap length e, length-append body (zeros (gap (length body))), length-replicate (gap (length body)) false, length-bits_of octets))) in
    rw ne (sym e)

-- an open type is the octet string of what it contains
open_run-of : (octets : List ℕ) (body : List Bool) (at : ℕ) → content_of body ≡ bits_of octets → octet_string_run octets at ≡ open_run body at
unfolding open_run octet_string_run
open_run-of octets body at e =
    let len : length (bits_of octets) / 8 ≡ length octets = omega (arith, length-bits_of octets) in
    rw (e, len) refl

pub open_run-none : (octets : List ℕ) (body : List Bool) (at : ℕ) → bits_of octets ≡ filled body → length octets ≡ 0 → octet_string_run (0 ∷ []) at ≡ open_run body at
unfolding bits_of
open_run-none octets body at e none = open_run-of (0 ∷ []) body at (content_of-none octets body e none ∙ sym (append-nil (bits 8 0) ∙ bits-zero 8))

pub open_run-some : (octets : List ℕ) (body : List Bool) (at : ℕ) → bits_of octets ≡ filled body → (length octets ≡ 0 → ⊥) → octet_string_run octets at ≡ open_run body at
open_run-some octets body at e some = open_run-of octets body at (content_of-some octets body e some)

-- ---- enumerations

-- an index beyond the roots, behind the bits 1 and 0
pub enumerated_run-beyond : (roots : ℕ) (extensible : Bool) (v : EnumValue) (at : ℕ) → v.extended ≡ true → v.index < 64 → bits 8 (128 + v.index) ≡ enumerated_run roots extensible v at
unfolding enumerated_run
enumerated_run-beyond roots extensible v at beyond small =
    let n = v.index in
    let e : 128 + n ≡ 1 * 2 ^ 7 + n = omega arith in
    let below : n < 2 ^ 7 = omega arith in
    let none : n / 2 ^ 6 ≡ 0 = div-eq_of_lt small in
    ap (bits 8) e ∙ bits-add 1 7 (1 * 2 ^ 7 + n) ∙ rw (shr_high 1 7 n below, bits-low 7 1 n, beyond, bits-add 1 6 n, none) refl

-- an index of at most 64 roots takes the least number of bits
number_run-index : (top n at : ℕ) → top < 64 → number_run 0 top n at ≡ bits (width top) n
unfolding number_run bits
number_run-index top n at small =
    let within : ltb top 255 ≡ true = lt-ltb top 255 (omega arith) in
    elim (cases_lt 0 top) [
      | inl some ↦ let ne : eqb top 0 ≡ false = ne_eqb _ _ (λ z. absurd (omega (arith, z))) in let same : n - 0 ≡ n = omega arith in rw (ne, within, same) refl
      | inr none ↦ let z : top ≡ 0 = omega arith in let w : width 0 ≡ 0 = omega (arith, width_below 0 0 (omega arith) (omega arith)) in rw (z, w) refl
    ]

pub enumerated_run-root : (roots : ℕ) (extensible : Bool) (v : EnumValue) (at : ℕ) → v.extended ≡ false → extensible ≡ false → v.index < roots → roots ≤ 64 → bits (width (roots - 1)) v.index ≡ enumerated_run roots extensible v at
unfolding enumerated_run
enumerated_run-root roots extensible v at root fixed small most = rw (root, fixed, number_run-index (roots - 1) v.index (at + 0) (omega arith)) refl

-- with an extension mark, behind a bit 0
pub enumerated_run-marked : (roots : ℕ) (extensible : Bool) (v : EnumValue) (at : ℕ) → v.extended ≡ false → extensible ≡ true → v.index < roots → roots ≤ 64 → bits (1 + width (roots - 1)) v.index ≡ enumerated_run roots extensible v at
unfolding enumerated_run
enumerated_run-marked roots extensible v at root marked small most =
    let w = width (roots - 1) in
    let none : v.index / 2 ^ w ≡ 0 = div-eq_of_lt (omega (arith, width_holds (roots - 1) (omega arith))) in
    bits-add 1 w v.index ∙ rw (root, marked, none, number_run-index (roots - 1) v.index (at + length (bits 1 0)) (omega arith)) refl
