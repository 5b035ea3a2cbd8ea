-- How many bits the pieces take at most, which a caller needs to know that what it puts into an open type fits.
use Rattle.std.proofs.Common.{ℕ, ◌+◌, ◌-◌, ◌*◌, ◌/◌, ◌^◌, ◌<◌, ◌≤◌, Bool, true, false, cond, ltb, eqb, List, length, inl, inr, arith}
use Rattle.std.proofs.lemmas.Bool.{cases_Bool}
use Rattle.std.proofs.lemmas.List.{length-append, length-replicate}
use Rattle.aper_fields.specs.declared.enumerated.EnumValue.{EnumValue}
use Rattle.aper_fields.specs.Bits.{bits_of, gap}
use Rattle.aper_fields.specs.Reading.{width}
use Rattle.aper_fields.specs.Run.{Run, ◌▸◌, bits_run, padding_run, nothing_run, octet_count, counted_run, number_run, length_octets, length_run, fixed_octets_run, octet_string_run, fixed_bits_run, enumerated_run, content_of, open_run}
use Rattle.aper_fields.proofs.BitLaws.{length-bits, length-bits_of}
use Rattle.aper_fields.proofs.Packed.{length-filled}
use Rattle.aper_fields.proofs.Widths.{width_below, octet_count_most}

-- a run takes at most so many bits, wherever it begins
abbrev pub Takes : ℕ → Run → Type 0
Takes most f = (at : ℕ) → length (f at) ≤ most

pub more_takes : (m n : ℕ) (f : Run) → m ≤ n → Takes m f → Takes n f
more_takes m n f le t = λ at. omega (arith, t at)

pub then_takes : (m n : ℕ) (f g : Run) → Takes m f → Takes n g → Takes (m + n) (f ▸ g)
then_takes m n f g p q at = omega (arith, length-append (f at) (g (at + length (f at))), p at, q (at + length (f at)))

pub either_takes : (b : Bool) (n : ℕ) (f g : Run) → Takes n f → Takes n g → Takes n (cond b f g)
either_takes true n f g p q = p
either_takes false n f g p q = q

pub bits_takes : (n v : ℕ) → Takes n (bits_run n v)
bits_takes n v at = omega (arith, length-bits n v)

pub padding_takes : Takes 7 padding_run
padding_takes at = omega (arith, length-replicate (gap at) false)

padded_takes : (n v : ℕ) → Takes (7 + n) (padding_run ▸ bits_run n v)
padded_takes n v = then_takes 7 n padding_run (bits_run n v) padding_takes (bits_takes n v)

counted_takes : (top n : ℕ) → Takes 74 (counted_run top n)
counted_takes top n =
    let most = octet_count top - 1 in
    let c = octet_count n in
    let seven : most < 2 ^ 3 = omega (arith, octet_count_most top) in
    let three : width most ≤ 3 = width_below most 3 (omega arith) seven in
    let whole = then_takes (width most) (7 + 8 * c) (bits_run (width most) (c - 1)) (padding_run ▸ bits_run (8 * c) n) (bits_takes (width most) (c - 1)) (padded_takes (8 * c) n) in
    λ at. omega (arith, whole at, three, octet_count_most n)

two_octets : (b : Bool) → cond b 8 16 ≤ 16
two_octets true = omega arith
two_octets false = omega arith

pub number_takes : (low top v : ℕ) → Takes 74 (number_run low top v)
unfolding number_run
number_takes low top v =
    either_takes (eqb top 0) 74 _ _ (λ at. omega arith)
    (either_takes (ltb top 255) 74 _ _ (λ at. omega (arith, length-bits (width top) (v - low)))
    (either_takes (ltb top 65536) 74 _ _ (λ at. omega (arith, padded_takes (cond (eqb top 255) 8 16) (v - low) at, two_octets (eqb top 255)))
    (counted_takes top (v - low))))

length_octets_most : (n : ℕ) → length (length_octets n) ≤ 16
unfolding length_octets
length_octets_most n =
    elim (cases_Bool (ltb n 128)) [
      | inl short ↦ rw short (omega (arith, length-bits 7 n))
      | inr long ↦ rw long (omega (arith, length-bits 14 n))
    ]

pub length_takes : (n : ℕ) → Takes 23 (length_run n)
unfolding length_run
length_takes n = then_takes 7 16 padding_run (λ at. length_octets n) padding_takes (λ at. length_octets_most n)

octets_take : (octets : List ℕ) → Takes (8 * length octets) (λ at. bits_of octets)
octets_take octets at = omega (arith, length-bits_of octets)

pub fixed_octets_takes : (octets : List ℕ) → Takes (7 + 8 * length octets) (fixed_octets_run octets)
unfolding fixed_octets_run
fixed_octets_takes octets = then_takes 7 (8 * length octets) padding_run (λ at. bits_of octets) padding_takes (octets_take octets)

pub octet_string_takes : (octets : List ℕ) → Takes (23 + 8 * length octets) (octet_string_run octets)
unfolding octet_string_run
octet_string_takes octets = then_takes 23 (8 * length octets) (length_run (length octets)) (λ at. bits_of octets) (length_takes (length octets)) (octets_take octets)

pub fixed_bits_takes : (n v : ℕ) → Takes (7 + n) (fixed_bits_run n v)
unfolding fixed_bits_run
fixed_bits_takes n v = either_takes (ltb 16 n) (7 + n) _ _ (padded_takes n v) (λ at. omega (arith, length-bits n v))

pub enumerated_takes : (roots : ℕ) (extensible : Bool) (v : EnumValue) → Takes 75 (enumerated_run roots extensible v)
unfolding enumerated_run
enumerated_takes roots extensible v =
    let beyond = then_takes 1 7 (bits_run 1 1) (bits_run 1 0 ▸ bits_run 6 v.index) (bits_takes 1 1) (then_takes 1 6 (bits_run 1 0) (bits_run 6 v.index) (bits_takes 1 0) (bits_takes 6 v.index)) in
    either_takes v.extended 75 _ _ (λ at. omega (arith, beyond at))
    (then_takes 1 74 (cond extensible (bits_run 1 0) nothing_run) (number_run 0 (roots - 1) v.index) (either_takes extensible 1 (bits_run 1 0) nothing_run (bits_takes 1 0) (λ at. omega arith)) (number_takes 0 (roots - 1) v.index))

pub length-content_of : (body : List Bool) → length (content_of body) ≤ length body + 8
length-content_of body =
    elim (cases_Bool (eqb (length body) 0)) [
      | inl none ↦ rw none (omega arith)
      | inr some ↦ rw some (omega (arith, length-filled body))
    ]

pub open_takes : (body : List Bool) → Takes (31 + length body) (open_run body)
unfolding open_run
open_takes body =
    let n = length (content_of body) / 8 in
    let whole = then_takes 23 (length body + 8) (length_run n) (λ at. content_of body) (length_takes n) (λ at. length-content_of body) in
    λ at. omega (arith, whole at)
