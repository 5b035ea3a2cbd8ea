-- The octets that hold a run: how many they are, and that their bits are the run, filled up with zeros.
use Rattle.std.proofs.Common.{◌≡◌, ℕ, zero, suc, ◌+◌, ◌*◌, ◌/◌, ◌%◌, ◌^◌, ◌<◌, ◌≤◌, Bool, false, List, [], ◌∷◌, length, get_or, take, drop, refl, sym, ap, ◌∙◌, arith}
use Rattle.std.proofs.lemmas.List.{take_at, drop_at, take_all, length-append, length-take, length-drop, length-replicate}
use Rattle.std.proofs.Math.Nat.{mod-eq_of_lt}
use Rattle.std.proofs.Math.Seq.{take-add}
use Rattle.aper_fields.specs.Bits.{bits, number_of, bits_of, octets_of, zeros, gap, filled, packed}
use Rattle.aper_fields.proofs.BitLaws.{length-bits, length-bits_of, number_of-bits, bits-number_of}

abbrev pub IsBytes : List ℕ → Type 0
IsBytes bytes = (i : ℕ) → get_or bytes i 0 < 256

pub octets_of-bits_of : (n : ℕ) (octets : List ℕ) → n ≤ length octets → IsBytes octets → octets_of n (bits_of octets) ≡ take n octets
unfolding octets_of bits_of
octets_of-bits_of zero octets h fits = refl
octets_of-bits_of (suc n) [] h fits = absurd (omega arith)
octets_of-bits_of (suc n) (b ∷ bs) h fits =
    let low : b % 2 ^ 8 ≡ b = mod-eq_of_lt (omega (arith, fits 0)) in
    rw (take_at (bits 8 b) (bits_of bs) 8 (length-bits 8 b), drop_at (bits 8 b) (bits_of bs) 8 (length-bits 8 b), number_of-bits 8 b, low, octets_of-bits_of n bs (omega arith) (λ i. fits (suc i))) refl

-- all of them
pub octets_of-all : (octets : List ℕ) → IsBytes octets → octets_of (length octets) (bits_of octets) ≡ octets
octets_of-all octets fits = octets_of-bits_of (length octets) octets (omega arith) fits ∙ take_all (length octets) octets (omega arith)

pub length-octets_of : (n : ℕ) (bs : List Bool) → length (octets_of n bs) ≡ n
unfolding octets_of
length-octets_of zero bs = refl
length-octets_of (suc n) bs = ap suc (length-octets_of n (drop 8 bs))

pub bits_of-octets_of : (n : ℕ) (bs : List Bool) → 8 * n ≤ length bs → bits_of (octets_of n bs) ≡ take (8 * n) bs
unfolding octets_of bits_of
bits_of-octets_of zero bs h = refl
bits_of-octets_of (suc n) bs h =
    let len : length (take 8 bs) ≡ 8 = omega (arith, length-take 8 bs) in
    let first : bits 8 (number_of (take 8 bs)) ≡ take 8 bs = ap (λ n. bits n (number_of (take 8 bs))) (sym len) ∙ bits-number_of (take 8 bs) in
    let e : 8 * suc n ≡ 8 + 8 * n = omega arith in
    rw (first, bits_of-octets_of n (drop 8 bs) (omega (arith, length-drop 8 bs)), e) (sym (take-add 8 (8 * n) bs))

-- whole octets
pub length-filled : (run : List Bool) → length (filled run) ≡ 8 * ((length run + 7) / 8)
length-filled run = omega (arith, length-append run (zeros (gap (length run))), length-replicate (gap (length run)) false)

pub length-packed : (run : List Bool) → length (packed run) ≡ (length run + 7) / 8
unfolding packed
length-packed run = omega (arith, length-octets_of (length (filled run) / 8) (filled run), length-filled run)

pub bits_of-packed : (run : List Bool) → bits_of (packed run) ≡ filled run
unfolding packed
bits_of-packed run =
    let whole : 8 * (length (filled run) / 8) ≡ length (filled run) = omega (arith, length-filled run) in
    bits_of-octets_of (length (filled run) / 8) (filled run) (omega (arith, whole)) ∙ take_all (8 * (length (filled run) / 8)) (filled run) (omega (arith, whole))

-- a run in place of the octets that hold it
pub packed-of : (octets : List ℕ) (run : List Bool) → bits_of octets ≡ filled run → octets_of (length octets) (bits_of octets) ≡ packed run
unfolding packed
packed-of octets run e =
    let len : length (filled run) / 8 ≡ length octets = omega (arith, length-bits_of octets, ap length e) in
    rw (len, ← e) refl

-- octets whose bits are a run and zeros up to the next octet
pub packed_is : (octets : List ℕ) (run : List Bool) → IsBytes octets → bits_of octets ≡ filled run → octets ≡ packed run
packed_is octets run fits e = sym (octets_of-all octets fits) ∙ packed-of octets run e
