-- Runs of bits: how long they are, the numbers that they are, and how they are joined and cut.
use Rattle.std.proofs.Common.{◌≡◌, ℕ, zero, suc, ◌+◌, ◌*◌, ◌/◌, ◌%◌, ◌^◌, ◌<◌, Bool, true, false, cond, eqb, List, [], ◌∷◌, ◌++◌, length, take, drop, refl, sym, ap, append_assoc, arith}
use Rattle.std.proofs.Math.Nat.{pow-suc, zero-div, mul-add-div_right, mul-add-mod_self_right}
use Rattle.std.proofs.lemmas.Nat.{pow_pos, shr-shr, mod-pow-add, shr_high, mod_below}
use Rattle.std.proofs.lemmas.List.{take_at, drop_at, length-append}
use Rattle.aper_fields.specs.Bits.{bits, number_of, bits_of, zeros}

pub length-bits : (n v : ℕ) → length (bits n v) ≡ n
unfolding bits
length-bits zero v = refl
length-bits (suc n) v = ap suc (length-bits n v)

-- bits above another number's
pub bits-add : (m n v : ℕ) → bits (m + n) v ≡ bits m (v / 2 ^ n) ++ bits n v
unfolding bits
bits-add zero n v = ap (λ k. bits k v) (omega arith)
bits-add (suc m) n v =
    let k : suc m + n ≡ suc (m + n) = omega arith in
    let j : m + n ≡ n + m = omega arith in
    let head : v / 2 ^ (m + n) ≡ v / 2 ^ n / 2 ^ m = rw j (sym (shr-shr v n m)) in
    rw (k, head) (ap (λ (bs : List Bool). eqb (v / 2 ^ n / 2 ^ m % 2) 1 ∷ bs) (bits-add m n v))

-- the bits of a number are those of its low part
pub bits-low : (n hi lo : ℕ) → bits n (hi * 2 ^ n + lo) ≡ bits n lo
unfolding bits
bits-low zero hi lo = refl
bits-low (suc n) hi lo =
    let twice : hi * 2 ^ suc n + lo ≡ hi * 2 * 2 ^ n + lo = rw (pow-suc 2 n) (omega arith) in
    let shifted : (hi * 2 * 2 ^ n + lo) / 2 ^ n ≡ hi * 2 + lo / 2 ^ n = mul-add-div_right (pow_pos n) (hi * 2) lo in
    let head : (hi * 2 + lo / 2 ^ n) % 2 ≡ lo / 2 ^ n % 2 = mul-add-mod_self_right hi 2 (lo / 2 ^ n) in
    rw (twice, shifted, head, bits-low n (hi * 2) lo) refl

bit_value : (d p : ℕ) → d < 2 → cond (eqb d 1) p 0 ≡ d * p
bit_value zero p h = omega arith
bit_value (suc zero) p h = omega arith
bit_value (suc (suc d)) p h = absurd (omega arith)

pub number_of-bits : (n v : ℕ) → number_of (bits n v) ≡ v % 2 ^ n
unfolding bits number_of
number_of-bits zero v = omega arith
number_of-bits (suc n) v =
    let one : suc n ≡ 1 + n = omega arith in
    rw (length-bits n v, number_of-bits n v, bit_value (v / 2 ^ n % 2) (2 ^ n) (mod_below (v / 2 ^ n) 2 (omega arith)), one) (sym (mod-pow-add v 1 n))

pub number_of-lt : (bs : List Bool) → number_of bs < 2 ^ length bs
unfolding number_of
number_of-lt [] = omega arith
number_of-lt (true ∷ bs) = omega (arith, pow-suc 2 (length bs), number_of-lt bs)
number_of-lt (false ∷ bs) = omega (arith, pow-suc 2 (length bs), number_of-lt bs)

pub bits-number_of : (bs : List Bool) → bits (length bs) (number_of bs) ≡ bs
unfolding bits number_of
bits-number_of [] = refl
bits-number_of (true ∷ bs) =
    let n = length bs in
    let one : 2 ^ n + number_of bs ≡ 1 * 2 ^ n + number_of bs = omega arith in
    rw (one, shr_high 1 n (number_of bs) (number_of-lt bs), bits-low n 1 (number_of bs), bits-number_of bs) refl
bits-number_of (false ∷ bs) =
    let n = length bs in
    let one : 0 + number_of bs ≡ 0 * 2 ^ n + number_of bs = omega arith in
    rw (one, shr_high 0 n (number_of bs) (number_of-lt bs), bits-low n 0 (number_of bs), bits-number_of bs) refl

pub take-bits : (m n v : ℕ) → take m (bits (m + n) v) ≡ bits m (v / 2 ^ n)
take-bits m n v = rw (bits-add m n v) (take_at (bits m (v / 2 ^ n)) (bits n v) m (length-bits m (v / 2 ^ n)))

pub drop-bits : (m n v : ℕ) → drop m (bits (m + n) v) ≡ bits n v
drop-bits m n v = rw (bits-add m n v) (drop_at (bits m (v / 2 ^ n)) (bits n v) m (length-bits m (v / 2 ^ n)))

-- ---- octets

pub length-bits_of : (octets : List ℕ) → length (bits_of octets) ≡ 8 * length octets
unfolding bits_of
length-bits_of [] = refl
length-bits_of (b ∷ bs) = omega (arith, length-append (bits 8 b) (bits_of bs), length-bits 8 b, length-bits_of bs)

pub bits_of-append : (xs ys : List ℕ) → bits_of (xs ++ ys) ≡ bits_of xs ++ bits_of ys
unfolding bits_of
bits_of-append [] ys = refl
bits_of-append (b ∷ bs) ys = rw (bits_of-append bs ys) (sym (append_assoc (bits 8 b) (bits_of bs) (bits_of ys)))

pub bits-zero : (n : ℕ) → bits n 0 ≡ zeros n
unfolding bits
bits-zero zero = refl
bits-zero (suc n) = rw (zero-div (2 ^ n)) (ap (λ (bs : List Bool). false ∷ bs) (bits-zero n))
