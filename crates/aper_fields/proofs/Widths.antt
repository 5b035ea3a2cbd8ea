-- How many bits and octets a number takes.
use Rattle.std.proofs.Common.{◌≡◌, ℕ, suc, ◌-◌, ◌*◌, ◌^◌, ◌<◌, ◌≤◌, eqb, false, inl, inr, refl, subst, arith}
use Rattle.std.proofs.lemmas.Bool.{cases_lt, ne_eqb}
use Rattle.std.proofs.lemmas.Nat.{leading_length}
use Rattle.std.proofs.Math.Nat.{pow-suc}
use Rattle.std.proofs.Math.Pow.{pow_mono}
use Rattle.std.specs.Int.{div_ceil}
use Rattle.aper_fields.specs.Reading.{width}
use Rattle.aper_fields.specs.Run.{octet_count}
use Rattle.aper_fields.proofs.Counts.{octet_count_mono}

-- a number below a power of two is no wider
pub width_below : (n k : ℕ) → n < 2 ^ 64 → n < 2 ^ k → width n ≤ k
width_below n k fits below =
    let t = leading_length 64 n fits in
    let w : width n ≡ t.0 = omega (arith, t.1) in
    elim (cases_lt k t.0) [
      | inl wider ↦ let p : 2 ^ suc k ≤ 2 ^ t.0 = pow_mono wider in absurd (omega (arith, p, pow-suc 2 k, t.3))
      | inr within ↦ omega (arith, w, within)
    ]

-- a number fits its width
pub width_holds : (n : ℕ) → n < 2 ^ 64 → n < 2 ^ width n
width_holds n fits =
    let t = leading_length 64 n fits in
    let w : width n ≡ t.0 = omega (arith, t.1) in
    rw w t.2

-- so does it a greater one
pub width_back : (n k : ℕ) → n < 2 ^ 64 → width n ≤ k → n < 2 ^ k
width_back n k fits le = omega (arith, width_holds n fits, pow_mono le)

-- a smaller number fits too
pub width_covers : (top a : ℕ) → top < 2 ^ 64 → a ≤ top → a < 2 ^ width top
width_covers top a fits le = omega (arith, width_holds top fits, le)

-- a number above 0 takes a bit
pub width_some : (n : ℕ) → 0 < n → n < 2 ^ 64 → 0 < width n
width_some n some fits =
    elim (cases_lt 0 (width n)) [
      | inl h ↦ h
      | inr h ↦ let z : width n ≡ 0 = omega arith in absurd (omega (arith, subst (λ k. n < 2 ^ k) z (width_holds n fits)))
    ]

-- ---- octets

pub octets_hold : (n : ℕ) → n < 2 ^ 64 → n < 2 ^ (8 * div_ceil (width n) 8)
octets_hold n fits =
    let more : width n ≤ 8 * div_ceil (width n) 8 = omega arith in
    let le : 2 ^ width n ≤ 2 ^ (8 * div_ceil (width n) 8) = pow_mono more in
    omega (arith, width_holds n fits, le)

octet_count-some : (n : ℕ) → 0 < n → octet_count n ≡ div_ceil (width n) 8
octet_count-some n some = let ne : eqb n 0 ≡ false = ne_eqb _ _ (λ z. absurd (omega (arith, z))) in rw ne refl

pub octet_count_most : (n : ℕ) → octet_count n ≤ 8
octet_count_most n =
    elim (cases_lt 0 n) [
      | inl some ↦ omega (arith, octet_count-some n some)
      | inr none ↦ let z : n ≡ 0 = omega arith in rw z (omega arith)
    ]

-- the count of a number's octets less one fits where that of the greatest number does
pub count_fits : (n top : ℕ) → n ≤ top → top < 2 ^ 64 → octet_count n - 1 < 2 ^ width (octet_count top - 1)
count_fits n top h fits = omega (arith, octet_count_mono n top h fits, width_holds (octet_count top - 1) (omega (arith, octet_count_most top)))
