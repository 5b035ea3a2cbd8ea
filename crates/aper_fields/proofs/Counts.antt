-- How many bits and octets hold a number.
use Rattle.std.proofs.Common.{◌⊎◌, ◌≡◌, ℕ, suc, ◌+◌, ◌-◌, ◌*◌, ◌/◌, ◌^◌, ◌<◌, ◌≤◌, true, false, not, ◌&&◌, ltb, eqb, refl, inl, inr, arith}
use Rattle.std.proofs.Math.Nat.{div-eq_of_lt}
use Rattle.std.proofs.Math.Pow.{pow_mono}
use Rattle.std.proofs.lemmas.Grind.{div_ceil_times}
use Rattle.std.proofs.lemmas.Bool.{cases_lt, cases_Bool, lt-ltb, le-ltb, eqb-true, eqb-false, eq-eqb, ne_eqb}
use Rattle.std.proofs.lemmas.Nat.{leading_top, pow_pos, le-div}
use Rattle.std.specs.Int.{div_ceil}
use Rattle.aper_fields.specs.Reading.{width}
use Rattle.aper_fields.specs.Run.{octet_count}

pow-lt_back : (i j : ℕ) → 2 ^ i < 2 ^ j → i < j
pow-lt_back i j h =
    elim (cases_lt i j) [
      | inl below ↦ below
      | inr above ↦ absurd (omega (arith, pow_mono above, h))
    ]

-- so many octets are no more than a number needs
abbrev pub NeedsOctets : ℕ → ℕ → Type 0
NeedsOctets n count = (count ≡ 1) ⊎ (2 ^ (8 * (count - 1)) ≤ n)

-- what no count of fewer octets holds
pub needed_le : (n top c d : ℕ) → n ≤ top → NeedsOctets n c → 1 ≤ d → top < 2 ^ (8 * d) → c ≤ d
needed_le n top c d le needs some holds =
    elim needs [
      | inl one ↦ omega (arith, one)
      | inr low ↦ let h : 2 ^ (8 * (c - 1)) < 2 ^ (8 * d) = omega (arith, low, holds, le) in omega (arith, pow-lt_back (8 * (c - 1)) (8 * d) h)
    ]

-- so many octets hold a number, and it needs them all
record IsLeastCount (n count : ℕ) : Type 0 where
  some : 1 ≤ count
  few : count ≤ 8
  holds : n < 2 ^ (8 * count)
  needs : NeedsOctets n count

IsLeastCount-from_bits : (n j c : ℕ) → 2 ^ j ≤ n → n < 2 ^ suc j → j < 64 → suc j ≤ 8 * c → 8 * c < suc j + 8 → IsLeastCount n c
IsLeastCount-from_bits n j c low high small le lt =
    let least : 8 * (c - 1) ≤ j = omega arith in
    record {
      some = omega arith;
      few = omega arith;
      holds = omega (arith, high, pow_mono le);
      needs = inr (omega (arith, low, pow_mono least));
    }

IsLeastCount-octet_count : (n : ℕ) → n < 2 ^ 64 → IsLeastCount n (octet_count n)
IsLeastCount-octet_count n fits =
    elim (cases_Bool (eqb n 0)) [
      | inl t ↦ rw t (record { some = omega arith; few = omega arith; holds = omega (arith, eqb-true n 0 t); needs = inl refl })
      | inr f ↦
          let t = leading_top 64 n (omega (arith, eqb-false n 0 f)) fits in
          let w : width n ≡ suc t.0 = omega (arith, t.1) in
          let up = div_ceil_times (width n) 8 (omega arith) in
          rw f (IsLeastCount-from_bits n t.0 (div_ceil (width n) 8) t.2 t.3 (omega (arith, t.1)) (omega (arith, w, up.0)) (omega (arith, w, up.1)))
    ]

-- a number is below 256 to the power of its count of octets
pub octet_count_holds : (n : ℕ) → n < 2 ^ 64 → n < 2 ^ (8 * octet_count n)
octet_count_holds n fits = (IsLeastCount-octet_count n fits).holds

pub octet_count_some : (n : ℕ) → n < 2 ^ 64 → 1 ≤ octet_count n
octet_count_some n fits = (IsLeastCount-octet_count n fits).some

pub octet_count_few : (n : ℕ) → n < 2 ^ 64 → octet_count n ≤ 8
octet_count_few n fits = (IsLeastCount-octet_count n fits).few

pub width_octets_few : (n : ℕ) → div_ceil (width n) 8 ≤ 8
width_octets_few n = let up = div_ceil_times (width n) 8 (omega arith) in omega (arith, up.1)

-- above 255 a number needs more than one
pub octet_count_more : (n : ℕ) → 255 < n → n < 2 ^ 64 → 1 < octet_count n
octet_count_more n long fits =
    elim (cases_lt 1 (octet_count n)) [
      | inl more ↦ more
      | inr one ↦ let le : 8 * octet_count n ≤ 8 = omega (arith, one) in absurd (omega (arith, octet_count_holds n fits, pow_mono le, long))
    ]

-- no other count is the least that holds it
pub octet_count_is : (n c : ℕ) → n < 2 ^ 64 → 1 ≤ c → n < 2 ^ (8 * c) → NeedsOctets n c → octet_count n ≡ c
octet_count_is n c fits some holds needs =
    let o = IsLeastCount-octet_count n fits in
    let le : n ≤ n = omega arith in
    omega (arith, needed_le n n (octet_count n) c le o.needs some holds, needed_le n n c (octet_count n) le needs o.some o.holds)

-- a count that holds a number is no less
pub octet_count_le : (n k : ℕ) → n < 2 ^ 64 → 1 ≤ k → n < 2 ^ (8 * k) → octet_count n ≤ k
octet_count_le n k fits some holds = needed_le n n (octet_count n) k (omega arith) (IsLeastCount-octet_count n fits).needs some holds

pub octet_count_back : (n k : ℕ) → n < 2 ^ 64 → octet_count n ≤ k → n < 2 ^ (8 * k)
octet_count_back n k fits le =
    let more : 8 * octet_count n ≤ 8 * k = omega (arith, le) in
    omega (arith, octet_count_holds n fits, pow_mono more)

-- of several octets the first is not 0
pub octet_count_first : (n : ℕ) → n < 2 ^ 64 → (octet_count n ≡ 1) ⊎ (0 < n / 2 ^ (8 * (octet_count n - 1)))
octet_count_first n fits =
    elim (IsLeastCount-octet_count n fits).needs [
      | inl one ↦ inl one
      | inr low ↦ inr (le-div 1 n (2 ^ (8 * (octet_count n - 1))) (pow_pos (8 * (octet_count n - 1))) (omega (arith, low)))
    ]

pub octet_count_mono : (n top : ℕ) → n ≤ top → top < 2 ^ 64 → octet_count n ≤ octet_count top
octet_count_mono n top le fits =
    let o = IsLeastCount-octet_count top fits in
    needed_le n top (octet_count n) (octet_count top) le (IsLeastCount-octet_count n (omega (arith, le, fits))).needs o.some o.holds

below_64 : (n c : ℕ) → c ≤ 8 → n < 2 ^ (8 * c) → n < 2 ^ 64
below_64 n c few holds = let le : 8 * c ≤ 64 = omega arith in omega (arith, holds, pow_mono le)

-- a number that was read in c octets needs them all unless the first of several is 0
pub first_octet_test : (n c : ℕ) → 1 ≤ c → c ≤ 8 → n < 2 ^ (8 * c) → eqb (octet_count n) c ≡ not (ltb 1 c && eqb (n / 2 ^ (8 * (c - 1))) 0)
first_octet_test n c some few holds =
    let fits = below_64 n c few holds in
    elim (cases_lt 1 c) [
      | inl several ↦
          elim (cases_lt n (2 ^ (8 * (c - 1)))) [
            | inl low ↦
                let less = needed_le n n (octet_count n) (c - 1) (omega arith) (IsLeastCount-octet_count n fits).needs (omega arith) low in
                let ne : eqb (octet_count n) c ≡ false = ne_eqb _ _ (λ e. absurd (omega (arith, e, less, several))) in
                rw (ne, lt-ltb 1 c several, div-eq_of_lt low) refl
            | inr high ↦
                let e : eqb (octet_count n) c ≡ true = eq-eqb _ _ (octet_count_is n c fits some holds (inr high)) in
                let ne : eqb (n / 2 ^ (8 * (c - 1))) 0 ≡ false = ne_eqb _ _ (λ z. absurd (omega (arith, z, le-div 1 n (2 ^ (8 * (c - 1))) (pow_pos (8 * (c - 1))) (omega (arith, high))))) in
                rw (e, lt-ltb 1 c several, ne) refl
          ]
      | inr one ↦
          let e : eqb (octet_count n) c ≡ true = eq-eqb _ _ (octet_count_is n c fits some holds (inl (omega arith))) in
          rw (e, le-ltb 1 c one) refl
    ]
