-- Decimal digits in the halves of octets, and a bit of one.
use Rattle.std.proofs.Common.{not, eqb, inl, inr, ◌≡◌, ℕ, ◌+◌, ◌*◌, ◌/◌, ◌%◌, ◌^◌, ◌<◌, ◌≤◌, List, ◌∷◌, length, get_or, drop, ap, sym, ◌∙◌, refl, arith}
use Rattle.std.proofs.Math.Nat.{pow-le-pow_right}
use Rattle.std.specs.Int.Bits.{bit_and}
use Rattle.std.proofs.lemmas.Bool.{cases_Bool, eqb-true, eqb-false, le-ltb}
use Rattle.std.proofs.lemmas.Nat.Bits.{and_pow}
use Rattle.std.proofs.lemmas.Grind.{pow_more}
use Rattle.std.proofs.lemmas.List.{drop_more}
use Rattle.nas_kinds.specs.Identity.{halves}
use Rattle.nas_kinds.specs.Reading.{decimal_from}

-- two more digits fit
pub number_fits : (i number : ℕ) → i < 7 → number < 10 ^ (2 * i + 1) → 100 * number + 99 < 2 ^ 64
number_fits i number few h =
    let e : 2 * i + 1 ≤ 13 = omega arith in
    let most : 10 ^ (2 * i + 1) ≤ 10 ^ 13 = pow-le-pow_right (omega arith) e in
    omega arith

pub number_more : (i number low high : ℕ) → number < 10 ^ (2 * i + 1) → low ≤ 9 → high ≤ 9 → 100 * number + 10 * low + high < 10 ^ (2 * (i + 1) + 1)
number_more i number low high h l g =
    let e : 10 ^ (2 * (i + 1) + 1) ≡ 10 ^ (2 * i + 1) * 10 * 10 = ap (λ k. 10 ^ k) (omega arith) ∙ pow_more 10 (2 * i + 1 + 1) ∙ ap (λ n. n * 10) (pow_more 10 (2 * i + 1)) in
    omega arith

-- an octet of two digits
pub decimal_step : (number octet : ℕ) (octets : List ℕ) → octet % 16 ≤ 9 → octet / 16 ≤ 9 → decimal_from number (halves (octet ∷ octets)) ≡ decimal_from (100 * number + 10 * (octet % 16) + octet / 16) (halves octets)
decimal_step number octet octets l h =
    rw (le-ltb 9 (octet % 16) l, le-ltb 9 (octet / 16) h) (ap (λ n. decimal_from n (halves octets)) (omega arith))

pub decimal_at : (i number low high octet : ℕ) (octets : List ℕ) → i < length octets → octet ≡ get_or octets i 0 → low ≡ octet % 16 → high ≡ octet / 16 → low ≤ 9 → high ≤ 9 → decimal_from (100 * number + 10 * low + high) (halves (drop (i + 1) octets)) ≡ decimal_from number (halves (drop i octets))
decimal_at i number low high octet octets within o l h lb hb =
    let rest = drop (i + 1) octets in
    let split : drop i octets ≡ octet ∷ rest = drop_more octets i 0 within ∙ ap (λ x. x ∷ rest) (sym o) in
    ap (λ n. decimal_from n (halves rest)) (omega arith) ∙ sym (decimal_step number octet rest (omega arith) (omega arith)) ∙ sym (ap (λ xs. decimal_from number (halves xs)) split)

-- bit 4 of an octet
pub fourth_bit : (octet : ℕ) → not (eqb (bit_and octet 8) 0) ≡ eqb (octet / 8 % 2) 1
fourth_bit octet =
    let e : bit_and octet 8 ≡ octet / 8 % 2 * 8 = and_pow octet 3 in
    elim (cases_Bool (eqb (octet / 8 % 2) 1)) [
      | inl t ↦ (let one = eqb-true _ _ t in rw (e, one) refl)
      | inr f ↦ (let none : octet / 8 % 2 ≡ 0 = omega (arith, eqb-false (octet / 8 % 2) 1 f) in rw (e, none) refl)
    ]
