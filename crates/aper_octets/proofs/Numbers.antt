-- Numbers in their least octets.
use Rattle.std.proofs.Common.{◌≡◌, ℕ, ◌+◌, ◌-◌, ◌*◌, ◌/◌, ◌%◌, ◌<◌, ◌≤◌, List, [], ◌∷◌, ◌++◌, length, refl, sym, ap, ◌∙◌, inl, inr, append_assoc, arith}
use Rattle.std.proofs.lemmas.Bool.{cases_lt, lt-ltb, le-ltb}
use Rattle.std.proofs.Math.Nat.{div-add-mod}
use Rattle.aper_octets.specs.Octets.{least_octets, number_octets}

pub least_one : (a : ℕ) → a < 256 → least_octets a ≡ a ∷ []
unfolding least_octets
least_one a ha = rw (lt-ltb a 256 ha) refl

-- an octet more
pub least_more : (a b : ℕ) → 0 < a → a < 4294967296 → b < 256 → least_octets (a * 256 + b) ≡ least_octets a ++ b ∷ []
unfolding least_octets
least_more a b some fits small =
    let n = a * 256 + b in
    let low : n % 256 ≡ b = omega arith in
    let one : n / 256 ≡ a = omega arith in
    let two : n / 65536 ≡ a / 256 = omega arith in
    let three : n / 16777216 ≡ a / 65536 = omega arith in
    let four : n / 4294967296 ≡ a / 16777216 = omega arith in
    let some_more = le-ltb n 256 (omega arith) in
    elim (cases_lt a 256) [
      | inl below ↦ rw (some_more, lt-ltb n 65536 (omega arith), lt-ltb a 256 below, one, low) refl
      | inr above ↦
          elim (cases_lt a 65536) [
            | inl below ↦ rw (some_more, le-ltb n 65536 (omega arith), lt-ltb n 16777216 (omega arith), le-ltb a 256 above, lt-ltb a 65536 below, one, two, low) refl
            | inr above2 ↦
                elim (cases_lt a 16777216) [
                  | inl below ↦ rw (some_more, le-ltb n 65536 (omega arith), le-ltb n 16777216 (omega arith), lt-ltb n 4294967296 (omega arith), le-ltb a 256 above, le-ltb a 65536 above2, lt-ltb a 16777216 below, one, two, three, low) refl
                  | inr above3 ↦ rw (some_more, le-ltb n 65536 (omega arith), le-ltb n 16777216 (omega arith), le-ltb n 4294967296 (omega arith), le-ltb a 256 above, le-ltb a 65536 above2, le-ltb a 16777216 above3, lt-ltb a 4294967296 fits, one, two, three, four, low) refl
                ]
          ]
    ]

-- the last octet
least_last : (n : ℕ) → 256 ≤ n → n < 1099511627776 → least_octets n ≡ least_octets (n / 256) ++ n % 256 ∷ []
least_last n some fits =
    let whole : n / 256 * 256 + n % 256 ≡ n = omega arith in
    ap least_octets (sym whole) ∙ least_more (n / 256) (n % 256) (omega arith) (omega arith) (omega arith)

pub put_last : (out more all : List ℕ) (n : ℕ) → 256 ≤ n → n < 1099511627776 → more ≡ out ++ least_octets (n / 256) → all ≡ more ++ n % 256 ∷ [] → all ≡ out ++ least_octets n
put_last out more all n some fits m a = a ∙ rw (m, least_last n some fits) (append_assoc out (least_octets (n / 256)) (n % 256 ∷ []))

-- the count less one in an octet
pub count_head : (head before unit : ℕ) → before ≤ head → (head - before) % unit ≡ 0 → head ≡ before + unit * ((head - before) / unit)
count_head head before unit low whole = omega (arith, div-add-mod (head - before) unit, whole, low)

pub numbered : (before unit count head n : ℕ) (octets rest more : List ℕ) → octets ≡ head ∷ rest → head ≡ before + unit * count → length (least_octets n) ≡ count + 1 → rest ≡ least_octets n ++ more → octets ≡ number_octets before unit n ++ more
unfolding number_octets
numbered before unit count head n octets rest more e h l stands =
    let k : length (least_octets n) - 1 ≡ count = omega (arith, l) in
    e ∙ rw (k, ← h, stands) refl
