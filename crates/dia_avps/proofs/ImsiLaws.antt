-- The digits of an IMSI: the octets that are read are those that are written.
use Rattle.std.proofs.Common.{◌≡◌, ℕ, zero, suc, ◌+◌, ◌-◌, ◌*◌, ◌/◌, ◌%◌, ◌^◌, ◌<◌, ◌≤◌, eqb, Bool, true, false, cond, List, [], ◌∷◌, length, Some, None, refl, sym, ap, ◌∙◌, arith}
use Rattle.std.proofs.lemmas.Bool.{eqb-true}
use Rattle.std.proofs.Math.Nat.{add-mul, add_assoc, mod-eq_of_lt, mod-lt, mul-add-mod_self_right, mul-le-mul_right, mul_assoc, one-le-pow, pow-succ'}
use Rattle.std.proofs.lemmas.Nat.{div-add-mod', div-mul-add, mod-mul-add}
use Rattle.echo_base.specs.Format.{Decides}
use Rattle.tlv_elements.specs.Digits.{coded, number_from}
use Rattle.tlv_elements.proofs.Pieces.{between}
use Rattle.tlv_elements.proofs.Digits.{digits_found, digits_back, coded_length}
use Rattle.dia_avps.specs.Values.{imsi, imsi_run, imsi_decode, digit_run, digit_of}

digit_found : (octet d : ℕ) → digit_of octet ≡ Some d → (d < 10) × (octet ≡ digit_run d)
digit_found octet d h =
    let x = (between 48 57 octet (octet - 48)).found d h in
    let e : d ≡ octet - 48 = x.0 in
    let low : 48 ≤ octet = x.1.0 in
    let high : octet ≤ 57 = x.1.1 in
    (omega arith, omega arith)

digit_back : (d : ℕ) → d < 10 → digit_of (digit_run d) ≡ Some d
digit_back d few = (between 48 57 (48 + d) (48 + d - 48)).only d (omega arith, (omega arith, omega arith))

pub imsi_length : (v : ℕ) → length (imsi_run v) ≡ 15
imsi_length v = coded_length digit_run 10 15 v

-- 15 digits are those of their number
found_in : (octets : List ℕ) (n : ℕ) → length octets ≡ 15 → number_from digit_of 10 0 octets ≡ Some n → (n < 10 ^ 15) × (octets ≡ imsi_run n)
found_in octets n fifteen h =
    let x = digits_found digit_run digit_of 10 (λ o d h. digit_found o d h) 15 0 n octets fifteen h in
    let few : x.0 < 10 ^ 15 = x.1 in
    let is : n ≡ x.0 = omega (arith, x.2) in
    rw is (few, x.3)

pub imsi_decides : (octets : List ℕ) → Decides (imsi.decode octets) (imsi.Means octets)
unfolding imsi_decode
imsi_decides octets = record {
  found = λ v h. by (eqb (length octets) 15) refl v h;
  only = λ v m. rw m.1 (only v m.0);
}
  where
    by : (b : Bool) → eqb (length octets) 15 ≡ b → (v : ℕ) → cond b (number_from digit_of 10 0 octets) None ≡ Some v → (v < 10 ^ 15) × (octets ≡ imsi_run v)
    by true e v h = found_in octets v (eqb-true (length octets) 15 e) h
    by false e v h = absurd cc

    only : (v : ℕ) → v < 10 ^ 15 → imsi_decode (imsi_run v) ≡ Some v
    only v few = rw (coded_length digit_run 10 15 v) (digits_back digit_run digit_of 10 (λ d few. digit_back d few) 15 0 v few ∙ ap (λ x. Some x) (omega arith))

-- ---- written digit by digit

-- so many digits of a number, each by itself
abbrev places : ℕ → ℕ → List ℕ
places zero v = []
places (suc k) v = digit_run (v / 10 ^ k % 10) ∷ places k v

-- a remainder by ten times p, by its highest digit
split : (v p : ℕ) → 0 < p → v % (10 * p) ≡ v / p % 10 * p + v % p
split v p some =
    let a : v / p % 10 < 10 = mod-lt (v / p) (omega arith) in
    let b : v % p < p = mod-lt v some in
    let top : (v / p % 10 + 1) * p ≤ 10 * p = mul-le-mul_right p (omega arith) in
    let expand : (v / p % 10 + 1) * p ≡ v / p % 10 * p + 1 * p = add-mul (v / p % 10) 1 p in
    let whole : v ≡ v / p / 10 * (10 * p) + (v / p % 10 * p + v % p) =
    sym (div-add-mod' v p)
    ∙ ap (λ (x : ℕ). x * p + v % p) (sym (div-add-mod' (v / p) 10))
    ∙ ap (λ (x : ℕ). x + v % p) (add-mul (v / p / 10 * 10) (v / p % 10) p ∙ ap (λ (x : ℕ). x + v / p % 10 * p) (mul_assoc (v / p / 10) 10 p))
    ∙ add_assoc (v / p / 10 * (10 * p)) (v / p % 10 * p) (v % p) in
    ap (λ (x : ℕ). x % (10 * p)) whole ∙ mul-add-mod_self_right (v / p / 10) (10 * p) (v / p % 10 * p + v % p) ∙ mod-eq_of_lt (omega arith)

one_more : (x y : ℕ) (xs ys : List ℕ) → x ≡ y → xs ≡ ys → x ∷ xs ≡ y ∷ ys
one_more x y xs ys h g = rw (h, g) refl

coded_places : (k v : ℕ) → coded digit_run 10 k (v % 10 ^ k) ≡ places k v
unfolding coded
coded_places zero v = refl
coded_places (suc k) v =
    let some : 0 < 10 ^ k = one-le-pow k 10 (omega arith) in
    let few : v % 10 ^ k < 10 ^ k = mod-lt v some in
    let digit = v / 10 ^ k % 10 in
    let parts : v % 10 ^ suc k ≡ digit * 10 ^ k + v % 10 ^ k = ap (λ x. v % x) (pow-succ' 10 k) ∙ split v (10 ^ k) some in
    one_more _ _ _ _
    (ap digit_run (ap (λ x. x / 10 ^ k) parts ∙ div-mul-add digit (10 ^ k) (v % 10 ^ k) few))
    (ap (coded digit_run 10 k) (ap (λ x. x % 10 ^ k) parts ∙ mod-mul-add digit (10 ^ k) (v % 10 ^ k) few) ∙ coded_places k v)

imsi_places : (v : ℕ) → v < 10 ^ 15 → imsi_run v ≡ places 15 v
imsi_places v few = ap (coded digit_run 10 15) (sym (mod-eq_of_lt few)) ∙ coded_places 15 v

-- the digits as the program makes them
pub imsi_octets_are : (v a b c d e f g h i j k l m n o : ℕ) → v < 10 ^ 15 → a ≡ digit_run (v / 100000000000000 % 10) → b ≡ digit_run (v / 10000000000000 % 10) → c ≡ digit_run (v / 1000000000000 % 10) → d ≡ digit_run (v / 100000000000 % 10) → e ≡ digit_run (v / 10000000000 % 10) → f ≡ digit_run (v / 1000000000 % 10) → g ≡ digit_run (v / 100000000 % 10) → h ≡ digit_run (v / 10000000 % 10) → i ≡ digit_run (v / 1000000 % 10) → j ≡ digit_run (v / 100000 % 10) → k ≡ digit_run (v / 10000 % 10) → l ≡ digit_run (v / 1000 % 10) → m ≡ digit_run (v / 100 % 10) → n ≡ digit_run (v / 10 % 10) → o ≡ digit_run (v / 1 % 10) → a ∷ b ∷ c ∷ d ∷ e ∷ f ∷ g ∷ h ∷ i ∷ j ∷ k ∷ l ∷ m ∷ n ∷ o ∷ [] ≡ imsi_run v
imsi_octets_are v a b c d e f g h i j k l m n o few ha hb hc hd he hf hg hh hi hj hk hl hm hn ho = rw (ha, hb, hc, hd, he, hf, hg, hh, hi, hj, hk, hl, hm, hn, ho) (sym (imsi_places v few))
