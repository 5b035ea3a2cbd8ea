-- Numbers and their octets.
use Rattle.std.proofs.Common.{◌≡◌, ℕ, zero, suc, ◌+◌, ◌-◌, ◌*◌, ◌/◌, ◌%◌, ◌^◌, ◌<◌, ◌≤◌, List, [], ◌∷◌, length, take, drop, slice_index, lit<, refl, sym, ap, ◌∙◌, arith}
use Rattle.std.proofs.Math.Nat.{div-eq_of_lt, div-one, mod-eq_of_lt, mul_assoc, mul-add-div_right, mul-add-mod_self_right, one-le-pow, pow-succ'}
use Rattle.std.proofs.lemmas.Nat.{pow-add}
use Rattle.std.proofs.lemmas.List.{take_all}
use Rattle.std.proofs.lemmas.List.Elements.{All-head, All-tail}
use Rattle.std.specs.Int.{byte_at}
use Rattle.byteorder.specs.Endian.{big_number, big_bytes}
use Rattle.byteorder.specs.Numbers.{length-bytes_high_first, big_from-cons, big_from-lt}
use Rattle.device_types.specs.Octets.{AreOctets}

last_octets : (k n v : ℕ) → drop k (big_bytes (k + n) v) ≡ big_bytes n v
last_octets zero n v = (let none : 0 + n ≡ n = omega arith in ap (λ (m : ℕ). big_bytes m v) none)
last_octets (suc k) n v = (let next : suc k + n ≡ suc (k + n) = omega arith in rw next (last_octets k n v))

-- the last octets of eight
pub lowest : (n v : ℕ) → n ≤ 8 → take (8 - (8 - n)) (drop (8 - n) (big_bytes 8 v)) ≡ big_bytes n v
lowest n v few =
    let sum : 8 - n + n ≡ 8 = omega (arith, few) in
    let all : drop (8 - n) (big_bytes (8 - n + n) v) ≡ big_bytes n v = last_octets (8 - n) n v in
    let here : drop (8 - n) (big_bytes 8 v) ≡ big_bytes n v = rw sum at all in
    rw here (take_all (8 - (8 - n)) (big_bytes n v) (omega (arith, few, length-bytes_high_first n v)))

-- an octet by its place
octet_at_place : (k x : ℕ) → byte_at k x ≡ x / 256 ^ k % 256
octet_at_place zero x = ap (λ (y : ℕ). y % 256) (sym (div-one x))
octet_at_place (suc k) x = refl

-- what stands above an octet does not change it
octet_below : (k j q r : ℕ) → byte_at k (q * 256 ^ (j + suc k) + r) ≡ byte_at k r
octet_below k j q r =
    let power : q * 256 ^ (j + suc k) ≡ (q * 256 ^ j * 256) * 256 ^ k =
    ap (λ (p : ℕ). q * p) (pow-add 256 j (suc k) ∙ ap (λ (p : ℕ). 256 ^ j * p) (pow-succ' 256 k) ∙ sym (mul_assoc (256 ^ j) 256 (256 ^ k)))
    ∙ sym (mul_assoc q (256 ^ j * 256) (256 ^ k)) ∙ ap (λ (p : ℕ). p * 256 ^ k) (sym (mul_assoc q (256 ^ j) 256)) in
    let positive : 0 < 256 ^ k = (let h = one-le-pow k 256 (omega arith) in omega (arith, h)) in
    let divided : ((q * 256 ^ j * 256) * 256 ^ k + r) / 256 ^ k ≡ q * 256 ^ j * 256 + r / 256 ^ k = mul-add-div_right positive (q * 256 ^ j * 256) r in
    octet_at_place k _ ∙ ap (λ (p : ℕ). (p + r) / 256 ^ k % 256) power ∙ ap (λ (p : ℕ). p % 256) divided
    ∙ mul-add-mod_self_right (q * 256 ^ j) 256 (r / 256 ^ k) ∙ sym (octet_at_place k r)

octets_below : (n j q r : ℕ) → big_bytes n (q * 256 ^ (j + n) + r) ≡ big_bytes n r
octets_below zero j q r = refl
octets_below (suc n) j q r =
    let moved : j + 1 + n ≡ j + suc n = omega arith in
    let rest : big_bytes n (q * 256 ^ (j + 1 + n) + r) ≡ big_bytes n r = octets_below n (j + 1) q r in
    let rest_here : big_bytes n (q * 256 ^ (j + suc n) + r) ≡ big_bytes n r = rw moved at rest in
    rw (octet_below n j q r, rest_here) refl

each_octet : (os : List ℕ) → AreOctets os → (k : ℕ) → slice_index os k < 256
each_octet [] are k = lit< tt
each_octet (x ∷ os) are zero = All-head (λ octet. octet < 256) x os are
each_octet (x ∷ os) are (suc k) = each_octet os (All-tail (λ octet. octet < 256) x os are) k

-- the octets of the number that octets are
pub octets_back : (os : List ℕ) → AreOctets os → big_bytes (length os) (big_number (length os) os) ≡ os
octets_back [] are = refl
octets_back (x ∷ os) are =
    let n = length os in
    let more : AreOctets os = All-tail (λ octet. octet < 256) x os are in
    let first : x < 256 = All-head (λ octet. octet < 256) x os are in
    let r = big_number n os in
    let below : r < 256 ^ n = big_from-lt 0 n os (each_octet os more) in
    let number : big_number (suc n) (x ∷ os) ≡ x * 256 ^ n + r = ap (λ (s : ℕ). x * 256 ^ n + s) (big_from-cons 0 n x os) in
    let positive : 0 < 256 ^ n = (let h = one-le-pow n 256 (omega arith) in omega (arith, h)) in
    let none : x + 0 ≡ x = omega arith in
    let top : byte_at n (x * 256 ^ n + r) ≡ x =
    octet_at_place n _ ∙ ap (λ (p : ℕ). p % 256) (mul-add-div_right positive x r ∙ ap (λ (p : ℕ). x + p) (div-eq_of_lt below) ∙ none) ∙ mod-eq_of_lt first in
    let same : 0 + n ≡ n = omega arith in
    let rest : big_bytes n (x * 256 ^ n + r) ≡ os = rw same at (octets_below n 0 x r) ∙ octets_back os more in
    ap (big_bytes (suc n)) number ∙ rw (top, rest) refl
