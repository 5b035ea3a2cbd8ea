-- Hexadecimal digits: texts that are none, or not so many as octets take; and the digit of a value.
use Rattle.std.proofs.Common.{◌≡◌, ℕ, zero, suc, ◌+◌, ◌-◌, ◌%◌, ◌<◌, ◌≤◌, ◌==◌, ◌&&◌, Bool, true, false, cond, ltb, List, length, slice_index, Result, Ok, Err, refl, sym, ◌∙◌, inl, inr, arith}
use Rattle.std.specs.List.{list_all}
use Rattle.std.proofs.lemmas.Bool.{and_parts, cases_lt, eqb-true, ltb-true, ltb-false, lt-ltb, le-ltb}
use Rattle.std.proofs.lemmas.List.{get_or_past}
use Rattle.std.proofs.lemmas.List.Sums.{list_all-from_AllPass}
use Rattle.std.proofs.lemmas.Str.{IsUtf8-from_ascii}
use Rattle.std.specs.Str.{IsAscii, IsUtf8}
use Rattle.hex.specs.Hex.{decode_of, encode_lower, is_hex_digit, lower_digits}
use Rattle.hex.specs.declared.error.FromHexError.{FromHexError}
use Rattle.hex.specs.declared.error.FromHexError.TheVariants.{OddLength}
use Rattle.hex.proofs.HexLemmas.{IsAscii-encode_with, decode_of-ok, decode_of-odd}

pub no_digits : (text : List ℕ) → list_all is_hex_digit text ≡ false → (e : FromHexError) × (decode_of text ≡ Err e)
no_digits text not = by (decode_of text) refl
  where
    by : (r : Result (List ℕ) FromHexError) → decode_of text ≡ r → (e : FromHexError) × (decode_of text ≡ Err e)
    by (Ok octets) e = let all = list_all-from_AllPass is_hex_digit text (decode_of-ok text octets e).1 in cc (sym all ∙ not)
    by (Err x) e = (x, e)

pub odd_digits : (text : List ℕ) → length text % 2 ≡ 1 → (e : FromHexError) × (decode_of text ≡ Err e)
odd_digits text odd = (OddLength, decode_of-odd text odd)

-- ---- the digit of a value

abbrev digit_of : ℕ → ℕ
digit_of n = cond (ltb n 10) (n + 48) (n - 10 + 97)

-- the test of each value below n, which computes
abbrev all_agree : ℕ → Bool
all_agree zero = true
all_agree (suc n) = (digit_of n == slice_index lower_digits n) && all_agree n

agrees : (n k : ℕ) → all_agree n ≡ true → k < n → digit_of k ≡ slice_index lower_digits k
agrees zero k h lt = absurd (omega arith)
agrees (suc n) k h lt =
    let parts = and_parts (digit_of n == slice_index lower_digits n) (all_agree n) h in
    elim (cases_lt k n) [
      | inl below ↦ agrees n k parts.1 below
      | inr top ↦
          let e : k ≡ n = omega arith in
          rw e (eqb-true (digit_of n) (slice_index lower_digits n) parts.0)
    ]

pub digit_below_ten : (n : ℕ) → n < 10 → n + 48 ≡ slice_index lower_digits n
digit_below_ten n lt = let d = agrees 16 n refl (omega arith) in rw (lt-ltb n 10 lt) at d

pub digit_from_ten : (n : ℕ) → 10 ≤ n → n < 16 → n - 10 + 97 ≡ slice_index lower_digits n
digit_from_ten n le lt = let d = agrees 16 n refl lt in rw (le-ltb n 10 le) at d

-- digits are text
lower_is_ascii : IsAscii lower_digits
lower_is_ascii i = by (ltb i 16) refl
  where
    digit : (b : Bool) → i < 16 → cond b (i + 48) (i - 10 + 97) < 128
    digit true lt = omega arith
    digit false lt = omega arith

    by : (b : Bool) → ltb i 16 ≡ b → slice_index lower_digits i < 128
    by true e = let lt = ltb-true i 16 e in rw (← agrees 16 i refl lt) (digit (ltb i 10) lt)
    by false e = let past : slice_index lower_digits i ≡ 0 = get_or_past lower_digits i 0 (ltb-false i 16 e) in rw past (omega arith)

pub digits_are_text : (octets : List ℕ) → IsUtf8 (encode_lower octets)
digits_are_text octets = IsUtf8-from_ascii (encode_lower octets) (IsAscii-encode_with lower_digits octets lower_is_ascii)
