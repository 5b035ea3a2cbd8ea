-- Numbers in decimal.
use Rattle.std.proofs.Common.{◌≡◌, ℕ, ◌+◌, ◌-◌, ◌*◌, ◌<◌, ◌≤◌, Bool, true, false, eqb, leb, ◌&&◌, List, [], ◌∷◌, length, drop, get_or, Some, None, refl, sym, ap, ◌∙◌, arith, rules}
use Rattle.std.specs.Prelude.{if◌then◌else◌}
use Rattle.std.specs.List.{list_all}
use Rattle.std.specs.Char.{digit_value, is_ascii_digit}
use Rattle.std.specs.Int.{IsInRange}
use Rattle.std.specs.Str.{IsUtf8}
use Rattle.std.specs.Str.Parse.{digits_value, digits_value_after}
use Rattle.std.proofs.lemmas.Bool.Decides.{nat_tests}
use Rattle.std.proofs.lemmas.List.{drop_more}
use Rattle.std.proofs.lemmas.List.Sums.{AllPass-from_list_all}
use Rattle.std.proofs.lemmas.Str.Parse.{IsNumeralModel, numerals_by_value}
use Rattle.std.proofs.lemmas.Str.{IsUtf8-from_ascii, digit_value_digit}
use Rattle.std.proofs.lemmas.Fmt.{IsAscii-from_digits}
use Rattle.subs_table.specs.Kinds as kinds
use Rattle.case_form.specs.Number.{is_numeral, number_of}

pub digits : IsNumeralModel (λ ds. list_all is_ascii_digit ds ≡ true) (digits_value 10)
digits = numerals_by_value _ (search rules)

-- both parts of a numeral
pub numeral_parts : (word : List ℕ) → is_numeral word ≡ true → (0 < length word) × (list_all is_ascii_digit word ≡ true)
numeral_parts word e = (grind (arith, nat_tests), grind (arith, nat_tests))

-- digits are text
pub digits_are_text : (word : List ℕ) → list_all is_ascii_digit word ≡ true → IsUtf8 word
digits_are_text word all = IsUtf8-from_ascii word (IsAscii-from_digits word (digits.to word all))

unless_both : {A : Type 0} (a b : Bool) (x : A) → b ≡ false → (if a && b then Some x else None) ≡ None
unless_both true b x none = rw none refl
unless_both false b x none = refl

-- a word that has another octet than digits is no number of so many digits
pub no_digits : (count : ℕ) (word : List ℕ) → list_all is_ascii_digit word ≡ false → kinds.number_of count word ≡ None
unfolding kinds.number_of
no_digits count word none = unless_both (eqb (length word) count) (list_all is_ascii_digit word) (digits_value 10 word) none

-- a number to which digits are put does not fall
grows : (n : ℕ) (ds : List ℕ) → n ≤ digits_value_after 10 n ds
grows n [] = omega arith
grows n (c ∷ cs) = omega (arith, grows (n * 10 + digit_value c) cs)

-- each octet of a numeral is a digit
pub digit_at : (ds : List ℕ) (i : ℕ) → i < length ds → list_all is_ascii_digit ds ≡ true → IsInRange 48 57 (get_or ds i 0)
digit_at ds i within all =
    let test : is_ascii_digit (get_or ds i 0) ≡ true = AllPass-from_list_all is_ascii_digit ds all i 0 within in
    grind (arith, nat_tests)

-- one digit more
pub digit_more : (ds : List ℕ) (i n : ℕ) → i < length ds → list_all is_ascii_digit ds ≡ true → digits_value_after 10 (10 * n + (get_or ds i 0 - 48)) (drop (i + 1) ds) ≡ digits_value_after 10 n (drop i ds)
digit_more ds i n within all =
    let rest = drop (i + 1) ds in
    ap (λ m. digits_value_after 10 m rest) (omega (arith, digit_value_digit (get_or ds i 0) (digit_at ds i within all))) ∙ sym (ap (digits_value_after 10 n) (drop_more ds i 0 within))

-- a front of the digits that is above the most
pub too_large : (most n : ℕ) (word rest : List ℕ) → is_numeral word ≡ true → digits_value_after 10 n rest ≡ digits_value 10 word → most < n → None ≡ number_of most word
unfolding number_of
too_large most n word rest numeral same above =
    let large : leb (digits_value 10 word) most ≡ false = grind (arith, nat_tests, grows n rest, same, above) in
    rw (numeral, large) refl
