-- What the texts of columns stand for.
use Rattle.std.proofs.Common.{◌≡◌, ℕ, ◌/◌, ◌%◌, ◌<◌, ◌^◌, Bool, true, List, length, Option, IfSome, Result, Ok, Err, refl, sym, ◌∙◌, arith, rules, inl, inr}
use Rattle.std.specs.List.{list_all}
use Rattle.std.specs.Result.{result_ok}
use Rattle.std.specs.Char.{is_ascii_digit}
use Rattle.std.specs.Str.Parse.{digits_value, ParsesUnsigned}
use Rattle.std.proofs.lemmas.Str.Parse.{IsNumeralModel, numerals_by_value, parse_gives, digits_value_short}
use Rattle.std.proofs.lemmas.Bool.Decides.{nat_tests}
use Rattle.std.proofs.lemmas.Bool.{cases_eq}
use Rattle.hex.specs.Hex.{decode_of, decode_sized}
use Rattle.hex.specs.declared.error.FromHexError.{FromHexError}
use Rattle.hex.proofs.HexLemmas.{decode_of-ok, decode_sized-twice, decode_sized-other, decode_sized-odd}
use Rattle.subs_table.specs.Kinds.{is_within, passing, number_of, octets_of, octets_within}

pub own : IsNumeralModel (λ ds. list_all is_ascii_digit ds ≡ true) (digits_value 10)
own = numerals_by_value _ (search rules)

small : (text : List ℕ) → length text ≡ 15 → list_all is_ascii_digit text ≡ true → digits_value 10 text < 10 ^ 15
small text fifteen digits = digits_value_short own text 15 digits (omega arith)

parsed : {E : Type 0} (text : List ℕ) (r : Result ℕ E) → ParsesUnsigned 64 10 text r → length text ≡ 15 → list_all is_ascii_digit text ≡ true → r ≡ Ok (digits_value 10 text)
parsed text r h fifteen digits = parse_gives own 64 text r h digits (omega arith) (omega (arith, small text fifteen digits))

-- what parsing fifteen digits gives
pub number_parsed : {E : Type 0} (text : List ℕ) (r : Result ℕ E) (o : Option ℕ) → ParsesUnsigned 64 10 text r → o ≡ result_ok r → length text ≡ 15 → {b : Bool} → b ≡ list_all is_ascii_digit text → b ≡ true → o ≡ number_of 15 text
unfolding number_of
number_parsed text r o h is fifteen test passed =
    let digits : list_all is_ascii_digit text ≡ true = sym test ∙ passed in
    is ∙ rw (parsed text r h fifteen digits, fifteen, digits) refl

pub small_parsed : {E : Type 0} (text : List ℕ) (r : Result ℕ E) (o : Option ℕ) → ParsesUnsigned 64 10 text r → o ≡ result_ok r → length text ≡ 15 → {b : Bool} → b ≡ list_all is_ascii_digit text → b ≡ true → IfSome o (λ n. n < 10 ^ 15)
small_parsed text r o h is fifteen test passed =
    let digits : list_all is_ascii_digit text ≡ true = sym test ∙ passed in
    rw (is, parsed text r h fifteen digits) (small text fifteen digits)

-- the octets of a text, seen as what room for four of them holds
four_of : (text : List ℕ) (r : Result (List ℕ) FromHexError) → decode_of text ≡ r → passing (λ octets. is_within 4 4 (length octets)) (result_ok r) ≡ result_ok (decode_sized text 4)
four_of text (Ok octets) e =
    let ok = decode_of-ok text octets e in
    elim (cases_eq (length octets) 4) [
      | inl four ↦ let twice = decode_sized-twice text 4 (omega (arith, ok.2, four)) in rw (twice, e, four) refl
      | inr other ↦ let refused = decode_sized-other text 4 ok.0 (λ half. other (omega (arith, ok.0, ok.2, half))) in rw refused (grind (arith, nat_tests))
    ]
four_of text (Err error) e =
    elim (cases_eq (length text % 2) 1) [
      | inl odd ↦ rw (decode_sized-odd text 4 odd) refl
      | inr even ↦ elim (cases_eq (length text / 2) 4) [
        | inl half ↦ let twice = decode_sized-twice text 4 (omega arith) in rw (twice, e) refl
        | inr other ↦ rw (decode_sized-other text 4 (omega arith) other) refl
      ]
    ]

pub four_octets : (text : List ℕ) → octets_within 4 4 text ≡ result_ok (decode_sized text 4)
unfolding octets_of
four_octets text = four_of text (decode_of text) refl
