-- The words of options: what they give, and the number that a value is.
use Rattle.std.proofs.Common.{◌≡◌, ℕ, ◌^◌, ◌<◌, ◌≤◌, Bool, true, false, leb, cond, List, length, Option, Some, None, Result, Err, refl, inl, inr, arith, rules}
use Rattle.std.specs.Prelude.{◌&&◌, codes, unwrap_or, option_and_then}
use Rattle.std.specs.List.{list_all}
use Rattle.std.specs.Char.{is_ascii_digit}
use Rattle.std.specs.Str.{IsUtf8}
use Rattle.std.specs.Str.Parse.{digits_value, ParsesUnsigned}
use Rattle.std.specs.Result.{OkIff}
use Rattle.std.proofs.lemmas.Bool.{cases_Bool, leb-true}
use Rattle.std.proofs.lemmas.Bool.Decides.{nat_tests}
use Rattle.std.proofs.lemmas.Result.{OkIff-at_err}
use Rattle.std.proofs.lemmas.Str.Parse.{IsNumeralModel, numerals_by_value, parse_digits}
use Rattle.std.proofs.lemmas.Str.{IsUtf8-from_ascii}
use Rattle.std.proofs.lemmas.Fmt.{IsAscii-from_digits}
use Rattle.command_words.specs.declared.command.Word.{Word}
use Rattle.command_words.specs.declared.command.Word.TheVariants.{Plain, Replay, Show, S11, S6a, Make, Epochs, Crash, Run, Load}
use Rattle.command_words.specs.declared.options.Name.TheVariants.{Devices, Rounds, Workers}
use Rattle.device_types.specs.Numbers.{IsWithin}
use Rattle.command_words.specs.Command.{are_of, command_by, has_few_visits, options_of, HasFewVisits, IsAnyInLimits}
use Rattle.command_words.specs.Options.{is_value, number_of, are_options, number_in, value_in}

-- ---- values

digits : IsNumeralModel (λ ds. list_all is_ascii_digit ds ≡ true) (digits_value 10)
digits = numerals_by_value _ (search rules)

value_parts : (text : List ℕ) → is_value text ≡ true → (0 < length text) × (list_all is_ascii_digit text ≡ true)
value_parts text e = (grind (arith, nat_tests), grind (arith, nat_tests))

parse_value : {E : Type 0} (text : List ℕ) (r : Result ℕ E) → ParsesUnsigned 32 10 text r → is_value text ≡ true → OkIff r ((0 < length text) × (digits_value 10 text < 2 ^ 32)) (digits_value 10 text)
parse_value text r h e = parse_digits digits 32 text r h (value_parts text e).1

-- digits are text
pub value_is_text : (text : List ℕ) → is_value text ≡ true → IsUtf8 text
value_is_text text e = IsUtf8-from_ascii text (IsAscii-from_digits text (digits.to text (value_parts text e).1))

-- what parse refuses is above the most
pub too_large : {E : Type 0} (least most : ℕ) (lent text : List ℕ) (r : Result ℕ E) (e : E) → most < 2 ^ 32 → is_value text ≡ true → lent ≡ text → ParsesUnsigned 32 10 lent r → r ≡ Err e → None ≡ number_of least most text
unfolding number_of
too_large least most lent text r e small value same h is =
    let p : ParsesUnsigned 32 10 text r = rw (← same) h in
    let large : leb (digits_value 10 text) most ≡ false = elim (cases_Bool (leb (digits_value 10 text) most)) [
      | inl t ↦ absurd (OkIff-at_err r ((0 < length text) × (digits_value 10 text < 2 ^ 32)) (digits_value 10 text) e (parse_value text r p value) is ((value_parts text value).0, omega (arith, leb-true _ _ t)))
      | inr f ↦ f
    ] in
    and_false (leb least (digits_value 10 text)) (digits_value 10 text) value large
  where
    and_false : (b : Bool) (n : ℕ) → is_value text ≡ true → leb (digits_value 10 text) most ≡ false → None ≡ cond (is_value text && b && leb (digits_value 10 text) most) (Some n) None
    and_false true n v f = rw (v, f) refl
    and_false false n v f = rw v refl

-- ---- limits

-- a number that a value gives is in the limits, and so is the one where none does
number_within : (least most other : ℕ) (value : Option (List ℕ)) → least ≤ other → other ≤ most → (least ≤ unwrap_or (option_and_then (number_of least most) value) other) × (unwrap_or (option_and_then (number_of least most) value) other ≤ most)
unfolding number_of
number_within least most other None l m = (l, m)
number_within least most other (Some text) l m = go (is_value text && leb least (digits_value 10 text) && leb (digits_value 10 text) most) refl
  where
    go : (b : Bool) → (is_value text && leb least (digits_value 10 text) && leb (digits_value 10 text) most) ≡ b → (least ≤ unwrap_or (cond b (Some (digits_value 10 text)) None) other) × (unwrap_or (cond b (Some (digits_value 10 text)) None) other ≤ most)
    go false e = (l, m)
    go true e = (grind (arith, nat_tests), grind (arith, nat_tests))

few_visits : (words : List (List ℕ)) (options : Bool) → (options && has_few_visits words) ≡ true → HasFewVisits (number_in words Devices) (number_in words Rounds)
unfolding number_in
few_visits words true e = ((number_within 1 800 1 (value_in (codes "devices") words) (omega arith) (omega arith)).0, leb-true _ _ e)
few_visits words false e = cc

workers_within : (words : List (List ℕ)) → IsWithin 16 (number_in words Workers)
unfolding number_in
workers_within words = number_within 1 16 4 (value_in (codes "workers") words) (omega arith) (omega arith)

pub in_limits : (word : Word) (words : List (List ℕ)) → are_of word words ≡ true → IsAnyInLimits (command_by word words)
unfolding are_of command_by number_in
in_limits Plain words e = tt
in_limits Replay words e = number_within 1 16 2 (value_in (codes "replicas") words) (omega arith) (omega arith)
in_limits Show words e = tt
in_limits S11 words e = tt
in_limits S6a words e = tt
in_limits Make words e = few_visits words (are_options (options_of Make) words) e
in_limits Epochs words e = (
  number_within 1 4096 1 (value_in (codes "device") words) (omega arith) (omega arith),
  (number_within 0 100000 100 (value_in (codes "events") words) (omega arith) (omega arith)).1,
)
in_limits Crash words e = tt
in_limits Run words e = workers_within words
in_limits Load words e = (few_visits words (are_options (options_of Load) words) e, workers_within words)
