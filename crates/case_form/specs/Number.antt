-- Numbers in decimal.
use Rattle.std.specs.Prelude.{ℕ, ◌==◌, nat_le, Bool, not, ◌&&◌, ◌||◌, List, length, slice_index, Option, Some, None, if◌then◌else◌}
use Rattle.std.specs.List.{list_all}
use Rattle.std.specs.Char.{is_ascii_digit}
use Rattle.std.specs.Str.Parse.{digits_value}

-- one decimal digit or more, the first of which is not 0
abbrev pub is_numeral : List ℕ → Bool
is_numeral word = not (length word == 0 || slice_index word 0 == 48) && list_all is_ascii_digit word

-- the number from 1 to the most that a word is in decimal, with no sign and no leading zero
unfoldable pub number_of : ℕ → List ℕ → Option ℕ
number_of most word = if is_numeral word && nat_le (digits_value 10 word) most then Some (digits_value 10 word) else None
