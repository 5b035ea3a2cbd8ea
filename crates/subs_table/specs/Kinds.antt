-- What a column of the subscriber table may hold: the kinds of JSON values (RFC 8259), and the value that each stands for.
use Rattle.std.specs.Prelude.{ℕ, ◌==◌, ◌&&◌, nat_le, Bool, List, [], ◌∷◌, length, Option, Some, None, option_and_then, option_map, if◌then◌else◌}
use Rattle.std.specs.Result.{result_ok}
use Rattle.std.specs.List.{list_all}
use Rattle.std.specs.Char.{is_ascii_digit}
use Rattle.std.specs.Str.Parse.{digits_value}
use Rattle.std.specs.Int.{w32, from_be_bytes}
use Rattle.hex.specs.Hex.{decode_of}
use Rattle.device_types.specs.Subscriber.{is_letter_or_digit}
use Rattle.serde_json.specs.Data.{Data, Items, no_items, item}
use Rattle.serde_json.specs.Find.{as_str, as_number, as_u64, as_array}

-- what a JSON value stands for, where it is of the kind
abbrev pub Kind : Type 0 → Type 0
Kind A = Data → Option A

-- from low to high
abbrev pub is_within : ℕ → ℕ → ℕ → Bool
is_within low high n = nat_le low n && nat_le n high

-- the value, where it passes the test
abbrev pub passing : {A : Type 0} → (A → Bool) → Option A → Option A
passing test None = None
passing test (Some x) = if test x then Some x else None

-- a whole number from low to high; which numbers are whole is serde_json's word: those without point and exponent, from 0 to 2^64 - 1
unfoldable pub whole : ℕ → ℕ → Kind ℕ
whole low high d = passing (is_within low high) (option_and_then as_u64 (as_number d))

-- the number of a text of so many decimal digits
unfoldable pub number_of : ℕ → List ℕ → Option ℕ
number_of count text = if length text == count && list_all is_ascii_digit text then Some (digits_value 10 text) else None

-- a text of so many decimal digits, for the number
unfoldable pub decimal : ℕ → Kind ℕ
decimal count d = option_and_then (number_of count) (as_str d)

-- the octets of a text of hexadecimal digits, two an octet, in either case
unfoldable pub octets_of : List ℕ → Option (List ℕ)
octets_of text = result_ok (decode_of text)

-- those octets, where there are low to high of them
abbrev pub octets_within : ℕ → ℕ → List ℕ → Option (List ℕ)
octets_within low high text = passing (λ octets. is_within low high (length octets)) (octets_of text)

-- a text of hexadecimal digits, for low to high octets
unfoldable pub hexadecimal : ℕ → ℕ → Kind (List ℕ)
hexadecimal low high d = option_and_then (octets_within low high) (as_str d)

-- a text of eight hexadecimal digits, for the IPv4 address of those four octets, the first of them highest
unfoldable pub address : Kind ℕ
address d = option_map (from_be_bytes w32) (hexadecimal 4 4 d)

-- a text of low to high lower-case letters and digits
unfoldable pub name : ℕ → ℕ → Kind (List ℕ)
name low high d = passing (λ text. is_within low high (length text) && list_all is_letter_or_digit text) (as_str d)

-- each value as a whole number from 0 to high
unfoldable pub wholes_of : ℕ → Items → Option (List ℕ)
wholes_of high no_items = Some []
wholes_of high (item d ds) = option_and_then (λ n. option_map (λ ns. n ∷ ns) (wholes_of high ds)) (whole 0 high d)

-- a list of at most so many whole numbers from 0 to high
unfoldable pub wholes : ℕ → ℕ → Kind (List ℕ)
wholes most high d = passing (λ ns. nat_le (length ns) most) (option_and_then (wholes_of high) (as_array d))
