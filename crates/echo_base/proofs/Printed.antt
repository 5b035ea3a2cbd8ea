-- Numbers as they are printed.
use Rattle.std.proofs.Common.{◌≡◌, ℕ, ◌-◌, ◌^◌, ◌<◌, ◌≤◌, false, [], ◌++◌, length, replicate, ap, ◌∙◌, arith}
use Rattle.std.proofs.lemmas.List.{append-nil, get_or_past}
use Rattle.std.proofs.lemmas.Fmt.{hex_byte}
use Rattle.std.specs.Fmt.{decimal, digits, padded_integral, format_spec, char_count}
use Rattle.std.proofs.lemmas.Bool.{lt-ltb, le-ltb}
use Rattle.echo_base.specs.Reason.{names, gtp_names, dia_names, name_of_number, zero_filled, hex_octet}

-- what `{:015}` writes
pub zeros_in_front : (n : ℕ) → padded_integral (format_spec 32 0 4 15 (2 ^ 64 - 1)) false [] (decimal n) ≡ zero_filled 15 n
unfolding padded_integral char_count
zeros_in_front n = ap (λ front. front ++ (decimal n ++ [])) (ap (λ width. replicate width 48) (omega arith)) ∙ ap (λ digits. replicate (15 - length (decimal n)) 48 ++ digits) (append-nil (decimal n))

-- what `{:02x}` writes
pub two_digits : (n : ℕ) → n < 256 → padded_integral (format_spec 32 0 4 2 (2 ^ 64 - 1)) false [] (digits 16 false n) ≡ hex_octet n
two_digits n small = hex_byte false n small

-- no reason has one of these numbers
pub unnamed : (n : ℕ) → (33 ≤ n) × (n < 40) → name_of_number n ≡ []
unnamed n past = rw (lt-ltb n 40 past.1) (get_or_past names n [] past.0)

pub unnamed_gtp : (n : ℕ) → (43 ≤ n) × (n < 50) → name_of_number n ≡ []
unnamed_gtp n past = rw (le-ltb n 40 (omega arith), lt-ltb n 50 past.1) (get_or_past gtp_names (n - 40) [] (omega arith))

pub unnamed_dia : (n : ℕ) → 55 ≤ n → name_of_number n ≡ []
unnamed_dia n past = rw (le-ltb n 40 (omega arith), le-ltb n 50 (omega arith)) (get_or_past dia_names (n - 50) [] (omega arith))
