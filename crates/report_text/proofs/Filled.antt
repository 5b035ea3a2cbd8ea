-- Hexadecimal numbers with zeros in front.
use Rattle.std.proofs.Common.{◌≡◌, ℕ, ◌-◌, ◌^◌, false, [], ◌++◌, length, replicate, ap, ◌∙◌, arith}
use Rattle.std.proofs.lemmas.List.{append-nil}
use Rattle.std.specs.Fmt.{digits, padded_integral, format_spec, char_count}
use Rattle.report_text.specs.Lines.{hex_filled}

-- what `{:06x}` writes
pub six_digits : (n : ℕ) → padded_integral (format_spec 32 0 4 6 (2 ^ 64 - 1)) false [] (digits 16 false n) ≡ hex_filled 6 n
unfolding padded_integral char_count
six_digits n = ap (λ front. front ++ (digits 16 false n ++ [])) (ap (λ width. replicate width 48) (omega arith)) ∙ ap (λ front. replicate (6 - length (digits 16 false n)) 48 ++ front) (append-nil (digits 16 false n))

-- what `{:08x}` writes
pub eight_digits : (n : ℕ) → padded_integral (format_spec 32 0 4 8 (2 ^ 64 - 1)) false [] (digits 16 false n) ≡ hex_filled 8 n
unfolding padded_integral char_count
eight_digits n = ap (λ front. front ++ (digits 16 false n ++ [])) (ap (λ width. replicate width 48) (omega arith)) ∙ ap (λ front. replicate (8 - length (digits 16 false n)) 48 ++ front) (append-nil (digits 16 false n))
