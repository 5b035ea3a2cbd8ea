-- The header of a message as it is written (RFC 6733, 3).
use Rattle.std.specs.Prelude.{ℕ, ◌+◌, List, ◌∷◌, ◌++◌}
use Rattle.echo_base.specs.Field.{number_run}

-- version 1, the length of all, the flags, the command, and the application S6a (TS 29.272, 7.1.8)
abbrev pub front_run : ℕ → ℕ → ℕ → List ℕ
front_run flags command count = 1 ∷ (number_run 3 (20 + count) ++ (flags ∷ (number_run 3 command ++ number_run 4 0x01000023)))

-- and behind them Hop-by-Hop and End-to-End Identifier
abbrev pub header_run : ℕ → ℕ → ℕ → ℕ → ℕ → List ℕ
header_run flags command hop end count = front_run flags command count ++ (number_run 4 hop ++ number_run 4 end)
