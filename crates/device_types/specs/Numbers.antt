-- Limits of numbers.
use Rattle.std.specs.Prelude.{ℕ, ◌≤◌}

-- from 1 to the most
abbrev pub IsWithin : ℕ → ℕ → Type 0
IsWithin most n = (1 ≤ n) × (n ≤ most)

-- an aggregate maximum bit rate (TS 36.413, 9.2.1.20), in bit/s
abbrev pub IsBitRate : ℕ → Type 0
IsBitRate rate = rate ≤ 10000000000
