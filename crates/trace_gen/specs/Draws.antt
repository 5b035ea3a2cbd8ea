-- Draws: a linear congruential generator of 64 bits, of whose states the upper 31 bits are used.
use Rattle.std.specs.Prelude.{ℕ, zero, suc, ◌+◌, ◌*◌, ◌/◌, ◌%◌, ◌^◌}

-- the state behind a state
unfoldable pub next_state : ℕ → ℕ
next_state x = (x * 6364136223846793005 + 1442695040888963407) % 2 ^ 64

-- the number below m that a state gives
abbrev pub value : ℕ → ℕ → ℕ
value m x = x / 2 ^ 33 % m

-- the state after so many draws from a first one
abbrev pub state_after : ℕ → ℕ → ℕ
state_after first zero = first
state_after first (suc n) = next_state (state_after first n)

-- draw n below m, the first with n = 0
abbrev pub drawn : ℕ → ℕ → ℕ → ℕ
drawn first m n = value m (next_state (state_after first n))
