-- A count of messages fits 128 bits.
use Rattle.std.proofs.Common.{ℕ, ◌+◌, ◌*◌, ◌^◌, ◌<◌, ◌≤◌, arith}
use Rattle.std.proofs.Math.Nat.{mul-le-mul_left}

pub count_fits : (turns messages : ℕ) → turns < 2 ^ 32 → messages < 2 ^ 64 → turns * messages + messages < 2 ^ 128
count_fits turns messages few small =
    let most : turns ≤ 2 ^ 32 = omega arith in
    omega (arith, mul-le-mul_left messages most)
