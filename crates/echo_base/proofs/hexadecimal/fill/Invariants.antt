use Rattle.std.proofs.Common.{◌≡◌, ◌*◌, take, drop}
use Rattle.hex.specs.Hex.{decode_pairs}
use Rattle.hex.proofs.Pairs.{prepend}
use Rattle.echo_base.proofs.hexadecimal.fill.Given as goal

-- what is filled is what the digits before it stand for
abbrev pub invariant-loop-i : goal.invariant-loop-i
invariant-loop-i l = decode_pairs 0 l.text ≡ prepend (take l.i l.octets) (decode_pairs (2 * l.i) (drop (2 * l.i) l.text))
