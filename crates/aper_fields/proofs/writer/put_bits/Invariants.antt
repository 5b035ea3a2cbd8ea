-- At each turn: the octets hold what they held at first, the highest bits of the number, and zeros that are still free, as many fewer as bits were put.
use Rattle.std.proofs.Common.{◌≡◌, ◌+◌, ◌-◌, ◌/◌, ◌^◌, ◌≤◌, ◌++◌}
use Rattle.aper_fields.specs.Bits.{bits}
use Rattle.aper_fields.specs.Buffer.{FreeBehind, before_free}
use Rattle.aper_fields.proofs.writer.put_bits.Given as goal

abbrev pub invariant-loop-left : goal.invariant-loop-left
invariant-loop-left l = record {
  within : l.left ≤ l.count;
  free : l.free + l.count ≡ l.fn.free + l.left;
  full : FreeBehind (before_free l.fn.octets l.fn.free ++ bits (l.count - l.left) (l.value / 2 ^ l.left)) l.octets l.free;
}

abbrev pub decreases-loop-left : goal.decreases-loop-left
decreases-loop-left l = l.left
