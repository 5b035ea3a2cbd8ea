-- At each turn: the rows that are left, with the slots from their place on, have the same first lacking row as all rows, and each has a slot.
use Rattle.std.proofs.Common.{◌≡◌, ◌+◌, ◌≤◌, length, drop}
use Rattle.protocol_ies.specs.Slots.{lacking}
use Rattle.protocol_ies.proofs.slots.Slots.lacking.Given as goal

abbrev pub invariant-loop-left : goal.invariant-loop-left
invariant-loop-left g l = record {
  goes_on : lacking l.left (drop l.place l.fn.self) ≡ lacking l.fn.rows l.fn.self;
  room : l.place + length l.left ≤ 6;
}

abbrev pub decreases-loop-left : goal.decreases-loop-left
decreases-loop-left g l = length l.left
