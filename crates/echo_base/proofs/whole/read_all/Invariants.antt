use Rattle.std.proofs.Common.{◌≡◌, vec_len, ◌-◌, ◌≤◌}
use Rattle.echo_base.specs.Outside.{IsTaken}
use Rattle.echo_base.proofs.whole.read_all.Given as goal

-- what was taken is stored, and no fault was counted
abbrev pub invariant-pieces : goal.invariant-pieces
invariant-pieces g l = record {
  within : vec_len l.bytes ≤ l.limit;
  taken : IsTaken (g.S.Source.left l.fn.source) l.bytes.items (g.S.Source.left l.source);
  quiet : g.S.Source.faults l.source ≡ g.S.Source.faults l.fn.source;
}

abbrev pub decreases-pieces : goal.decreases-pieces
decreases-pieces g l = l.limit - vec_len l.bytes
