use Rattle.std.proofs.Common.{◌≡◌, length, take, ◌-◌, ◌≤◌}
use Rattle.echo_base.specs.Outside.{IsPut}
use Rattle.echo_base.proofs.whole.write_all.Given as goal

-- the octets before `done` are put, and no fault was counted
abbrev pub invariant-loop-done : goal.invariant-loop-done
invariant-loop-done g l = record {
  within : l.done ≤ length l.bytes;
  put : IsPut (g.K.Sink.held l.fn.out) (take l.done l.bytes) (g.K.Sink.held l.out);
  untouched : l.done ≡ 0 → l.out ≡ l.fn.out;
  quiet : g.K.Sink.faults l.out ≡ g.K.Sink.faults l.fn.out;
}

abbrev pub decreases-loop-done : goal.decreases-loop-done
decreases-loop-done g l = length l.bytes - l.done
