use Rattle.std.proofs.Common.{◌≡◌, ◌≤◌, ◌++◌, length}
use Rattle.std.specs.Prelude.{All}
use Rattle.std.specs.Slice.Iter.{iter_rest}
use Rattle.std.specs.Iterator.Adapters.{zip_first, zip_second}
use Rattle.device_types.specs.Subscriber.{IsSubscriber}
use Rattle.device_machine.specs.Ends.{finals_of}
use Rattle.echo_run.proofs.ends.finals_of.Given as goal

-- what is there, and what is to come of the rows and lines that are left, is the whole
abbrev pub invariant-loop-row : goal.invariant-loop-row
invariant-loop-row l = record {
  whole : l.finals ++ finals_of (iter_rest (zip_first l.row-iterator)) (iter_rest (zip_second l.row-iterator)) ≡ finals_of l.table l.book;
  rows : All IsSubscriber (iter_rest (zip_first l.row-iterator));
  few : All (λ messages. length messages ≤ 100000) (iter_rest (zip_second l.row-iterator));
}
