use Rattle.std.proofs.Common.{◌≡◌, ◌≤◌, [], length, drop}
use Rattle.epoch_run.specs.State.{AreCounts}
use Rattle.epoch_run.specs.Streams.{streams_behind}
use Rattle.epoch_run.proofs.streams.streams_of.Given as goal

abbrev pub invariant-loop-index : goal.invariant-loop-index
invariant-loop-index l = record {
  streams : streams_behind l.streams.items (drop l.index l.messages) ≡ streams_behind [] l.messages;
  counts : AreCounts l.streams.items l.counts;
  few : length l.streams.items ≤ l.index;
}
