use Rattle.std.proofs.Common.{◌≡◌, length}
use Rattle.device_types.specs.Alone.{alone_to}
use Rattle.device_machine.specs.Course.{course_of}
use Rattle.device_machine.specs.Ends.{lanes_of}
use Rattle.device_machine.proofs.ends.end_of.Given as goal

-- an entry was made in each turn
abbrev pub invariant-loop-v : goal.invariant-loop-v
invariant-loop-v l = record {
  course : l.course ≡ course_of (alone_to l.row l.messages l.v);
  lanes : l.lanes ≡ lanes_of (alone_to l.row l.messages l.v);
  count : length (alone_to l.row l.messages l.v) ≡ l.v;
}
