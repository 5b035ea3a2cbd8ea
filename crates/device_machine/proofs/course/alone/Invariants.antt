use Rattle.std.proofs.Common.{◌≡◌, map}
use Rattle.device_types.specs.Alone.{alone_to}
use Rattle.device_machine.specs.Course.{course_of}
use Rattle.device_machine.proofs.course.alone.Given as goal

abbrev pub invariant-loop-v : goal.invariant-loop-v
invariant-loop-v l = record {
  course : l.course ≡ course_of (alone_to l.row l.messages l.v);
  steps : l.steps.items ≡ map (λ e. e.step) (alone_to l.row l.messages l.v);
}
