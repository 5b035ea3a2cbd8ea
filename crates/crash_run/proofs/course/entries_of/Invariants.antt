use Rattle.crash_run.specs.Course.{IsCourse}
use Rattle.crash_run.proofs.course.entries_of.Given as goal

abbrev pub invariant-loop-v : goal.invariant-loop-v
invariant-loop-v l = IsCourse l.row l.messages l.v l.course
