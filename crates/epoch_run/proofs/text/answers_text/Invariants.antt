use Rattle.std.proofs.Common.{◌≡◌}
use Rattle.epoch_run.specs.Drawn.{course_of}
use Rattle.epoch_run.specs.State.{IsCourse}
use Rattle.epoch_run.specs.Text.{answers_text}
use Rattle.epoch_run.proofs.text.answers_text.Given as goal

abbrev pub invariant-loop-event : goal.invariant-loop-event
invariant-loop-event l = record {
  course : IsCourse l.initial.course.world.streams l.initial.course.draws.state l._event l.course.world l.course.draws.state l.course.arrivals.items;
  text : l.text ≡ answers_text (course_of l.initial.course.world.streams l.initial.course.draws.state l._event).turns;
}
