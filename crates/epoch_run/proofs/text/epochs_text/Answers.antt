use Rattle.std.proofs.Common.{◌≤◌, length, sym, subst, rules}
use Rattle.epoch_run.specs.State.{AreDrawable}
use Rattle.epoch_run.proofs.StreamLaws.{drawable}
use Rattle.epoch_run.proofs.text.epochs_text.Goals as goal

pub new-course-requires : goal.new-course-requires
new-course-requires c =
    let some : 1 ≤ length c.in_ok-streams.streams.items = search rules in
    drawable c.args.messages.now c.in_ok-streams.streams.items c.requires.messages c.in_ok-streams.ensures some

pub course_text-requires-clause-streams : goal.course_text-requires-clause-streams
course_text-requires-clause-streams c =
    let some : 1 ≤ length c.in_ok-streams.streams.items = search rules in
    subst AreDrawable (sym c.new-course.ensures.of_streams) (drawable c.args.messages.now c.in_ok-streams.streams.items c.requires.messages c.in_ok-streams.ensures some)
