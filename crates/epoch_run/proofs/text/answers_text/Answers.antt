use Rattle.epoch_run.proofs.CourseLaws.{stepped}
use Rattle.epoch_run.proofs.text.answers_text.Goals as goal

pub loop-event-preserved : goal.loop-event-preserved
loop-event-preserved c =
    let first = c.args.course.now in
    let before = c.loop-event in
    let later = c.put_event.new in
    let more = stepped first.world.streams first.draws.state before._event before.course.world later.course.world before.course.draws.state later.course.draws.state before.course.arrivals.items later.course.arrivals.items before.text later.text c.requires.streams before.invariant.course before.invariant.text c.in_ok-put_event.ensures in
    record { course = more.0; text = more.1 }
