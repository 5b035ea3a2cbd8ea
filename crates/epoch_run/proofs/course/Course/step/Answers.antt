use Rattle.std.proofs.Common.{◌+◌}
use Rattle.epoch_run.proofs.CourseLaws.{drawn_lawful}
use Rattle.epoch_run.proofs.course.Course.step.Goals as goal

pub take-requires-clause-event : goal.take-requires-clause-event
take-requires-clause-event c =
    let old = c.args.self.now in
    drawn_lawful old.world.streams c.streams.result.now old.arrivals.items c.deref.result.now (c.event_count-number.result + 1) _ c.draw_event-event.result c.streams.ensures c.deref.ensures.value c.draw_event-event.ensures.event c.requires.streams c.requires.arrivals
