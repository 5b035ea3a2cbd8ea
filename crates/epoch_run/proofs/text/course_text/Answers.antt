use Rattle.std.proofs.Common.{arith}
use Rattle.epoch_run.proofs.CourseLaws.{within_world, few_in_world}
use Rattle.epoch_run.proofs.text.course_text.Goals as goal

pub merged_text-requires-clause-within : goal.merged_text-requires-clause-within
merged_text-requires-clause-within c =
    let first = c.args.course.now in
    let later = c.answers_text.new.course in
    within_world first.world.streams c.streams-streams.result.now first.draws.state c.args.events later.draws.state later.world later.arrivals.items c.merge-merged.result.now c.requires.streams c.in_ok-text.ensures.course c.streams-streams.ensures c.merge-merged.ensures.value

pub merged_text-requires-clause-few : goal.merged_text-requires-clause-few
merged_text-requires-clause-few c =
    let first = c.args.course.now in
    let later = c.answers_text.new.course in
    let most = few_in_world first.world.streams first.draws.state c.args.events later.draws.state later.world later.arrivals.items c.merge-merged.result.now c.in_ok-text.ensures.course c.merge-merged.ensures.value in
    omega (arith, most, c.requires.events)
