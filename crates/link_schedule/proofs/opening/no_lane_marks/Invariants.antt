use Rattle.std.proofs.Common.{◌≡◌, [], replicate}
use Rattle.link_schedule.proofs.opening.no_lane_marks.Given as goal

abbrev pub invariant-loop : goal.invariant-loop
invariant-loop l = l.marks.items ≡ replicate l.counter (record { down = []; gateway = []; subscriber = [] })
