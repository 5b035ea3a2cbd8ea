use Rattle.std.proofs.Common.{◌≡◌, false, rules, arith}
use Rattle.crash_run.proofs.Courses.{ends_early, ends_late}
use Rattle.crash_run.proofs.course.entries_of.Goals as goal

pub returns-then-not-branch : goal.returns-then-not-branch
returns-then-not-branch c =
    let stopped : c.in_ok-advance.field-0 ≡ false = search rules in
    let end = c.in_ok-advance.ensures.end stopped in
    ends_early c.args.row.now c.args.messages.now c.loop-v.v c.advance.new.self end.0 (omega arith) end.1

pub returns : goal.returns
returns c = ends_late c.args.row.now c.args.messages.now c.loop-v.v c.loop-v.course c.loop-v.invariant (omega arith)
