use Rattle.std.proofs.Common.{◌≡◌, ◌*◌, None, length, subst, refl, rules, arith, ◌∙◌}
use Rattle.device_machine.specs.Course.{GoesOn}
use Rattle.device_machine.proofs.Courses.{all_made, all_late}
use Rattle.device_machine.proofs.Gathered.{goes_on_kept, end_is}
use Rattle.device_machine.proofs.ends.end_of.Goals as goal

pub returns-in_default : goal.returns-in_default
returns-in_default c =
    let row = c.args.row.now in
    let ms = c.args.messages.now in
    let l = c.loop-v in
    let none : c.in_ok-effects.field-0 ≡ None = first_of (cc, search rules) in
    let stopped = subst (GoesOn row ms l.v c.advance.new.course) none c.in_ok-effects.ensures in
    c.ended.ensures ∙ end_is row ms l.v l.v c.advance.new.course l.lanes stopped.0 l.invariant.lanes l.invariant.count refl (all_made row ms l.v (omega arith) stopped.1)

pub loop-v-preserved : goal.loop-v-preserved
loop-v-preserved c =
    let row = c.args.row.now in
    let ms = c.args.messages.now in
    let l = c.loop-v in
    let went = subst (GoesOn row ms l.v c.advance.new.course) c.in-Some.is c.in_ok-effects.ensures in
    let kept = goes_on_kept row ms l.v c.advance.new.course l.lanes c.put_all.new.self c.in-Some.effects l.invariant.lanes l.invariant.count went c.in_ok-put_all.ensures in
    record { course = went.0; lanes = kept.0; count = kept.1 }

pub returns : goal.returns
returns c =
    let row = c.args.row.now in
    let ms = c.args.messages.now in
    let l = c.loop-v in
    c.ended-2.ensures ∙ end_is row ms l.v (3 * length ms) l.course l.lanes l.invariant.course l.invariant.lanes l.invariant.count (omega arith) (all_late row ms l.v (omega arith))
