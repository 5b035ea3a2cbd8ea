use Rattle.std.proofs.Common.{◌≡◌, ◌++◌, ◌∷◌, [], Some, None, map, subst, rules, arith, ◌∙◌, ap}
use Rattle.device_machine.specs.Course.{GoesOn}
use Rattle.device_machine.proofs.Courses.{all_made, all_late, steps_more}
use Rattle.device_machine.proofs.course.alone.Goals as goal

pub returns-in_default : goal.returns-in_default
returns-in_default c =
    let row = c.args.row.now in
    let ms = c.args.messages.now in
    let none : c.in_ok-effects.field-0 ≡ None = first_of (cc, search rules) in
    let stopped = subst (GoesOn row ms c.loop-v.v c.advance.new.course) none c.in_ok-effects.ensures in
    c.loop-v.invariant.steps ∙ ap (map (λ e. e.step)) (all_made row ms c.loop-v.v (omega arith) stopped.1)

pub loop-v-preserved : goal.loop-v-preserved
loop-v-preserved c =
    let row = c.args.row.now in
    let ms = c.args.messages.now in
    let went = subst (GoesOn row ms c.loop-v.v c.advance.new.course) c.in-Some.is c.in_ok-effects.ensures in
    let pushed = c.in_ok-push.ensures.items ∙ ap (λ step. c.loop-v.steps.items ++ step ∷ []) c.in_ok-new.ensures in
    record {
      course = went.0;
      steps = steps_more row ms c.loop-v.v c.advance.new.course c.loop-v.steps.items c.push.new.self.items c.in_ok-session.session c.in-Some.effects c.loop-v.invariant.steps went c.in_ok-session.ensures pushed;
    }

pub returns : goal.returns
returns c = c.loop-v.invariant.steps ∙ ap (map (λ e. e.step)) (all_late c.args.row.now c.args.messages.now c.loop-v.v (omega arith))
