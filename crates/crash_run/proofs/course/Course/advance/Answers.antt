use Rattle.std.proofs.Common.{◌+◌, ◌++◌, ◌∷◌, [], refl, sym, ap, ◌∙◌, arith}
use Rattle.device_types.specs.declared.effect.Effect.TheVariants as effects
use Rattle.device_types.specs.declared.event.Lane.TheVariants as lanes
use Rattle.device_types.specs.StepTable.{step_of}
use Rattle.peer_calls.specs.Calls.{calls_of}
use Rattle.crash_run.proofs.Courses.{few_accepted, few_taken, session_is, goes_on}
use Rattle.crash_run.proofs.course.Course.advance.Goals as goal

pub offer_all-requires-clause-few : goal.offer_all-requires-clause-few
offer_all-requires-clause-few c = few_accepted effects.Gateway lanes.Gateway c.args.row.now c.args.messages.now c.args.v (calls_of c.args.self.now.peers.gateway c.args.row.now.number) c.session.result.now c.in-Some.input c.in_ok-step.step c.requires.course.peers_have.gateway_is c.in_ok-step.ensures.step c.requires.count

pub offer_all-requires-clause-short : goal.offer_all-requires-clause-short
offer_all-requires-clause-short c = few_accepted effects.Subscriber lanes.Subscriber c.args.row.now c.args.messages.now c.args.v (calls_of c.args.self.now.peers.server c.args.row.now.number) c.session.result.now c.in-Some.input c.in_ok-step.step c.requires.course.peers_have.server_is c.in_ok-step.ensures.step c.requires.count

pub overflow_add-self : goal.overflow_add-self
overflow_add-self c = omega (arith, few_taken c.args.row.now c.args.messages.now c.args.v c.args.self.now.taken c.requires.course.taken_is, c.messages_in.ensures.most, c.requires.count)

pub returns-clause-more : goal.returns-clause-more
returns-clause-more c = λ _.
    let session = session_is c.args.row.now c.args.messages.now c.args.v c.args.self.now c.session.result.now c.requires.course c.session.ensures in
    let step = c.in_ok-step.ensures.step ∙ ap (λ s. step_of c.args.row.now s c.in-Some.input) session in
    let entries = c.in_ok-push.ensures.ok ∙ ap (λ entry. c.args.self.now.entries ++ entry ∷ []) c.in_ok-new.ensures in
    goes_on c.args.row.now c.args.messages.now c.args.v c.args.self.now _ c.in-Some.input c.in_ok-step.step c.requires.course (sym c.in-Some.is ∙ c.in_ok-input.ensures) step
    refl entries (ap (λ n. c.args.self.now.taken + n) c.messages_in.ensures.value) c.in_ok-offer_all.ensures.gateway c.in_ok-offer_all.ensures.server c.in_ok-offer_all.ensures.sizes
