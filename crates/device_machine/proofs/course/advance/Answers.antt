use Rattle.std.proofs.Common.{◌≡◌, None, length, rules, arith, sym, ◌∙◌, ap}
use Rattle.device_types.specs.Acts.{made}
use Rattle.device_machine.specs.Course.{noted}
use Rattle.device_machine.proofs.Courses.{goes_on, stops, created_low, taken_low, gateway_low, subscriber_low, few_in}
use Rattle.device_machine.proofs.course.advance.Goals as goal

pub next_input-requires : goal.next_input-requires
next_input-requires c =
    let low = created_low c.args.row.now c.args.messages.now c.args.v c.args.course.now c.requires.course in omega arith

pub returns-in_default : goal.returns-in_default
returns-in_default c =
    let none : c.in_ok-input.field-0 ≡ None = first_of (cc, search rules) in
    stops c.args.row.now c.args.messages.now c.args.v c.args.course.now c.requires.course (sym none ∙ c.in_ok-input.ensures)

pub note-requires-clause-taken : goal.note-requires-clause-taken
note-requires-clause-taken c =
    let low = taken_low c.args.row.now c.args.messages.now c.args.v c.args.course.now c.requires.course in omega arith

pub note-requires-clause-created : goal.note-requires-clause-created
note-requires-clause-created c =
    let low = created_low c.args.row.now c.args.messages.now c.args.v c.args.course.now c.requires.course in omega arith

pub note-requires-clause-gateway : goal.note-requires-clause-gateway
note-requires-clause-gateway c =
    let low = gateway_low c.args.row.now c.args.messages.now c.args.v c.args.course.now c.requires.course in
    let few = few_in c.args.row.now c.args.course.now.session c.step_in_place.new.session c.in-Some.input c.in_ok-effects.effects c.in_ok-effects.ensures in
    omega (arith, ap length c.items.ensures)

pub note-requires-clause-subscriber : goal.note-requires-clause-subscriber
note-requires-clause-subscriber c =
    let low = subscriber_low c.args.row.now c.args.messages.now c.args.v c.args.course.now c.requires.course in
    let few = few_in c.args.row.now c.args.course.now.session c.step_in_place.new.session c.in-Some.input c.in_ok-effects.effects c.in_ok-effects.ensures in
    omega (arith, ap length c.items.ensures)

pub returns : goal.returns
returns c =
    rw (c.note.ensures, c.items.ensures)
    (goes_on c.args.row.now c.args.messages.now c.args.v c.args.course.now c.in-Some.input c.step_in_place.new.session c.in_ok-effects.effects c.requires.course (sym c.in-Some.is ∙ c.in_ok-input.ensures) c.in_ok-effects.ensures)
