use Rattle.std.proofs.Common.{◌≡◌, reverse, Some, None, arith}
use Rattle.epoch_agents.specs.declared.event.EpochAnswer.TheVariants as told
use Rattle.epoch_agents.specs.declared.event.EpochEvent.TheVariants.{Learn}
use Rattle.epoch_agents.specs.Counts.{heard}
use Rattle.epoch_agents.proofs.KeptLaws.{pushed, answered, agent_read, heard_read, learn_given, learn_void, low_bound}
use Rattle.epoch_agents.proofs.world.EpochWorld.learn.Goals as goal
use Rattle.epoch_agents.proofs.world.EpochWorld.learn.Goals.{In-Some}

heard_is : (c : In-Some) → heard c.args.i (reverse c.self.inside.turns.items) ≡ Some c.in-Some.heard
heard_is c = heard_read c.self.inside.turns.items c.reserve.new.self.items c.deref.result.now c.args.i c.heard_at.result (Some c.in-Some.heard) c.heard_at.ensures c.deref.ensures.value c.in_ok-reserve.ensures.items c.in-Some.is

pub returns-in_default-clause-ok : goal.returns-in_default-clause-ok
returns-in_default-clause-ok c =
    let w = c.self.inside in
    let none = heard_read w.turns.items c.reserve.new.self.items c.deref.result.now c.args.i c.heard_at.result None c.heard_at.ensures c.deref.ensures.value c.in_ok-reserve.ensures.items c.in_default.is in
    rw c.noted.ensures.answer
    (answered c.args.self.now w.streams.items w.turns.items c.noted.new.turns.items (Learn c.args.i) told.VoidLink c.self.view_is (pushed w.turns.items c.reserve.new.self.items c.noted.new.turns.items (Learn c.args.i, told.VoidLink) c.noted.ensures.turns c.in_ok-reserve.ensures.items) c.self.invariant.lawful
    (learn_void w.streams.items (reverse w.turns.items) c.args.i none))

pub hears-answer-requires : goal.hears-answer-requires
hears-answer-requires c = λ stamp low.
    let w = c.self.inside in
    let bound = low_bound c.args.self.now w.streams.items w.turns.items c.args.i stamp c.in-Some.heard c.self.view_is c.self.invariant.lawful (heard_is (goal.at.hears-answer-requires c).In-Some) low in
    omega (arith, bound, c.requires)

pub returns-clause-ok : goal.returns-clause-ok
returns-clause-ok c =
    let w = c.self.inside in
    let x = c.hears-answer.result in
    let own = agent_read (reverse w.turns.items) w.agents w.taken w.sent w.merged.items c.in-Some.heard.a c.new.result c.value_or-agent.result c.new.ensures c.value_or-agent.ensures c.self.invariant.kept in
    rw c.noted-2.ensures.answer
    (answered c.args.self.now w.streams.items w.turns.items c.noted-2.new.turns.items (Learn c.args.i) x c.self.view_is (pushed w.turns.items c.reserve.new.self.items c.noted-2.new.turns.items (Learn c.args.i, x) c.noted-2.ensures.turns c.in_ok-reserve.ensures.items) c.self.invariant.lawful
    (learn_given w.streams.items (reverse w.turns.items) c.args.i c.in-Some.heard c.value_or-agent.result x (heard_is (goal.at.returns-clause-ok c).In-Some) own c.hears-answer.ensures))
