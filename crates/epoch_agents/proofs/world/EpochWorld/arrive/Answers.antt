use Rattle.std.proofs.Common.{◌≡◌, ◌∙◌, reverse, sym, ap}
use Rattle.epoch_agents.specs.declared.event.EpochAnswer.TheVariants as told
use Rattle.epoch_agents.specs.declared.event.EpochEvent.TheVariants.{Arrive}
use Rattle.epoch_agents.specs.Answer.{answer}
use Rattle.epoch_agents.specs.Counts.{is_committed}
use Rattle.epoch_agents.specs.View.{view_of}
use Rattle.epoch_agents.proofs.KeptLaws.{pushed, event_in, notes, answered, agent_read, count_read, arrive_off, arrive_given, last_within, not_committed, next_count, kept_arrival, kept_commit}
use Rattle.epoch_agents.proofs.world.EpochWorld.arrive.Goals as goal
use Rattle.epoch_agents.proofs.world.EpochWorld.arrive.Goals.{After-row_answer-answer}

given_by : (c : After-row_answer-answer) → c.row_answer-answer.result ≡ answer c.self.inside.streams.items (reverse c.self.inside.turns.items) (Arrive c.args.a c.args.stamp c.args.n)
given_by c =
    let w = c.self.inside in
    let turns = reverse w.turns.items in
    let own = agent_read turns w.agents w.taken w.sent w.merged.items c.args.a c.new.result c.value_or-agent.result c.new.ensures c.value_or-agent.ensures c.self.invariant.kept in
    let count = count_read w.streams.items turns w.agents w.taken w.sent w.merged.items c.args.a c.args.stamp c.count_under-taken.result c.value_or.result c.value_or-agent.result c.self.invariant.lawful own c.value_or.ensures c.count_under-taken.ensures c.self.invariant.kept in
    let on = sym (c.self.invariant.kept.link c.args.a c.args.stamp c.args.n) ∙ sym c.contains.ensures ∙ c.if-not-contains.false in
    arrive_given w.streams.items turns c.args.a c.args.stamp c.args.n c.count_under-taken.result w.merged.items c.row_answer-answer.result on c.self.invariant.kept.entries count (rw (c.deref.ensures.value, c.deref-2.ensures.value) at c.row_answer-answer.ensures)

pub returns-then-not-contains-clause-ok : goal.returns-then-not-contains-clause-ok
returns-then-not-contains-clause-ok c =
    let w = c.self.inside in
    let e = Arrive c.args.a c.args.stamp c.args.n in
    let off = sym (c.self.invariant.kept.link c.args.a c.args.stamp c.args.n) ∙ sym c.contains.ensures ∙ c.if-not-contains.true in
    rw c.noted.ensures.answer
    (answered c.args.self.now w.streams.items w.turns.items c.noted.new.turns.items e told.VoidLink c.self.view_is (pushed w.turns.items c.reserve.new.self.items c.noted.new.turns.items (e, told.VoidLink) c.noted.ensures.turns c.in_ok-reserve.ensures.items) c.self.invariant.lawful
    (arrive_off w.streams.items (reverse w.turns.items) c.args.a c.args.stamp c.args.n off))

pub row_answer-answer-requires-clause-last : goal.row_answer-answer-requires-clause-last
row_answer-answer-requires-clause-last c =
    let w = c.self.inside in
    last_within w.streams.items c.deref.result.now (reverse w.turns.items) c.deref-2.result.now c.deref.ensures.value (c.deref-2.ensures.value ∙ c.self.invariant.kept.entries) c.self.invariant.lawful

pub invariant_of-self-in-Committed : goal.invariant_of-self-in-Committed
invariant_of-self-in-Committed c =
    let w = c.self.inside in
    let turns = reverse w.turns.items in
    let e = Arrive c.args.a c.args.stamp c.args.n in
    let x = c.row_answer-answer.result in
    let some = ap is_committed c.in-Committed.is in
    let given = given_by (goal.at.invariant_of-self-in-Committed c).After-row_answer-answer in
    let event = event_in c.args.self.now (view_of w) e c.self.view_is c.requires in
    let next = next_count w.streams.items turns c.args.a c.args.stamp c.args.n x c.self.invariant.lawful given some in
    rw (c.push_within.ensures, c.in_ok-reserve-2.ensures.items)
    (notes w.streams.items w.turns.items c.noted-in-Committed.new.turns.items e x w.agents c.insert.new.self w.sent _ (pushed w.turns.items c.reserve.new.self.items c.noted-in-Committed.new.turns.items (e, x) c.noted-in-Committed.ensures.turns c.in_ok-reserve.ensures.items) c.self.invariant.lawful event given
    (kept_commit turns c.args.a c.args.stamp c.args.n x w.agents w.taken c.insert.new.self w.sent w.merged.items some next c.in_ok-insert.ensures.updates c.self.invariant.kept))

pub returns-in-Committed-clause-ok : goal.returns-in-Committed-clause-ok
returns-in-Committed-clause-ok c =
    let w = c.self.inside in
    let e = Arrive c.args.a c.args.stamp c.args.n in
    let x = c.row_answer-answer.result in
    rw c.noted-in-Committed.ensures.answer
    (answered c.args.self.now w.streams.items w.turns.items c.noted-in-Committed.new.turns.items e x c.self.view_is (pushed w.turns.items c.reserve.new.self.items c.noted-in-Committed.new.turns.items (e, x) c.noted-in-Committed.ensures.turns c.in_ok-reserve.ensures.items) c.self.invariant.lawful
    (given_by (goal.at.returns-in-Committed-clause-ok c).After-row_answer-answer))

pub invariant_of-self-2 : goal.invariant_of-self-2
invariant_of-self-2 c =
    let w = c.self.inside in
    let turns = reverse w.turns.items in
    let e = Arrive c.args.a c.args.stamp c.args.n in
    let x = c.row_answer-answer.result in
    let event = event_in c.args.self.now (view_of w) e c.self.view_is c.requires in
    notes w.streams.items w.turns.items c.noted-2.new.turns.items e x w.agents w.taken w.sent w.merged.items (pushed w.turns.items c.reserve.new.self.items c.noted-2.new.turns.items (e, x) c.noted-2.ensures.turns c.in_ok-reserve.ensures.items) c.self.invariant.lawful event
    (given_by (goal.at.invariant_of-self-2 c).After-row_answer-answer)
    (kept_arrival turns c.args.a c.args.stamp c.args.n x w.agents w.taken w.sent w.merged.items (not_committed x c.in_default.not-Committed) c.self.invariant.kept)

pub returns-clause-ok : goal.returns-clause-ok
returns-clause-ok c =
    let w = c.self.inside in
    let e = Arrive c.args.a c.args.stamp c.args.n in
    let x = c.row_answer-answer.result in
    rw c.noted-2.ensures.answer
    (answered c.args.self.now w.streams.items w.turns.items c.noted-2.new.turns.items e x c.self.view_is (pushed w.turns.items c.reserve.new.self.items c.noted-2.new.turns.items (e, x) c.noted-2.ensures.turns c.in_ok-reserve.ensures.items) c.self.invariant.lawful
    (given_by (goal.at.returns-clause-ok c).After-row_answer-answer))
