use Rattle.std.proofs.Common.{◌≡◌, ◌∙◌, reverse, sym, ap, Bool, cond}
use Rattle.epoch_agents.specs.declared.agent.Agent.{Agent}
use Rattle.epoch_agents.specs.declared.event.EpochAnswer.TheVariants as told
use Rattle.epoch_agents.specs.declared.event.EpochEvent.TheVariants.{Send}
use Rattle.epoch_agents.specs.Answer.{answer}
use Rattle.epoch_agents.specs.Counts.{agent}
use Rattle.epoch_agents.specs.View.{view_of}
use Rattle.epoch_agents.proofs.KeptLaws.{pushed, event_in, notes, answered, agent_read, long_read, send_given, kept_sent}
use Rattle.epoch_agents.proofs.world.EpochWorld.send.Goals as goal
use Rattle.epoch_agents.proofs.world.EpochWorld.send.Goals.{After-may_send}

agent_is : (c : After-may_send) → c.value_or-agent.result ≡ agent c.args.a (reverse c.self.inside.turns.items)
agent_is c =
    let w = c.self.inside in
    agent_read (reverse w.turns.items) w.agents w.taken w.sent w.merged.items c.args.a c.new.result c.value_or-agent.result c.new.ensures c.value_or-agent.ensures c.self.invariant.kept

given_by : (c : After-may_send) → cond c.may_send.result told.Sent told.VoidWindow ≡ answer c.self.inside.streams.items (reverse c.self.inside.turns.items) (Send c.args.a c.args.n)
given_by c =
    let w = c.self.inside in
    let event = event_in c.args.self.now (view_of w) (Send c.args.a c.args.n) c.self.view_is c.requires in
    send_given w.streams.items (reverse w.turns.items) c.args.a c.args.n c.len.result c.value_or-agent.result c.may_send.result c.may_send.ensures (agent_is c)
    (long_read w.streams.items c.args.a c.len.result c.index.result.now event.0 c.index.ensures c.len.ensures)

pub returns-then-not-may_send-clause-ok : goal.returns-then-not-may_send-clause-ok
returns-then-not-may_send-clause-ok c =
    let w = c.self.inside in
    let e = Send c.args.a c.args.n in
    let given = sym (ap (λ (b : Bool). cond b told.Sent told.VoidWindow) c.if-not-may_send.true) ∙ given_by (goal.at.returns-then-not-may_send-clause-ok c).After-may_send in
    rw c.noted.ensures.answer
    (answered c.args.self.now w.streams.items w.turns.items c.noted.new.turns.items e told.VoidWindow c.self.view_is (pushed w.turns.items c.reserve.new.self.items c.noted.new.turns.items (e, told.VoidWindow) c.noted.ensures.turns c.in_ok-reserve.ensures.items) c.self.invariant.lawful given)

pub invariant_of-self-2 : goal.invariant_of-self-2
invariant_of-self-2 c =
    let w = c.self.inside in
    let e = Send c.args.a c.args.n in
    let event = event_in c.args.self.now (view_of w) e c.self.view_is c.requires in
    let at = (goal.at.invariant_of-self-2 c).After-may_send in
    let given = sym (ap (λ (b : Bool). cond b told.Sent told.VoidWindow) c.if-not-may_send.false) ∙ given_by at in
    notes w.streams.items w.turns.items c.noted-2.new.turns.items e told.Sent w.agents w.taken c.insert.new.self w.merged.items (pushed w.turns.items c.reserve.new.self.items c.noted-2.new.turns.items (e, told.Sent) c.noted-2.ensures.turns c.in_ok-reserve.ensures.items) c.self.invariant.lawful event given
    (kept_sent (reverse w.turns.items) c.args.a c.args.n c.value_or-agent.result.stamp w.agents w.taken w.sent c.insert.new.self w.merged.items (ap (λ (g : Agent). g.stamp) (agent_is at)) c.in_ok-insert.ensures.updates c.self.invariant.kept)

pub returns-clause-ok : goal.returns-clause-ok
returns-clause-ok c =
    let w = c.self.inside in
    let e = Send c.args.a c.args.n in
    let given = sym (ap (λ (b : Bool). cond b told.Sent told.VoidWindow) c.if-not-may_send.false) ∙ given_by (goal.at.returns-clause-ok c).After-may_send in
    rw c.noted-2.ensures.answer
    (answered c.args.self.now w.streams.items w.turns.items c.noted-2.new.turns.items e told.Sent c.self.view_is (pushed w.turns.items c.reserve.new.self.items c.noted-2.new.turns.items (e, told.Sent) c.noted-2.ensures.turns c.in_ok-reserve.ensures.items) c.self.invariant.lawful given)
