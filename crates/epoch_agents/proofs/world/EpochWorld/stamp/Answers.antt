use Rattle.std.proofs.Common.{◌∙◌, reverse, sym, ap, List}
use Rattle.epoch_agents.specs.declared.agent.Agent.{Agent}
use Rattle.epoch_agents.specs.Counts.{Turn, agent}
use Rattle.epoch_agents.specs.World.{WorldState, turns_in}
use Rattle.epoch_agents.proofs.KeptLaws.{turns_are, agent_read}
use Rattle.epoch_agents.proofs.world.EpochWorld.stamp.Goals as goal

pub returns : goal.returns
returns c =
    let w = c.self.inside in
    let own = agent_read (reverse w.turns.items) w.agents w.taken w.sent w.merged.items c.args.a c.new.result c.value_or.result c.new.ensures c.value_or.ensures c.self.invariant.kept in
    ap (λ (g : Agent). g.stamp) own
    ∙ ap (λ (ts : List Turn). (agent c.args.a ts).stamp) (sym (turns_are w.streams.items w.turns.items c.self.invariant.lawful))
    ∙ ap (λ (x : WorldState). (agent c.args.a (turns_in x)).stamp) c.self.view_is
