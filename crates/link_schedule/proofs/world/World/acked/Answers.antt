use Rattle.std.proofs.Common.{ap, ◌∙◌}
use Rattle.agent_order.specs.Order.{LineState}
use Rattle.link_schedule.proofs.world.World.acked.Goals as goal

pub returns : goal.returns
returns c = c.acked.ensures.value ∙ ap (λ (l : LineState). l.acked) (c.line.ensures.value ∙ c.agent.ensures.line)
