use Rattle.std.proofs.Common.{length, ap, ◌∙◌}
use Rattle.agent_order.specs.Order.{LineState}
use Rattle.link_schedule.proofs.world.World.message_count.Goals as goal

pub returns : goal.returns
returns c = c.len.ensures ∙ ap (λ (l : LineState). length l.messages) (c.line.ensures.value ∙ c.agent.ensures.line)
