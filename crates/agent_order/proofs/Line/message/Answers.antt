use Rattle.std.proofs.Common.{◌∙◌, arith}
use Rattle.std.specs.Arc.{arc_value}
use Rattle.agent_order.proofs.Numbers.{numbered_item}
use Rattle.agent_order.proofs.Line.message.Goals as goal

pub returns-clause-number : goal.returns-clause-number
returns-clause-number c = numbered_item (arc_value c.self.inside.items) c.in_ok-index.index c.args.n c.get.result c.self.invariant.0 (omega arith) (rw (c.items.ensures ∙ c.deref.ensures) at c.get.ensures.lookup)
