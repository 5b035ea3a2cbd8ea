use Rattle.std.proofs.Common.{ap, ◌∙◌}
use Rattle.entry_edge.specs.Trace.{bound, messages_of, refused_of}
use Rattle.entry_edge.proofs.StepLaws.{admitted_turn, next_message, same_messages, bound_step}
use Rattle.entry_edge.proofs.laws.line_admitted.Goals as goal

pub returns-clause-refused : goal.returns-clause-refused
returns-clause-refused c = λ rows H line t is. ap refused_of (admitted_turn rows H line t is)

pub returns-clause-next : goal.returns-clause-next
returns-clause-next c = λ rows H line t is. ap (messages_of t.device.0) (admitted_turn rows H line t is) ∙ next_message H t

pub returns-clause-others : goal.returns-clause-others
returns-clause-others c = λ rows H line t is d other. ap (messages_of d) (admitted_turn rows H line t is) ∙ same_messages d H t other

pub returns-clause-bound : goal.returns-clause-bound
returns-clause-bound c = λ rows H line t is pair. ap (bound pair) (admitted_turn rows H line t is) ∙ bound_step pair H t
