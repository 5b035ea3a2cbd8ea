use Rattle.std.proofs.Common.{sym, ◌∙◌}
use Rattle.entry_edge.specs.Trace.{bound}
use Rattle.entry_edge.proofs.BindingLaws.{agreed_on, not_agreed, bound_within}
use Rattle.entry_edge.proofs.check.agreed.Goals as goal

pub returns-then-not-is_bound-clause-agreed : goal.returns-then-not-is_bound-clause-agreed
returns-then-not-is_bound-clause-agreed c = λ rows H k. rw c.refused.ensures (not_agreed c.args.pair c.args.mme (bound c.args.pair H) (sym (c.is_bound.ensures rows H k) ∙ c.if-not-is_bound.true))

pub returns-clause-agreed : goal.returns-clause-agreed
returns-clause-agreed c = λ rows H k. agreed_on c.args.pair (record { 0 = c.args.mme }) (bound c.args.pair H) (sym (c.is_bound.ensures rows H k) ∙ c.if-not-is_bound.false)

pub returns-clause-within : goal.returns-clause-within
returns-clause-within c = λ rows H k. bound_within rows H c.args.bindings.now c.args.pair c.args.mme k (sym (c.is_bound.ensures rows H k) ∙ c.if-not-is_bound.false)
