use Rattle.std.proofs.Common.{arith}
use Rattle.entry_edge.proofs.BindingLaws.{beyond}
use Rattle.entry_edge.proofs.bindings.Bindings.is_bound.Goals as goal

pub returns-in_default : goal.returns-in_default
returns-in_default c = λ rows H k. beyond rows H c.args.self.now c.args.pair c.args.number k (λ at. c.in_default.ensures at.0)

pub returns-in_default-get : goal.returns-in_default-get
returns-in_default-get c = λ rows H k. beyond rows H c.args.self.now c.args.pair c.args.number k (λ at. omega (arith, at.0, at.1, k.count, c.in-Some.ensures.1, c.in_default-get.ensures.lookup.3))
