use Rattle.std.proofs.Common.{◌≡◌, [], Some, length, arith}
use Rattle.std.proofs.lemmas.List.Elements.{All-pop}
use Rattle.front_lock.proofs.Columns.{fills_all, fills_from, fills_on}
use Rattle.front_lock.proofs.fronts.add_fronts.Goals as goal

pub loop-value-init : goal.loop-value-init
loop-value-init g c = fills_from g.T.Held.basis g.T.Held.turns c.args.values.items c.args.seats c.reverse.new.self.items c.args.fronts.now.items c.args.made.now.items c.requires.none c.reverse.ensures.items c.requires.empty c.requires.count c.requires.numbers

pub add_front-requires-clause-empty : goal.add_front-requires-clause-empty
add_front-requires-clause-empty g c = (All-pop (λ v. g.T.Held.turns v ≡ []) c.loop-value.values.items c.pop.new.self.items (Some c.in-Some.value) c.in-Some.ensures.items c.loop-value.invariant.empty).1

pub loop-value-preserved : goal.loop-value-preserved
loop-value-preserved g c =
    fills_on g.T.Held.basis g.T.Held.turns c.args.values.items c.args.seats c.loop-value.values.items c.pop.new.self.items c.loop-value.fronts.items c.add_front.new.fronts.items c.loop-value.made.items c.add_front.new.made.items c.in-Some.value c.in-Some.ensures.items c.loop-value.invariant c.in_ok-add_front.ensures

pub returns : goal.returns
returns g c =
    let none : length c.loop-value.values.items ≡ 0 = let e = c.in_default.ensures.cases.0 in let o = c.loop-value.values.ok.0 in omega arith in
    fills_all g.T.Held.basis g.T.Held.turns c.args.values.items c.args.seats c.loop-value.values.items c.loop-value.fronts.items c.loop-value.made.items none c.loop-value.invariant
