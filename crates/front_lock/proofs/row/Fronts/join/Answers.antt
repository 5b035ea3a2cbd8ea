use Rattle.std.proofs.Common.{◌<◌, length, arith, refl, ap, ◌∙◌}
use Rattle.front_lock.proofs.Columns.{joins_at, joins_below, join_into, join_from, join_opens, joined_keeps, joined_gains, numbered_with}
use Rattle.front_lock.proofs.row.Fronts.join.Goals as goal

pub loop-seat-init : goal.loop-seat-init
loop-seat-init g c = record { number = refl; joining = join_opens g.T.Held.basis c.args.self.now.fronts.items c.args.into.now.seats.items c.args.from.seats.items c.requires.into c.requires.from }

pub join-requires-clause-into : goal.join-requires-clause-into
join-requires-clause-into g c =
    join_into g.T.Held.basis c.args.self.now.fronts.items c.args.into.now.seats.items c.args.from.seats.items c.loop-seat.into.seats.items c.loop-seat.seats.items c.pop.new.self.items c.index.result.now c.in-Some.seat c.index_mut.result.now c.len-k.result
    c.loop-seat.invariant.joining c.in-Some.ensures.items (c.len-k.ensures ∙ c.pop.new.self.ok.0) c.index.ensures c.index_mut.ensures.value

pub join-requires-clause-from : goal.join-requires-clause-from
join-requires-clause-from g c =
    join_from g.T.Held.basis c.args.self.now.fronts.items c.args.into.now.seats.items c.args.from.seats.items c.loop-seat.into.seats.items c.loop-seat.seats.items c.pop.new.self.items c.index.result.now c.in-Some.seat c.len-k.result
    c.loop-seat.invariant.joining c.requires.from c.in-Some.ensures.items (c.len-k.ensures ∙ c.pop.new.self.ok.0) c.index.ensures

pub loop-seat-preserved : goal.loop-seat-preserved
loop-seat-preserved g c = record {
  number = c.loop-seat.invariant.number;
  joining = joins_at g.T.Held.basis c.args.self.now.fronts.items c.args.into.now.seats.items c.args.from.seats.items c.loop-seat.into.seats.items c.loop-seat.seats.items c.pop.new.self.items c.index.result.now c.in-Some.seat c.index_mut.result.now c.join.new.into c.len-k.result
      c.loop-seat.invariant.joining c.in-Some.ensures.items (c.len-k.ensures ∙ c.pop.new.self.ok.0) c.index.ensures c.index_mut.ensures.value c.join.ensures.seat c.join.ensures.joined;
}

pub invariant_of-into : goal.invariant_of-into
invariant_of-into g c =
    let i = c.loop-seat.invariant.joining in
    let low : c.len-k.result < length c.loop-seat.into.seats.items = joins_below g.T.Held.basis c.args.self.now.fronts.items c.args.into.now.seats.items c.args.from.seats.items c.loop-seat.into.seats.items c.loop-seat.seats.items c.pop.new.self.items c.in-Some.seat c.len-k.result i c.in-Some.ensures.items (c.len-k.ensures ∙ c.pop.new.self.ok.0) in
    record { numbered = numbered_with c.loop-seat.into.seats.items c.len-k.result c.loop-seat.into.number c.index_mut.result.now c.join.new.into low c.index_mut.ensures.value (ap (λ v. v.number) c.join.ensures.joined.view_is) c.loop-seat.into.numbered }

pub returns-clause-joined : goal.returns-clause-joined
returns-clause-joined g c = λ k v w u.
    c.loop-seat.invariant.joining.above k v w u (let e = c.in_default.ensures.cases.0 in let o = c.loop-seat.seats.ok.0 in omega arith)

pub returns-clause-keeps : goal.returns-clause-keeps
returns-clause-keeps g c = λ n.
    joined_keeps c.args.into.now.seats.items c.args.from.seats.items c.loop-seat.into.seats.items (returns-clause-joined g c) n
    (let i = c.loop-seat.invariant.joining.of.0 in let r = c.requires.into.0 in omega arith) (let i = c.requires.from.0 in let r = c.requires.into.0 in omega arith)

pub returns-clause-gains : goal.returns-clause-gains
returns-clause-gains g c = λ n.
    joined_gains c.args.into.now.seats.items c.args.from.seats.items c.loop-seat.into.seats.items (returns-clause-joined g c) n
    (let i = c.loop-seat.invariant.joining.of.0 in let r = c.requires.into.0 in omega arith) (let i = c.requires.from.0 in let r = c.requires.into.0 in omega arith)
