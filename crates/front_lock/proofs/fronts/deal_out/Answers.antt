use Rattle.std.proofs.Common.{◌∙◌}
use Rattle.front_lock.proofs.Columns.{deal_opens, deals_at, deal_number}
use Rattle.front_lock.proofs.fronts.deal_out.Goals as goal

pub loop-seat-init : goal.loop-seat-init
loop-seat-init g c = deal_opens c.args.made.now.items c.args.column.items c.requires.count

pub add-requires : goal.add-requires
add-requires g c =
    deal_number c.args.made.now.items c.args.column.items c.loop-seat.made.items c.loop-seat.column.items c.pop.new.self.items c.in-Some.seat c.index_mut.result.now c.len-k.result
    c.requires.numbers c.loop-seat.invariant c.in-Some.ensures.items (c.len-k.ensures ∙ c.pop.new.self.ok.0) c.index_mut.ensures.value

pub loop-seat-preserved : goal.loop-seat-preserved
loop-seat-preserved g c =
    deals_at c.args.made.now.items c.args.column.items c.loop-seat.made.items c.loop-seat.column.items c.pop.new.self.items c.in-Some.seat c.index_mut.result.now c.add.new.self c.len-k.result
    c.loop-seat.invariant c.in-Some.ensures.items (c.len-k.ensures ∙ c.pop.new.self.ok.0) c.index_mut.ensures.value c.in_ok-add.ensures.ok c.add.ensures.number
