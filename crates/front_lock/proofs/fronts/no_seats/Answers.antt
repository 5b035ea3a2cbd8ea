use Rattle.std.proofs.Common.{length, ap, refl}
use Rattle.front_lock.proofs.Columns.{numbers_more, count_more, none_got}
use Rattle.front_lock.proofs.fronts.no_seats.Goals as goal

pub loop-number-init : goal.loop-number-init
loop-number-init g c = record {
  count = ap length c.new-made.ensures.items;
  numbers = λ n s got. absurd (none_got c.new-made.result.items n s c.new-made.ensures.items got);
}

pub loop-number-preserved : goal.loop-number-preserved
loop-number-preserved g c =
    let i = c.loop-number.invariant in record {
      count = count_more c.loop-number.made.items c.push.new.self.items _ c.loop-number.number c.in-Ok.ensures.items i.count;
      numbers = numbers_more c.loop-number.made.items c.push.new.self.items _ c.loop-number.number i.count c.in-Ok.ensures.items refl c.new.ensures.items i.numbers;
    }
