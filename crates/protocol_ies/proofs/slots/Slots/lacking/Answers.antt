-- A needed row with an empty slot is the first that is lacking, and a row that is not needed or has its value is passed over with its slot.
use Rattle.std.proofs.Common.{sym, ◌∙◌, ◌-◌, length, drop, arith}
use Rattle.std.proofs.lemmas.List.{length-take, length-drop}
use Rattle.protocol_ies.proofs.Lacking.{lacking_here, lacking_later}
use Rattle.protocol_ies.proofs.slots.Slots.lacking.Goals as goal

pub returns-then-lacks : goal.returns-then-lacks
returns-then-lacks g c = lacking_here c.loop-left.left.now _ c.args.self.now c.loop-left.place _ (omega (arith, c.in-len1-up.len_at_least)) (omega (arith, c.lacks.ensures.places, c.loop-left.invariant.room, c.in-len1-up.len_at_least)) c.loop-left.invariant.goes_on (sym c.lacks.ensures.value ∙ c.if-lacks.true)

pub loop-left-preserved : goal.loop-left-preserved
loop-left-preserved g c = record {
  goes_on = lacking_later c.loop-left.left.now _ c.args.self.now c.loop-left.place _ (omega (arith, c.in-len1-up.len_at_least)) (omega (arith, c.lacks.ensures.places, c.loop-left.invariant.room, c.in-len1-up.len_at_least)) c.loop-left.invariant.goes_on (sym c.lacks.ensures.value ∙ c.if-lacks.false);
  room = omega (arith, c.loop-left.invariant.room, c.in-len1-up.len_at_least, length-take (length c.loop-left.left.now - 1) (drop 1 c.loop-left.left.now), length-drop 1 c.loop-left.left.now);
}
