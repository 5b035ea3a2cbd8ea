-- With an item read and put at the end of the list, reading the others behind it still gives what reading all of them gives.
use Rattle.aper_fields.specs.Asn1.{reading, contained_item_at}
use Rattle.aper_fields.proofs.Manys.{many_next}
use Rattle.protocol_ies.proofs.list.read_many.Goals as goal

pub loop-left-preserved : goal.loop-left-preserved
loop-left-preserved g c = many_next (λ before. contained_item_at c.args.id (reading g.T.Item.asn1)) c.loop-left.left c.loop-left.items c.push.new.self c.loop-left.ahead c.read_one.new.r c.in_ok-item.item _ c.loop-left-test.true c.in_ok-item.ensures c.in_ok-push.ensures.ok c.loop-left.invariant
