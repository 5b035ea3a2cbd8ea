-- At each turn: passing over the items that are left, from where the reader is, gives what passing over all of them from the first gives.
use Rattle.std.proofs.Common.{◌≡◌}
use Rattle.aper_fields.specs.SequenceReading.{skipping, skipped_at}
use Rattle.aper_fields.specs.Asn1.{reading, contained_item_at}
use Rattle.protocol_ies.proofs.list.skip_many.Given as goal

abbrev pub invariant-loop-left : goal.invariant-loop-left
invariant-loop-left g l = skipped_at (contained_item_at l.id (skipping (reading g.T.Item.asn1))) l.left l.ahead ≡ skipped_at (contained_item_at l.fn.id (skipping (reading g.T.Item.asn1))) l.fn.count l.fn.r

abbrev pub decreases-loop-left : goal.decreases-loop-left
decreases-loop-left g l = l.left
