-- At each turn: reading the items that are left, behind those in the list, gives what reading all of them into an empty list from the first gives.
use Rattle.std.proofs.Common.{◌≡◌, []}
use Rattle.aper_fields.specs.Many.{many_at}
use Rattle.aper_fields.specs.Asn1.{reading, contained_item_at}
use Rattle.protocol_ies.proofs.list.read_many.Given as goal

abbrev pub invariant-loop-left : goal.invariant-loop-left
invariant-loop-left g l = many_at (λ before. contained_item_at l.id (reading g.T.Item.asn1)) l.left l.items l.ahead ≡ many_at (λ before. contained_item_at l.id (reading g.T.Item.asn1)) l.fn.count [] l.fn.r

abbrev pub decreases-loop-left : goal.decreases-loop-left
decreases-loop-left g l = l.left
