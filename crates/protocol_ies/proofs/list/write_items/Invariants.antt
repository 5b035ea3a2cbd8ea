-- At each turn: the items that are left, put behind what is written now, make the run of all items, and each of them can be written.
use Rattle.std.proofs.Common.{◌≡◌, length}
use Rattle.std.specs.List.{AllByRecursion}
use Rattle.aper_fields.specs.Run.{then_written}
use Rattle.protocol_ies.specs.Criticalities.{criticality_number}
use Rattle.aper_fields.specs.Asn1.{run, each_run, item_run, CanBeWritten}
use Rattle.protocol_ies.proofs.list.write_items.Given as goal

abbrev pub invariant-loop-left : goal.invariant-loop-left
invariant-loop-left g l = record {
  goes_on : then_written l.w (each_run (λ a. item_run l.id (criticality_number l.criticality) (run g.T.Item.asn1 a 0)) l.left) ≡ then_written l.fn.w (each_run (λ a. item_run l.fn.id (criticality_number l.fn.criticality) (run g.T.Item.asn1 a 0)) l.fn.items);
  right : AllByRecursion (λ a. CanBeWritten g.T.Item.asn1 a) l.left;
}

abbrev pub decreases-loop-left : goal.decreases-loop-left
decreases-loop-left g l = length l.left
