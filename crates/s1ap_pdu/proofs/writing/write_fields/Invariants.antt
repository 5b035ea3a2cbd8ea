-- At each turn: the IEs of the rows that are left, put behind what is written now, make the run of all rows, and each value left can be written.
use Rattle.std.proofs.Common.{◌≡◌, length, IfSome}
use Rattle.std.specs.List.{AllByRecursion}
use Rattle.aper_fields.specs.Run.{then_written}
use Rattle.s1ap_pdu.specs.Values.{all_seen}
use Rattle.s1ap_pdu.specs.Run.{fields_run, IsRightField}
use Rattle.s1ap_pdu.proofs.writing.write_fields.Given as goal

abbrev pub invariant-loop-rows : goal.invariant-loop-rows
invariant-loop-rows l = record {
  goes_on : then_written l.w (fields_run l.rows (all_seen l.values)) ≡ then_written l.fn.w (fields_run l.fn.rows (all_seen l.fn.values));
  right : AllByRecursion (λ v. IfSome v IsRightField) (all_seen l.values);
}

abbrev pub decreases-loop-rows : goal.decreases-loop-rows
decreases-loop-rows l = length l.rows
