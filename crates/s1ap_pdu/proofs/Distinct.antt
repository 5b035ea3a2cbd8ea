-- What holds of the table of each message: no id stands in it twice, and it has at most six rows.
use Rattle.std.proofs.Common.{◌≤◌, refl, eqb, length, map, arith}
use Rattle.std.specs.List.{IsDistinct}
use Rattle.std.proofs.lemmas.Cmp.{nat_eq_equiv}
use Rattle.std.proofs.lemmas.Map.Made.{IsDistinct-from_count}
use Rattle.s1ap_pdu.specs.declared.tables.MessageKind.{MessageKind}
use Rattle.s1ap_pdu.specs.declared.tables.MessageKind.TheVariants.{InitialUeMessage}
use Rattle.s1ap_pdu.specs.Messages.{rows_of}

-- each table's ids are counted without repetition, and the count is its length
pub ids_distinct : (kind : MessageKind) → IsDistinct eqb (map (λ row. row.id) (rows_of kind))
ids_distinct InitialUeMessage = IsDistinct-from_count nat_eq_equiv _ refl
ids_distinct _ = IsDistinct-from_count nat_eq_equiv _ refl

pub few_rows : (kind : MessageKind) → length (rows_of kind) ≤ 6
few_rows InitialUeMessage = omega arith
few_rows _ = omega arith
