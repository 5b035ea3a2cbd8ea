-- What admission gives of a case, and the text of what becomes of its devices.
use Rattle.std.specs.Prelude.{◌≡◌, ℕ, List, length, All}
use Rattle.device_machine.specs.Ends.{finals_of}
use Rattle.device_types.specs.Line.{IsLine}
use Rattle.device_types.specs.declared.subscriber.Subscriber.{Subscriber}
use Rattle.entry_edge.specs.Trace.{Turn, book_of, refused_of}
use Rattle.entry_edge.specs.declared.admission.Admitted.{Admitted}
use Rattle.link_schedule.specs.World.{IsShort}
use Rattle.report_text.specs.Final.{final_text}
use Rattle.subs_table.specs.Table.{IsTable}

-- what admission gives of a case, whose rows are a table
pub record IsAdmitted (rows : List Subscriber) (H : List Turn) (admitted : Admitted) : Type 0 where
  pub table : IsTable rows
  pub book : admitted.book ≡ book_of (length rows) H
  pub refused : admitted.refused.items ≡ refused_of H
  pub lines : All IsLine admitted.book
  pub each : length admitted.book ≡ length rows
  pub short : All IsShort admitted.book

-- the refused lines, and what becomes of each device that is alone with its admitted messages
abbrev pub plain_of : List Subscriber → List Turn → List ℕ
plain_of rows H = final_text rows (refused_of H) (finals_of rows (book_of (length rows) H))
