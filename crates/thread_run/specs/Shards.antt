-- The closed shards of a run.
use Rattle.std.specs.Prelude.{◌≡◌, ℕ, List, length}
use Rattle.case_form.specs.Case.{rows_of, trace_of}
use Rattle.case_form.specs.Lines.{lines_of}
use Rattle.case_form.specs.declared.case.TraceLine.{TraceLine}
use Rattle.device_machine.specs.Ends.{finals_of}
use Rattle.device_types.specs.declared.event.Lane.{Lane}
use Rattle.device_types.specs.declared.subscriber.Subscriber.{Subscriber}
use Rattle.device_types.specs.Event.{IsCallLane}
use Rattle.device_types.specs.Journal.{effects_of}
use Rattle.entry_edge.specs.Trace.{history, book_of}
use Rattle.pool_rows.specs.Shared.{AreClosedPeers, AreClosedRows, closed_calls, closed_journal}
use Rattle.session_store.specs.Charter.{CharterState, alone_in}
use Rattle.session_store.specs.Rows.{IsDevice}
use Rattle.worker_pool.specs.declared.run.Ran.{Ran}
use Rattle.worker_pool.specs.Runs.{charter_of}

-- the rows of a case, and the book that admission gives of its trace
abbrev pub charter_in : List Subscriber → List TraceLine → CharterState
charter_in rows trace = charter_of rows (book_of (length rows) (history rows trace))

-- the shards of a store and of peers under that charter, each with a legal history: the journal of each device is the whole of the machine
-- alone, and its calls to the gateway and to the subscriber server are accepted whole
pub record AreShardsOf (charter : CharterState) (ran : Ran) : Type 0 where
  pub finals : ran.finals ≡ finals_of charter.rows charter.lines
  pub store : AreClosedRows charter ran.store.items
  pub peers : AreClosedPeers charter ran.peers.items
  pub journals : (d : ℕ) → IsDevice (length charter.rows) d → closed_journal ran.store.items d ≡ alone_in charter d
  pub lanes : (d : ℕ) (lane : Lane) → IsDevice (length charter.rows) d → IsCallLane lane → closed_calls ran.peers.items d lane ≡ effects_of lane (alone_in charter d)

-- of the case that a text is
abbrev pub AreShardsBy : List ℕ → Ran → Type 0
AreShardsBy octets ran = AreShardsOf (charter_in (rows_of (lines_of octets)) (trace_of (lines_of octets))) ran
