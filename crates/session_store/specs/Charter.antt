-- What a law is under, and the law of the machine alone.
use Rattle.std.specs.Prelude.{◌≡◌, ◌≤◌, ℕ, ◌-◌, List, [], length, All, Option, Some, slice_get}
use Rattle.device_types.specs.declared.message.Message.{Message}
use Rattle.device_types.specs.declared.step.Entry.{Entry}
use Rattle.device_types.specs.declared.subscriber.Subscriber.{Subscriber}
use Rattle.device_types.specs.Alone.{alone_of}
use Rattle.device_types.specs.Journal.{version_of}
use Rattle.device_types.specs.Line.{IsLine}
use Rattle.subs_table.specs.Table.{IsTable}

-- the rows of the subscriber table, and the messages of the device of each
pub record CharterState : Type 0 where
  pub rows : List Subscriber
  pub lines : List (List Message)

-- a line of at most 100,000 messages
abbrev pub IsShort : List Message → Type 0
IsShort line = length line ≤ 100000

-- a line for each row
pub record IsCharter (charter : CharterState) : Type 0 where
  pub table : IsTable charter.rows
  pub lines : All IsLine charter.lines
  pub short : All IsShort charter.lines
  pub each : length charter.lines ≡ length charter.rows

abbrev pub alone_with : Option Subscriber → Option (List Message) → List Entry
alone_with (Some row) (Some messages) = alone_of row messages
alone_with _ _ = []

-- Alone of device d, from 1
abbrev pub alone_in : CharterState → ℕ → List Entry
alone_in charter d = alone_with (slice_get charter.rows (d - 1)) (slice_get charter.lines (d - 1))

-- the entry at version v is entry v + 1 of Alone
abbrev pub follows_alone : CharterState → ℕ → List Entry → Entry → Type 0
follows_alone charter d journal entry = slice_get (alone_in charter d) (version_of journal) ≡ Some entry
