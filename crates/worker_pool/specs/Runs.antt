-- What a run is under.
use Rattle.std.specs.Prelude.{List}
use Rattle.device_types.specs.declared.message.Message.{Message}
use Rattle.device_types.specs.declared.subscriber.Subscriber.{Subscriber}
use Rattle.session_store.specs.Charter.{CharterState}

-- a table, and a book of the messages of its devices
abbrev pub charter_of : List Subscriber → List (List Message) → CharterState
charter_of rows lines = record { rows = rows; lines = lines }
