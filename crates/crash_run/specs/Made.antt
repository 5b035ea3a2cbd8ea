-- The entries of the machines alone.
use Rattle.std.specs.Prelude.{◌≡◌, ℕ, List, map, Option, slice_get}
use Rattle.std.specs.List.{zip}
use Rattle.device_types.specs.declared.message.Message.{Message}
use Rattle.device_types.specs.declared.step.Entry.{Entry}
use Rattle.device_types.specs.declared.subscriber.Subscriber.{Subscriber}
use Rattle.device_types.specs.Alone.{alone_of}
use Rattle.session_store.specs.Charter.{CharterState, alone_in}

-- of each device: its row, and its line of messages
abbrev pub alone_each : List Subscriber → List (List Message) → List (List Entry)
alone_each rows lines = map (λ device. alone_of device.0 device.1) (zip rows lines)

-- entry v of device d, from 0
abbrev pub entry_at : CharterState → ℕ → ℕ → Option Entry
entry_at charter d v = slice_get (alone_in charter d) v

abbrev pub AreMade : CharterState → List (List Entry) → Type 0
AreMade charter entries = entries ≡ alone_each charter.rows charter.lines
