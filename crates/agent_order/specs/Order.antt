-- The messages of a device in order, and how far they are acknowledged.
use Rattle.std.specs.Prelude.{ℕ, ◌+◌, ◌-◌, nat_lt, List, length, slice_get, Option, Some, None, if◌then◌else◌}
use Rattle.device_types.specs.declared.message.Message.{Message}

-- the messages of a line, and the number of the last one that is acknowledged
pub record LineState : Type 0 where
  pub messages : List Message
  pub acked : ℕ

-- the n-th message, from 1
abbrev pub message_at : List Message → ℕ → Option Message
message_at messages n = if nat_lt 0 n then slice_get messages (n - 1) else None

-- the first message that is not acknowledged
abbrev pub unsettled_of : LineState → Option ℕ
unsettled_of line = if nat_lt line.acked (length line.messages) then Some (line.acked + 1) else None
