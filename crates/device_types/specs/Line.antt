-- The messages of a device in order.
use Rattle.std.specs.Prelude.{◌≡◌, ℕ, List, length, map, All}
use Rattle.std.specs.List.{range_with_len}
use Rattle.device_types.specs.declared.message.Message.{Message}
use Rattle.device_types.specs.Message.{IsMessage}

abbrev pub number_of : Message → ℕ
number_of message = message.number

-- they are numbered from 1, without gaps
abbrev pub IsNumbered : List Message → Type 0
IsNumbered messages = map number_of messages ≡ range_with_len 1 (length messages)

-- a line of a book
pub record IsLine (messages : List Message) : Type 0 where
  pub numbers : IsNumbered messages
  pub ranges : All IsMessage messages
