-- What goes through the channel.
use Rattle.std.specs.Prelude.{◌<◌, ℕ, length}
use Rattle.device_types.specs.declared.event.Lane.{Lane}
use Rattle.device_types.specs.declared.input.Input.TheVariants as inputs
use Rattle.device_types.specs.declared.input.Offer.{Offer}
use Rattle.device_types.specs.declared.input.Offer.TheVariants.{Accepted, Repeat, Ahead}
use Rattle.pool_rows.specs.Seats.{IsOwnOf}
use Rattle.session_store.specs.Charter.{CharterState}
use Rattle.session_store.specs.Rows.{IsDevice}
use Rattle.session_store.specs.Seen.{IsAsked, asked_of}
use Rattle.pool_work.specs.declared.line.Packet.{Packet}

-- an input of a device, about which a row can be asked: the book's message of its number, or the answer to the call of its number
pub record IsPacket (charter : CharterState) (packet : Packet) : Type 0 where
  pub device : IsDevice (length charter.rows) packet.d.0
  pub asked : IsAsked (asked_of packet.input)
  pub own : IsOwnOf charter packet.d.0 packet.input

-- what is said to call k of a lane of a device: its own answer, or that calls before it have not come
abbrev pub IsSaid : CharterState → ℕ → Lane → ℕ → Offer → Type 0
IsSaid charter d lane k (Accepted answer) = IsOwnOf charter d (inputs.Answer lane k answer)
IsSaid charter d lane k (Repeat answer) = IsOwnOf charter d (inputs.Answer lane k answer)
IsSaid charter d lane k (Ahead last) = last < k
