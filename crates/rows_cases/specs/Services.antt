-- A device that is not attached, and sends Service Requests.
use Rattle.std.specs.Prelude.{ℕ, List, [], ◌∷◌, map}
use Rattle.std.specs.List.{range_with_len}
use Rattle.device_types.specs.declared.message.Body.TheVariants as bodies
use Rattle.device_types.specs.declared.message.Message.{Message}
use Rattle.device_types.specs.declared.subscriber.Subscriber.{Subscriber}
use Rattle.session_store.specs.Charter.{CharterState}

abbrev pub service : ℕ → Message
service n = record { number = n; station = 1; enb = 7; body = bodies.Service }

-- so many of them
unfoldable pub services : ℕ → List Message
services count = map service (range_with_len 1 count)

-- the charter of this device, which sends eight
unfoldable pub service_charter : Subscriber → CharterState
service_charter row = record { rows = row ∷ []; lines = services 8 ∷ [] }
