-- What the laws of the step table speak of besides: the messages that need no connection of the device, and an area in a list.
use Rattle.std.specs.Prelude.{◌≡◌, ℕ, Bool, true, false, List, Some, slice_get}
use Rattle.device_types.specs.declared.message.Body.{Body}
use Rattle.device_types.specs.declared.message.Body.TheVariants as bodies
use Rattle.device_types.specs.declared.message.Message.{Message}
use Rattle.device_types.specs.declared.session.Link.TheVariants.{On}
use Rattle.device_types.specs.declared.session.Session.{Session}

-- a device comes with an attach, a service request, or a tracking area update or a detach that is the first message of its connection;
-- and the gateway's notice comes on none
abbrev pub comes : Body → Bool
comes (bodies.Attach plmn tac eea eia pti) = true
comes bodies.Service = true
comes (bodies.Area first plmn tac) = first
comes (bodies.Detach first off) = first
comes bodies.Data = true
comes _ = false

-- the session has no S1 connection, or another one than that of the message
abbrev pub IsElsewhere : Session → Message → Type 0
IsElsewhere s m = s.link ≡ On m.station m.enb → ⊥

-- the area is one of these
abbrev pub IsListed : ℕ → List ℕ → Type 0
IsListed area areas = (i : ℕ) × (slice_get areas i ≡ Some area)
