-- What the code keeps of a device that is alone.
use Rattle.std.specs.Prelude.{◌≡◌, ℕ, List, length, map, Option, Some, None}
use Rattle.device_types.specs.declared.effect.Effect.{Effect}
use Rattle.device_types.specs.declared.effect.Effect.TheVariants as effects
use Rattle.device_types.specs.declared.event.Lane.TheVariants as lanes
use Rattle.device_types.specs.declared.message.Message.{Message}
use Rattle.device_types.specs.declared.session.Stage.{Stage}
use Rattle.device_types.specs.declared.session.Stage.TheVariants.{AwaitVectors, AwaitLocation, AwaitCreate, AwaitModify, AwaitRelease, AwaitDelete, AwaitSecond, AwaitSecondModify}
use Rattle.device_types.specs.declared.subscriber.Subscriber.{Subscriber}
use Rattle.device_types.specs.Alone.{alone_to}
use Rattle.device_types.specs.Journal.{effects_of, taken_count}
use Rattle.device_types.specs.Numbers.{IsWithin}
use Rattle.device_types.specs.Session.{opening}
use Rattle.peer_calls.specs.Calls.{calls_of}
use Rattle.crash_run.specs.declared.course.Course.{Course}
use Rattle.crash_run.specs.declared.course.Peer.{Peer}
use Rattle.crash_run.specs.declared.course.Peer.TheVariants.{Gateway, Server}
use Rattle.crash_run.specs.declared.peers.Peers.{Peers}

-- the peer whose answer a stage awaits
abbrev pub peer_at : Stage → Option Peer
peer_at AwaitVectors = Some Server
peer_at AwaitLocation = Some Server
peer_at AwaitCreate = Some Gateway
peer_at AwaitModify = Some Gateway
peer_at AwaitRelease = Some Gateway
peer_at AwaitDelete = Some Gateway
peer_at AwaitSecond = Some Gateway
peer_at AwaitSecondModify = Some Gateway
peer_at _ = None

-- peers that accepted these calls of the device of that number
pub record HasPeers (d : ℕ) (gateway server : List Effect) (peers : Peers) : Type 0 where
  pub gateway_within : IsWithin (length peers.gateway) d
  pub server_within : IsWithin (length peers.server) d
  pub gateway_is : map effects.Gateway (calls_of peers.gateway d) ≡ gateway
  pub server_is : map effects.Subscriber (calls_of peers.server d) ≡ server

-- what is known behind so many entries
pub record IsCourse (row : Subscriber) (messages : List Message) (v : ℕ) (course : Course) : Type 0 where
  pub opening_is : course.opening ≡ opening
  pub entries_are : course.entries ≡ alone_to row messages v
  pub taken_is : course.taken ≡ taken_count (alone_to row messages v)
  pub peers_have : HasPeers row.number (effects_of lanes.Gateway (alone_to row messages v)) (effects_of lanes.Subscriber (alone_to row messages v)) course.peers
