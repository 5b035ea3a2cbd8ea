-- A shard of the peers: what they have accepted is that of its turns, which are legal and lawful.
use Rattle.std.specs.Prelude.{◌≡◌, ℕ, ◌≤◌, ◌-◌, true, List, length, Some, slice_get}
use Rattle.device_types.specs.declared.effect.Effect.{Effect}
use Rattle.device_types.specs.declared.effect.Effect.TheVariants as effects
use Rattle.device_types.specs.declared.event.Lane.TheVariants as lane
use Rattle.device_types.specs.declared.subscriber.DeviceId.{DeviceId}
use Rattle.device_types.specs.Journal.{effects_of}
use Rattle.session_store.specs.Charter.{CharterState, alone_in}
use Rattle.session_store.specs.Rows.{IsDevice}
use Rattle.session_store.specs.Shards.{shard_of}
use Rattle.store_shared.specs.declared.turn.Turn.{Turn}
use Rattle.store_shared.specs.declared.turn.TurnCall.TheVariants as calls
use Rattle.store_shared.specs.declared.turn.TurnAnswer.{TurnAnswer}
use Rattle.shard_parts.specs.BothPeers.{is_call, lane_of}
use Rattle.store_shared.specs.Legal.{ArePeers, IsPeerHistory, AreAcceptedIn}
use Rattle.shard_parts.specs.declared.peers.Peers.{Peers}

pub record IsPeerShard (charter : CharterState) (shard : ℕ) (peers : Peers) (turns : List Turn) : Type 0 where
  pub gateway : ArePeers effects.Gateway peers.gateway lane.Gateway (length charter.rows) turns
  pub subscriber : ArePeers effects.Subscriber peers.subscriber lane.Subscriber (length charter.rows) turns
  pub legal : IsPeerHistory charter shard turns
  pub lawful : AreAcceptedIn charter turns

-- a call is effect k of its lane of Alone of a device of that shard
pub record IsOffered (charter : CharterState) (shard d k : ℕ) (call : Effect) : Type 0 where
  pub device : IsDevice (length charter.rows) d
  pub here : shard_of d ≡ shard
  pub called : is_call call ≡ true
  pub least : 1 ≤ k
  pub most : k ≤ 268435455
  pub law : slice_get (effects_of (lane_of call) (alone_in charter d)) (k - 1) ≡ Some call

abbrev pub offer_by : ℕ → DeviceId → ℕ → Effect → TurnAnswer → Turn
offer_by seat d k call answer = record { seat = seat; device = d; call = calls.Offer k call; answer = answer }
