-- Both peers, by lane.
use Rattle.std.specs.Prelude.{ℕ, Bool, true, false, List, [], map}
use Rattle.device_types.specs.declared.effect.Effect.{Effect}
use Rattle.device_types.specs.declared.effect.Effect.TheVariants as effects
use Rattle.device_types.specs.declared.effect.GwCall.{GwCall}
use Rattle.device_types.specs.declared.effect.SubCall.{SubCall}
use Rattle.device_types.specs.declared.event.Lane.{Lane}
use Rattle.device_types.specs.declared.event.Lane.TheVariants as lane
use Rattle.peer_calls.specs.Calls.{calls_of, after_offer}
use Rattle.shard_parts.specs.declared.peers.Peers.{Peers}

-- an effect is a call of a peer
abbrev pub is_call : Effect → Bool
is_call (effects.Down down) = false
is_call (effects.Gateway call) = true
is_call (effects.Subscriber call) = true

abbrev pub lane_of : Effect → Lane
lane_of (effects.Down down) = lane.Down
lane_of (effects.Gateway call) = lane.Gateway
lane_of (effects.Subscriber call) = lane.Subscriber

-- the calls that were accepted of device d on a lane
abbrev pub lists_on : Peers → Lane → ℕ → List Effect
lists_on peers lane.Down d = []
lists_on peers lane.Gateway d = map effects.Gateway (calls_of peers.gateway d)
lists_on peers lane.Subscriber d = map effects.Subscriber (calls_of peers.subscriber d)

-- a call of the other peer changes nothing
abbrev pub gateway_after : List (List GwCall) → ℕ → ℕ → Effect → List (List GwCall)
gateway_after lists d k (effects.Down down) = lists
gateway_after lists d k (effects.Gateway call) = after_offer lists d k call
gateway_after lists d k (effects.Subscriber call) = lists

abbrev pub subscriber_after : List (List SubCall) → ℕ → ℕ → Effect → List (List SubCall)
subscriber_after lists d k (effects.Down down) = lists
subscriber_after lists d k (effects.Gateway call) = lists
subscriber_after lists d k (effects.Subscriber call) = after_offer lists d k call
