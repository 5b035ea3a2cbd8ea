-- The call whose answer is awaited: in a stage, and among the effects of a step.
use Rattle.std.specs.Prelude.{List, [], ◌∷◌, Option, option_map}
use Rattle.std.specs.List.{find}
use Rattle.device_types.specs.declared.effect.Effect.{Effect}
use Rattle.device_types.specs.declared.effect.Effect.TheVariants as effects
use Rattle.device_types.specs.declared.effect.GwCall.TheVariants as gateway
use Rattle.device_types.specs.declared.effect.SubCall.TheVariants as subscriber
use Rattle.device_types.specs.declared.event.Lane.{Lane}
use Rattle.device_types.specs.declared.event.Lane.TheVariants as lanes
use Rattle.device_types.specs.declared.session.Session.{Session}
use Rattle.device_types.specs.declared.session.Stage.{Stage}
use Rattle.device_types.specs.declared.session.Stage.TheVariants.{AwaitVectors, AwaitLocation, AwaitCreate, AwaitModify, AwaitRelease, AwaitDelete, AwaitSecond, AwaitSecondModify}
use Rattle.device_types.specs.Journal.{is_awaited}

-- with the base station's addresses and tunnels, which the session has
abbrev pub awaited_in : Stage → Session → List Effect
awaited_in AwaitVectors s = effects.Subscriber subscriber.Vectors ∷ []
awaited_in AwaitLocation s = effects.Subscriber subscriber.Location ∷ []
awaited_in AwaitCreate s = effects.Gateway gateway.Create ∷ []
awaited_in AwaitModify s = effects.Gateway (gateway.Modify s.side_addr s.side_teid) ∷ []
awaited_in AwaitRelease s = effects.Gateway gateway.Release ∷ []
awaited_in AwaitDelete s = effects.Gateway gateway.Delete ∷ []
awaited_in AwaitSecond s = effects.Gateway gateway.SecondCreate ∷ []
awaited_in AwaitSecondModify s = effects.Gateway (gateway.SecondModify s.side2_addr s.side2_teid) ∷ []
awaited_in _ s = []

-- the one call whose answer a session awaits, or none
abbrev pub awaited_by : Session → List Effect
awaited_by s = awaited_in s.stage s

abbrev pub lane_of : Effect → Lane
lane_of (effects.Down down) = lanes.Down
lane_of (effects.Gateway call) = lanes.Gateway
lane_of (effects.Subscriber call) = lanes.Subscriber

-- the lane of the call whose answer is awaited, or none
abbrev pub awaited_lane : List Effect → Option Lane
awaited_lane effects = option_map lane_of (find is_awaited effects)
