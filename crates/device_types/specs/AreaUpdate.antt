-- The rows of the tracking area update (TS 23.401, 5.3.3).
use Rattle.std.specs.Prelude.{not, ◌&&◌, List, [], ◌∷◌}
use Rattle.device_types.specs.declared.message.Body.{Body}
use Rattle.device_types.specs.declared.message.Body.TheVariants as bodies
use Rattle.device_types.specs.declared.message.Message.{Message}
use Rattle.device_types.specs.declared.nas_out.NasOut.TheVariants.{AreaReject, AreaAccept}
use Rattle.device_types.specs.declared.session.Session.{Session}
use Rattle.device_types.specs.declared.session.Stage.TheVariants.{Connected}
use Rattle.device_types.specs.declared.subscriber.Subscriber.{Subscriber}
use Rattle.device_types.specs.Acts.{sets, tells, tells_to, moves_connection, frees_bearers, normal_release}
use Rattle.device_types.specs.Rule.{Rule, rule, at, settled, held, here, forbidden}

abbrev pub area_message : Subscriber → Session → Message → Body → List Rule
-- first, of an idle device on any connection; then later ones, on its own
area_message row s m (bodies.Area first plmn tac) =
    rule (first && held s && forbidden row tac) (moves_connection m.station m.enb ∷ tells (AreaReject 12) ∷ frees_bearers normal_release ∷ [])
    ∷ rule (first && held s && not (forbidden row tac)) (moves_connection m.station m.enb ∷ sets (λ t. record t { plmn = plmn; tac = tac }) ∷ tells AreaAccept ∷ frees_bearers normal_release ∷ [])
    ∷ rule (first && settled s && not (held s)) (tells_to m.station m.enb (AreaReject 9) ∷ [])
    ∷ rule (not first && here s m && at Connected s && forbidden row tac) (tells (AreaReject 12) ∷ [])
    ∷ rule (not first && here s m && at Connected s && not (forbidden row tac)) (sets (λ t. record t { plmn = plmn; tac = tac }) ∷ tells AreaAccept ∷ [])
    ∷ []
area_message row s m _ = []
