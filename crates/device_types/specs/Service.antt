-- The rows of the service request (TS 23.401, 5.3.4.1), of data that waits (5.3.4.3) and of the release of the S1 connection (5.3.5).
use Rattle.std.specs.Prelude.{◌^◌, ◌-◌, min, length, not, if◌then◌else◌, ◌&&◌, ◌||◌, List, [], ◌∷◌}
use Rattle.device_types.specs.declared.down.Accept.TheVariants.{No}
use Rattle.device_types.specs.declared.effect.GwCall.TheVariants as gateway
use Rattle.device_types.specs.declared.input.Answer.{Answer}
use Rattle.device_types.specs.declared.input.Answer.TheVariants as answers
use Rattle.device_types.specs.declared.message.Body.{Body}
use Rattle.device_types.specs.declared.message.Body.TheVariants as bodies
use Rattle.device_types.specs.declared.message.Message.{Message}
use Rattle.device_types.specs.declared.nas_out.NasOut.TheVariants.{ServiceReject}
use Rattle.device_types.specs.declared.session.Bearer.TheVariants as bearers
use Rattle.device_types.specs.declared.session.Link.TheVariants.{Off}
use Rattle.device_types.specs.declared.session.Session.{Session}
use Rattle.device_types.specs.declared.session.Stage.TheVariants.{Detached, AwaitModify, Connecting, Connected, AwaitRelease, Releasing, Idle}
use Rattle.device_types.specs.Acts.{sets, enters, tells_to, sets_up, pages, releases, calls, moves_connection, frees_bearers, unspecified}
use Rattle.device_types.specs.Rule.{Rule, rule, at, settled, held, here}

abbrev pub service_message : Session → Message → Body → List Rule
-- steps 1 to 4: the request, on any connection
service_message s m bodies.Service =
    rule (held s) (moves_connection m.station m.enb ∷ sets_up No ∷ enters Connecting ∷ [])
    ∷ rule (settled s && not (held s)) (tells_to m.station m.enb (ServiceReject 10) ∷ [])
    ∷ []
-- steps 7 and 8
service_message s m (bodies.ContextDone addr teid second) =
    rule (here s m && at Connecting s) (sets (λ t. record t { side_addr = addr; side_teid = teid }) ∷ calls (gateway.Modify addr teid) ∷ enters AwaitModify ∷ []) ∷ []
service_message s m bodies.ContextFailed = rule (here s m && at Connecting s) (frees_bearers unspecified ∷ []) ∷ []
-- 5.3.4.3, step 3: an idle device is paged
service_message s m bodies.Data = rule (at Idle s) (pages ∷ []) ∷ []
-- 5.3.5, steps 1 and 2
service_message s m (bodies.ReleaseAsked cause) = rule (here s m && (at Connecting s || at Connected s)) (frees_bearers cause ∷ []) ∷ []
-- 5.3.5, step 6
service_message s m bodies.Released =
    rule (here s m && at Releasing s) (sets (λ t. record t { link = Off }) ∷ enters (if s.registered then Idle else Detached) ∷ []) ∷ []
-- TS 36.413, 8.9
service_message s m (bodies.Capability octets) = rule (here s m && settled s) (sets (λ t. record t { radio = min (length octets) (2 ^ 32 - 1) }) ∷ []) ∷ []
service_message s m _ = []

abbrev pub service_answer : Session → Answer → List Rule
-- 5.3.5, steps 3 and 4
service_answer s answers.Freed = rule (at AwaitRelease s) (sets (λ t. record t { bearer = bearers.Made }) ∷ releases ∷ []) ∷ []
service_answer s _ = []
