-- The rows of attach (TS 23.401, 5.3.2.1).
use Rattle.std.specs.Prelude.{true, false, not, ◌&&◌, ◌||◌, List, [], ◌∷◌}
use Rattle.std.specs.Str.{bytes_eq}
use Rattle.device_types.specs.declared.down.Accept.TheVariants.{Yes}
use Rattle.device_types.specs.declared.effect.GwCall.TheVariants as gateway
use Rattle.device_types.specs.declared.effect.SubCall.TheVariants as subscriber
use Rattle.device_types.specs.declared.input.Answer.{Answer}
use Rattle.device_types.specs.declared.input.Answer.TheVariants as answers
use Rattle.device_types.specs.declared.message.Body.{Body}
use Rattle.device_types.specs.declared.message.Body.TheVariants as bodies
use Rattle.device_types.specs.declared.message.Message.{Message}
use Rattle.device_types.specs.declared.nas_out.NasOut.TheVariants.{AuthRequest, AuthReject, SecurityCommand, AttachReject}
use Rattle.device_types.specs.declared.session.Bearer.TheVariants as bearers
use Rattle.device_types.specs.declared.session.Session.{Session}
use Rattle.device_types.specs.declared.session.Stage.TheVariants.{AwaitVectors, Authenticating, Securing, AwaitLocation, AwaitCreate, Accepting, AcceptingContext, AcceptingDone, AwaitModify, Connected}
use Rattle.device_types.specs.declared.subscriber.Subscriber.{Subscriber}
use Rattle.device_types.specs.Acts.{sets, enters, tells, sets_up, calls, asks, moves_connection, drops_ue, normal_release, authentication_failure, unspecified}
use Rattle.device_types.specs.Keys.{full}
use Rattle.device_types.specs.Rule.{Rule, rule, at, settled, attaching, here, forbidden}

abbrev pub attach_message : Subscriber → Session → Message → Body → List Rule
-- steps 1 to 3: the request, on any connection
attach_message row s m (bodies.Attach plmn tac eea eia pti) =
    rule (settled s && forbidden row tac) (moves_connection m.station m.enb ∷ tells (AttachReject 12) ∷ drops_ue normal_release ∷ [])
    ∷ rule (settled s && not (forbidden row tac)) (moves_connection m.station m.enb ∷ sets (λ t. record t { plmn = plmn; tac = tac; eea = eea; eia = eia; pti = pti; registered = false }) ∷ asks subscriber.Vectors ∷ enters AwaitVectors ∷ [])
    ∷ []
-- step 5a: authentication, and the choice of algorithms
attach_message row s m (bodies.Response res) =
    rule (here s m && at Authenticating s && bytes_eq res s.res) (tells (SecurityCommand s.eea s.eia) ∷ enters Securing ∷ [])
    ∷ rule (here s m && at Authenticating s && not (bytes_eq res s.res)) (tells AuthReject ∷ drops_ue authentication_failure ∷ [])
    ∷ []
-- step 8: the subscription is asked for
attach_message row s m bodies.Secured = rule (here s m && at Securing s) (asks subscriber.Location ∷ enters AwaitLocation ∷ []) ∷ []
attach_message row s m bodies.SecurityRefused = rule (here s m && at Securing s) (drops_ue unspecified ∷ []) ∷ []
-- steps 20 to 23: the base station's answer and the device's, in either order
attach_message row s m (bodies.ContextDone addr teid second) =
    rule (here s m && at Accepting s) (sets (λ t. record t { side_addr = addr; side_teid = teid }) ∷ enters AcceptingContext ∷ [])
    ∷ rule (here s m && at AcceptingDone s) (sets (λ t. record t { side_addr = addr; side_teid = teid }) ∷ calls (gateway.Modify addr teid) ∷ enters AwaitModify ∷ [])
    ∷ []
attach_message row s m bodies.AttachDone =
    rule (here s m && at Accepting s) (enters AcceptingDone ∷ [])
    ∷ rule (here s m && at AcceptingContext s) (calls (gateway.Modify s.side_addr s.side_teid) ∷ enters AwaitModify ∷ [])
    ∷ []
attach_message row s m bodies.ContextFailed = rule (here s m && (at Accepting s || at AcceptingDone s)) (drops_ue unspecified ∷ []) ∷ []
attach_message row s m (bodies.ReleaseAsked cause) = rule (here s m && attaching s) (drops_ue cause ∷ []) ∷ []
attach_message row s m _ = []

abbrev pub attach_answer : Session → Answer → List Rule
-- step 5a: the authentication vector
attach_answer s (answers.Vectors rand autn res key) =
    rule (at AwaitVectors s) (sets (λ t. record t { res = res; key = full key }) ∷ tells (AuthRequest rand autn) ∷ enters Authenticating ∷ []) ∷ []
-- steps 11 and 12: the subscription, and then the session at the gateway
attach_answer s (answers.Located dl ul) =
    rule (at AwaitLocation s) (sets (λ t. record t { dl = dl; ul = ul }) ∷ calls gateway.Create ∷ enters AwaitCreate ∷ []) ∷ []
-- steps 16 and 17
attach_answer s (answers.Created sgw teid ip) =
    rule (at AwaitCreate s) (sets (λ t. record t { sgw = sgw; teid = teid; ip = ip; bearer = bearers.Made }) ∷ sets_up (Yes s.plmn s.tac s.pti ip) ∷ enters Accepting ∷ []) ∷ []
-- step 24; also the end of a service request (5.3.4.1, step 12)
attach_answer s answers.Modified =
    rule (at AwaitModify s) (sets (λ t. record t { bearer = bearers.Active; registered = true }) ∷ enters Connected ∷ []) ∷ []
attach_answer s _ = []
