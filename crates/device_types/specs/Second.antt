-- The rows of a second connection (TS 23.401, 5.10.2), and what a second connection changes of a step that follows from the step table.
use Rattle.std.specs.Prelude.{ℕ, ◌==◌, Bool, not, if◌then◌else◌, ◌&&◌, List, [], ◌∷◌, ◌++◌, Option, Some, map, is_some, option_map, true, false, IsSome}
use Rattle.std.specs.Option.{option_or}
use Rattle.std.specs.List.{list_any}
use Rattle.device_types.specs.declared.down.Down.TheVariants.{Setup, SetupTwo}
use Rattle.device_types.specs.declared.effect.Effect.{Effect}
use Rattle.device_types.specs.declared.effect.Effect.TheVariants as effects
use Rattle.device_types.specs.declared.effect.GwCall.TheVariants as gateway
use Rattle.device_types.specs.declared.input.Answer.{Answer}
use Rattle.device_types.specs.declared.input.Answer.TheVariants as answers
use Rattle.device_types.specs.declared.input.Input.{Input}
use Rattle.device_types.specs.declared.input.Input.TheVariants as inputs
use Rattle.device_types.specs.declared.message.Body.{Body}
use Rattle.device_types.specs.declared.message.Body.TheVariants as bodies
use Rattle.device_types.specs.declared.message.Message.{Message}
use Rattle.device_types.specs.declared.message.Side.{Side}
use Rattle.device_types.specs.declared.nas_out.NasOut.TheVariants.{PdnReject}
use Rattle.device_types.specs.declared.session.Second.{Second}
use Rattle.device_types.specs.declared.session.Second.TheVariants as seconds
use Rattle.device_types.specs.declared.session.Session.{Session}
use Rattle.device_types.specs.declared.session.Stage.{Stage}
use Rattle.device_types.specs.declared.session.Stage.TheVariants.{AwaitSecond, AwaitSecondModify, Connecting, Connected}
use Rattle.device_types.specs.declared.step.Step.{Step}
use Rattle.device_types.specs.declared.subscriber.Subscriber.{Subscriber}
use Rattle.device_types.specs.Acts.{made, sets, enters, tells, calls, sets_up_second}
use Rattle.device_types.specs.Rule.{Rule, rule, fitting, at, here}

-- ---- tests

abbrev pub second_number : Second → ℕ
second_number seconds.None = 0
second_number seconds.Made = 1
second_number seconds.Radio = 2
second_number seconds.Accepted = 3
second_number seconds.Active = 4

abbrev pub second_at : Second → Session → Bool
second_at second s = second_number s.second == second_number second

-- the subscriber has an access point name and an address for a second connection
abbrev pub has_both : Subscriber → Bool
has_both row = is_some row.apn2 && is_some row.ip2

-- ---- rows

-- ESM cause 27: missing or unknown access point name (TS 24.301, 9.9.4.4)
abbrev pub missing_name : ℕ
missing_name = 27

-- steps 1 and 2: the session of the second connection is asked for, or the request is rejected
abbrev pub request_rules : Subscriber → Session → Message → ℕ → List Rule
request_rules row s m pti =
    rule (here s m && at Connected s && second_at seconds.None s && has_both row) (sets (λ t. record t { pti2 = pti }) ∷ calls gateway.SecondCreate ∷ enters AwaitSecond ∷ [])
    ∷ rule (here s m && at Connected s && second_at seconds.None s && not (has_both row)) (tells (PdnReject pti missing_name) ∷ [])
    ∷ []

-- steps 10 to 13: the base station's answer and the device's, in either order
abbrev pub side_rules : Session → Message → ℕ → ℕ → List Rule
side_rules s m addr teid =
    rule (here s m && at Connected s && second_at seconds.Made s) (sets (λ t. record t { side2_addr = addr; side2_teid = teid; second = seconds.Radio }) ∷ [])
    ∷ rule (here s m && at Connected s && second_at seconds.Accepted s) (sets (λ t. record t { side2_addr = addr; side2_teid = teid }) ∷ calls (gateway.SecondModify addr teid) ∷ enters AwaitSecondModify ∷ [])
    ∷ []

abbrev pub accept_rules : Session → Message → List Rule
accept_rules s m =
    rule (here s m && at Connected s && second_at seconds.Made s) (sets (λ t. record t { second = seconds.Accepted }) ∷ [])
    ∷ rule (here s m && at Connected s && second_at seconds.Radio s) (calls (gateway.SecondModify s.side2_addr s.side2_teid) ∷ enters AwaitSecondModify ∷ [])
    ∷ []

abbrev pub second_message : Subscriber → Session → Message → Body → List Rule
second_message row s m (bodies.PdnRequest pti) = request_rules row s m pti
second_message row s m (bodies.SecondDone addr teid) = side_rules s m addr teid
second_message row s m bodies.PdnAccept = accept_rules s m
second_message row s m _ = []

abbrev pub second_answer : Session → Answer → List Rule
-- steps 6 and 7
second_answer s (answers.SecondCreated sgw teid ip) =
    rule (at AwaitSecond s) (sets (λ t. record t { sgw2 = sgw; teid2 = teid; ip2 = ip; second = seconds.Made }) ∷ sets_up_second ∷ enters Connected ∷ []) ∷ []
-- step 14
second_answer s answers.SecondModified = rule (at AwaitSecondModify s) (sets (λ t. record t { second = seconds.Active }) ∷ enters Connected ∷ []) ∷ []
second_answer s _ = []

abbrev pub second_rules : Subscriber → Session → Input → List Rule
second_rules row s (inputs.Message m) = second_message row s m m.body
second_rules row s (inputs.Answer lane k answer) = second_answer s answer

-- ---- what a second connection changes of a step of the step table

-- a setup is one of both bearers
abbrev pub with_both : Session → Effect → Effect
with_both s (effects.Down (Setup station enb dl ul sgw teid eea eia key accept)) = effects.Down (SetupTwo station enb dl ul sgw teid eea eia key s.sgw2 s.teid2)
with_both s effect = effect

abbrev pub is_setup : Effect → Bool
is_setup (effects.Down (Setup station enb dl ul sgw teid eea eia key accept)) = true
is_setup _ = false

-- a service request that is granted sets both bearers up again (5.3.4.1, step 4)
abbrev pub sets_up_both : Session → Step → Step
sets_up_both s step = if list_any is_setup step.effects then made (record step.session { second = seconds.Made }) (map (with_both s) step.effects) else step

-- the base station has the second bearer too (5.3.4.1, step 7)
abbrev pub notes_side : Session → Side → Step → Step
notes_side s side step = if at Connecting s then made (record step.session { side2_addr = side.addr; side2_teid = side.teid; second = seconds.Radio }) step.effects else step

-- once the gateway knows the first bearer's side, it is told the second's (5.3.4.1, step 8)
abbrev pub tells_side : Session → Step → Step
tells_side s step =
    if second_at seconds.Radio s
    then made (record step.session { stage = AwaitSecondModify }) (step.effects ++ effects.Gateway (gateway.SecondModify s.side2_addr s.side2_teid) ∷ [])
    else step

abbrev pub becomes : Second → Step → Step
becomes second step = made (record step.session { second = second }) step.effects

abbrev pub changed_message : Session → Body → Step → Step
changed_message s bodies.Service step = sets_up_both s step
changed_message s (bodies.ContextDone addr teid (Some side)) step = notes_side s side step
changed_message s body step = step

-- a device whose session is new at the gateway, or deleted, has no second connection; one without radio bearers keeps it
abbrev pub changed_answer : Session → Answer → Step → Step
changed_answer s (answers.Created sgw teid ip) step = becomes seconds.None step
changed_answer s answers.Deleted step = becomes seconds.None step
changed_answer s answers.Freed step = becomes seconds.Made step
changed_answer s answers.Modified step = tells_side s step
changed_answer s answer step = step

abbrev pub changed_by : Session → Input → Step → Step
changed_by s (inputs.Message m) step = changed_message s m.body step
changed_by s (inputs.Answer lane k answer) step = changed_answer s answer step

-- nothing is changed where the session before the step has no second connection
abbrev pub changed : Session → Input → Step → Step
changed s input step = if second_at seconds.None s then step else changed_by s input step

-- the step of a row of the second connection, where one fits; otherwise the step of the step table with its changes, where there is one
abbrev pub second_of : Subscriber → Session → Input → Option Step → Option Step
second_of row s input base = option_or (fitting (second_rules row s input) s) (option_map (changed s input) base)

-- ---- the device of a row

abbrev pub HasBoth : Subscriber → Type 0
HasBoth row = IsSome row.apn2 × IsSome row.ip2

abbrev pub MayAwait : Subscriber → Stage → Type 0
MayAwait row AwaitSecond = HasBoth row
MayAwait row AwaitSecondModify = HasBoth row
MayAwait row _ = Unit {0}

abbrev pub MayHave : Subscriber → Second → Type 0
MayHave row seconds.None = Unit {0}
MayHave row _ = HasBoth row

-- a session that awaits the second connection, or has one, is that of a row with an access point name and an address for it
abbrev pub MayBeOf : Subscriber → Session → Type 0
MayBeOf row s = MayAwait row s.stage × MayHave row s.second
