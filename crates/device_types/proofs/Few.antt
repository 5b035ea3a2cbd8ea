-- A step makes at most four effects: an act makes one at most, a row has four acts at most, and where a change adds one there was none.
use Rattle.std.proofs.Common.{ℕ, ◌+◌, ◌≤◌, ◌==◌, ◌&&◌, ◌⊎◌, inl, inr, ⊎_elim, Bool, true, false, cond, List, [], ◌∷◌, ◌++◌, length, Some, lit≤, arith, length-append}
use Rattle.std.specs.Prelude.{unwrap_or, map, IfSome}
use Rattle.std.specs.List.{list_any}
use Rattle.std.proofs.lemmas.List.{length-map}
use Rattle.std.proofs.lemmas.Option.{IfSome_then}
use Rattle.device_types.specs.declared.cause.CauseCode.{CauseCode}
use Rattle.device_types.specs.declared.down.Down.TheVariants.{Release}
use Rattle.device_types.specs.declared.effect.Effect.TheVariants as effects
use Rattle.device_types.specs.declared.effect.GwCall.TheVariants as gateway
use Rattle.device_types.specs.declared.input.Answer.{Answer}
use Rattle.device_types.specs.declared.input.Answer.TheVariants as answers
use Rattle.device_types.specs.declared.input.Input.{Input}
use Rattle.device_types.specs.declared.input.Input.TheVariants as inputs
use Rattle.device_types.specs.declared.message.Body.{Body}
use Rattle.device_types.specs.declared.message.Body.TheVariants as bodies
use Rattle.device_types.specs.declared.message.Message.{Message}
use Rattle.device_types.specs.declared.nas_out.NasOut.{NasOut}
use Rattle.device_types.specs.declared.nas_out.NasOut.TheVariants.{DetachAccept}
use Rattle.device_types.specs.declared.session.Bearer.{Bearer}
use Rattle.device_types.specs.declared.session.Bearer.TheVariants as bearers
use Rattle.device_types.specs.declared.session.Link.{Link}
use Rattle.device_types.specs.declared.session.Link.TheVariants.{Off, On}
use Rattle.device_types.specs.declared.session.Second.TheVariants as seconds
use Rattle.device_types.specs.declared.session.Session.{Session}
use Rattle.device_types.specs.declared.session.Stage.TheVariants as stages
use Rattle.device_types.specs.declared.step.Step.{Step}
use Rattle.device_types.specs.declared.subscriber.Subscriber.{Subscriber}
use Rattle.device_types.specs.Acts.{Act, made, follow, run, tells_unless, tells_to, moves_connection, left_behind, drops_ue, drops_at, frees_bearers, frees_at, normal_release, authentication_failure, detach, unspecified}
use Rattle.device_types.specs.AreaUpdate.{area_message}
use Rattle.device_types.specs.Attach.{attach_message, attach_answer}
use Rattle.device_types.specs.Detach.{detach_message, detach_answer, leaves_at, leaves}
use Rattle.device_types.specs.Rule.{Rule, fitting, at}
use Rattle.device_types.specs.Second.{second_at, second_message, second_rules, with_both, is_setup, changed_message, changed_answer, changed}
use Rattle.device_types.specs.Service.{service_message, service_answer}
use Rattle.device_types.specs.StepTable.{step_table, table_step, step_of}
use Rattle.device_types.proofs.Steps.{RulesMake, of_some, second_makes, step_makes, one_of, served_step, modified_makes}

-- ---- acts

abbrev One : Act → Type 0
One act = (s : Session) → length (act s).effects ≤ 1

abbrev Each : List Act → Type 0
Each [] = Unit {0}
Each (act ∷ acts) = One act × Each acts

follow_few : (acts : List Act) (step : Step) → Each acts → length (follow step acts).effects ≤ length step.effects + length acts
follow_few [] step k = omega arith
follow_few (act ∷ acts) step k =
    let rest = follow_few acts (act step.session) k.1 in
    let first = k.0 step.session in
    let sum = length-append step.effects (follow (act step.session) acts).effects in
    omega arith

run_few : (acts : List Act) (s : Session) → Each acts → length (run acts s).effects ≤ length acts
run_few [] s k = lit≤ tt
run_few (act ∷ acts) s k = let rest = follow_few acts (act s) k.1 in let first = k.0 s in omega arith

unless : (off : Bool) (nas : NasOut) → One (tells_unless off nas)
unless true nas s = lit≤ tt
unless false nas s = lit≤ tt

left : (link : Link) (station enb : ℕ) → length (left_behind link station enb) ≤ 1
left Off station enb = lit≤ tt
left (On was_station was_enb) station enb =
    elim ((was_station == station) && (was_enb == enb)) as (λ b. length (cond b [] (effects.Down (Release was_station was_enb normal_release) ∷ [])) ≤ 1)
    [ true ↦ lit≤ tt | false ↦ lit≤ tt ]

moved : (station enb : ℕ) → One (moves_connection station enb)
unfolding moves_connection
moved station enb s = left s.link station enb

dropped_at : (bearer : Bearer) → One (drops_at bearer)
dropped_at bearers.None s = lit≤ tt
dropped_at bearers.Made s = lit≤ tt
dropped_at bearers.Active s = lit≤ tt

dropped : (cause : CauseCode) → One (drops_ue cause)
unfolding drops_ue
dropped cause s = dropped_at s.bearer (record s { cause = cause; registered = false })

freed_at : (bearer : Bearer) → One (frees_at bearer)
freed_at bearers.None s = lit≤ tt
freed_at bearers.Made s = lit≤ tt
freed_at bearers.Active s = lit≤ tt

freed : (cause : CauseCode) → One (frees_bearers cause)
unfolding frees_bearers
freed cause s = freed_at s.bearer (record s { cause = cause })

left_few : (bearer : Bearer) (off : Bool) (s : Session) → length (run (leaves_at bearer off) s).effects ≤ 3
left_few bearers.None off s = let few = run_few (leaves_at bearers.None off) s (unless off DetachAccept, (dropped detach, tt)) in omega arith
left_few bearers.Made off s = lit≤ tt
left_few bearers.Active off s = lit≤ tt

moved_few : (station enb : ℕ) (off : Bool) (s : Session) → length (run (moves_connection station enb ∷ leaves off ∷ []) s).effects ≤ 4
moved_few station enb off s =
    let first = moved station enb s in
    let n = (moves_connection station enb s).session in
    let rest = left_few n.bearer off n in
    let sum = length-append (moves_connection station enb s).effects (leaves off n).effects in
    omega arith

alone_few : (off : Bool) (s : Session) → length (run (leaves off ∷ []) s).effects ≤ 4
alone_few off s = let few = left_few s.bearer off s in omega arith

greeted : (off : Bool) (station enb : ℕ) (s : Session) → length (run (cond off [] (tells_to station enb DetachAccept ∷ [])) s).effects ≤ 4
greeted true station enb s = lit≤ tt
greeted false station enb s = lit≤ tt

-- ---- the table

abbrev RuleFew : Rule → Type 0
RuleFew r = (Each r.acts × (length r.acts ≤ 4)) ⊎ ((s : Session) → length (run r.acts s).effects ≤ 4)

abbrev RulesFew : List Rule → Type 0
RulesFew [] = Unit {0}
RulesFew (r ∷ rs) = RuleFew r × RulesFew rs

rule_few : (r : Rule) (s : Session) → RuleFew r → length (run r.acts s).effects ≤ 4
rule_few r s k =
    ⊎_elim
    (λ (a : Each r.acts × (length r.acts ≤ 4)). let few = run_few r.acts s a.0 in let low = a.1 in omega arith)
    (λ (b : (t : Session) → length (run r.acts t).effects ≤ 4). b s)
    k

rules_few : (rs : List Rule) (s : Session) → RulesFew rs → length (unwrap_or (fitting rs s) (made s [])).effects ≤ 4
rules_few [] s k = lit≤ tt
rules_few (r ∷ rs) s k =
    elim r.fits as (λ b. length (unwrap_or (cond b (Some (run r.acts s)) (fitting rs s)) (made s [])).effects ≤ 4)
    [ true ↦ rule_few r s k.0 | false ↦ rules_few rs s k.1 ]

message : (row : Subscriber) (s : Session) (m : Message) (b : Body) → RulesFew (attach_message row s m b ++ service_message s m b ++ area_message row s m b ++ detach_message s m b)
message row s m (bodies.Attach plmn tac eea eia pti) =
    (inl ((moved m.station m.enb, ((λ t. lit≤ tt), (dropped normal_release, tt))), lit≤ tt), (inl ((moved m.station m.enb, ((λ t. lit≤ tt), ((λ t. lit≤ tt), ((λ t. lit≤ tt), tt)))), lit≤ tt), tt))
message row s m bodies.Service =
    (inl ((moved m.station m.enb, ((λ t. lit≤ tt), ((λ t. lit≤ tt), tt))), lit≤ tt), (inl (((λ t. lit≤ tt), tt), lit≤ tt), tt))
message row s m (bodies.Area first plmn tac) = (
  inl ((moved m.station m.enb, ((λ t. lit≤ tt), (freed normal_release, tt))), lit≤ tt),
  (
    inl ((moved m.station m.enb, ((λ t. lit≤ tt), ((λ t. lit≤ tt), (freed normal_release, tt)))), lit≤ tt),
    (
      inl (((λ t. lit≤ tt), tt), lit≤ tt),
      (inl (((λ t. lit≤ tt), tt), lit≤ tt), (inl (((λ t. lit≤ tt), ((λ t. lit≤ tt), tt)), lit≤ tt), tt)),
    ),
  ),
)
message row s m (bodies.Detach first off) =
    (inr (greeted off m.station m.enb), (inr (moved_few m.station m.enb off), (inr (alone_few off), tt)))
message row s m (bodies.Response res) =
    (inl (((λ t. lit≤ tt), ((λ t. lit≤ tt), tt)), lit≤ tt), (inl (((λ t. lit≤ tt), (dropped authentication_failure, tt)), lit≤ tt), tt))
message row s m bodies.Secured = (inl (((λ t. lit≤ tt), ((λ t. lit≤ tt), tt)), lit≤ tt), tt)
message row s m bodies.SecurityRefused = (inl ((dropped unspecified, tt), lit≤ tt), tt)
message row s m bodies.AttachDone =
    (inl (((λ t. lit≤ tt), tt), lit≤ tt), (inl (((λ t. lit≤ tt), ((λ t. lit≤ tt), tt)), lit≤ tt), tt))
message row s m (bodies.ContextDone addr teid second) = (
  inl (((λ t. lit≤ tt), ((λ t. lit≤ tt), tt)), lit≤ tt),
  (
    inl (((λ t. lit≤ tt), ((λ t. lit≤ tt), ((λ t. lit≤ tt), tt))), lit≤ tt),
    (inl (((λ t. lit≤ tt), ((λ t. lit≤ tt), ((λ t. lit≤ tt), tt))), lit≤ tt), tt),
  ),
)
message row s m bodies.ContextFailed = (inl ((dropped unspecified, tt), lit≤ tt), (inl ((freed unspecified, tt), lit≤ tt), tt))
message row s m (bodies.ReleaseAsked cause) = (inl ((dropped cause, tt), lit≤ tt), (inl ((freed cause, tt), lit≤ tt), tt))
message row s m bodies.Released = (inl (((λ t. lit≤ tt), ((λ t. lit≤ tt), tt)), lit≤ tt), tt)
message row s m (bodies.Capability octets) = (inl (((λ t. lit≤ tt), tt), lit≤ tt), tt)
message row s m bodies.Data = (inl (((λ t. lit≤ tt), tt), lit≤ tt), tt)
message row s m (bodies.PdnRequest pti) = tt
message row s m bodies.PdnAccept = tt
message row s m (bodies.SecondDone addr teid) = tt
message row s m bodies.SecondRefused = tt

answer : (s : Session) (a : Answer) → RulesFew (attach_answer s a ++ service_answer s a ++ [] ++ detach_answer s a)
answer s (answers.Vectors rand autn res key) = (inl (((λ t. lit≤ tt), ((λ t. lit≤ tt), ((λ t. lit≤ tt), tt))), lit≤ tt), tt)
answer s (answers.Located dl ul) = (inl (((λ t. lit≤ tt), ((λ t. lit≤ tt), ((λ t. lit≤ tt), tt))), lit≤ tt), tt)
answer s answers.Purged = tt
answer s (answers.Created sgw teid ip) = (inl (((λ t. lit≤ tt), ((λ t. lit≤ tt), ((λ t. lit≤ tt), tt))), lit≤ tt), tt)
answer s answers.Modified = (inl (((λ t. lit≤ tt), ((λ t. lit≤ tt), tt)), lit≤ tt), tt)
answer s answers.Freed = (inl (((λ t. lit≤ tt), ((λ t. lit≤ tt), tt)), lit≤ tt), tt)
answer s answers.Deleted = (inl (((λ t. lit≤ tt), ((λ t. lit≤ tt), (unless s.off DetachAccept, ((λ t. lit≤ tt), tt)))), lit≤ tt), tt)
answer s (answers.SecondCreated sgw teid ip) = tt
answer s answers.SecondModified = tt

base_few : (row : Subscriber) (s : Session) (input : Input) → length (unwrap_or (table_step row s input) (made s [])).effects ≤ 4
unfolding step_table
base_few row s (inputs.Message m) = rules_few (step_table row s (inputs.Message m)) s (message row s m m.body)
base_few row s (inputs.Answer lane k a) = rules_few (step_table row s (inputs.Answer lane k a)) s (answer s a)

-- ---- a second connection

abbrev IsFew : Step → Type 0
IsFew step = length step.effects ≤ 4

own : (row : Subscriber) (s : Session) (input : Input) → RulesMake IsFew s (second_rules row s input)
own row s (inputs.Message m) = own_message m.body
  where
    own_message : (b : Body) → RulesMake IsFew s (second_message row s m b)
    own_message (bodies.PdnRequest pti) = ((λ h. lit≤ tt), ((λ h. lit≤ tt), tt))
    own_message (bodies.SecondDone addr teid) = ((λ h. lit≤ tt), ((λ h. lit≤ tt), tt))
    own_message bodies.PdnAccept = ((λ h. lit≤ tt), ((λ h. lit≤ tt), tt))
    own_message _ = tt
own row s (inputs.Answer lane k (answers.SecondCreated sgw teid ip)) = ((λ h. lit≤ tt), tt)
own row s (inputs.Answer lane k answers.SecondModified) = ((λ h. lit≤ tt), tt)
own row s (inputs.Answer lane k _) = tt

changed_body : (s : Session) (b : Body) (step : Step) → IsFew step → IsFew (changed_message s b step)
changed_body s bodies.Service step h =
    let same = length-map step.effects (with_both s) in
    one_of IsFew (list_any is_setup step.effects) (made (record step.session { second = seconds.Made }) (map (with_both s) step.effects)) step (omega arith) h
changed_body s (bodies.ContextDone addr teid (Some side)) step h =
    one_of IsFew (at stages.Connecting s) (made (record step.session { side2_addr = side.addr; side2_teid = side.teid; second = seconds.Radio }) step.effects) step h h
changed_body s _ step h = h

-- the answer behind which one more call is made is of a row without effects
changed_few : (row : Subscriber) (s : Session) (input : Input) → IfSome (table_step row s input) (λ step. IsFew (changed s input step))
changed_few row s (inputs.Message m) =
    let input = inputs.Message m in
    IfSome_then (table_step row s input) (of_some IsFew (table_step row s input) (made s []) (base_few row s input))
    (λ step h. one_of IsFew (second_at seconds.None s) step (changed_message s m.body step) h (changed_body s m.body step h))
changed_few row s (inputs.Answer lane k answers.Modified) =
    let call = effects.Gateway (gateway.SecondModify s.side2_addr s.side2_teid) in
    let more = made (record (served_step s).session { stage = stages.AwaitSecondModify }) (call ∷ []) in
    modified_makes (λ step. IsFew (changed s (inputs.Answer lane k answers.Modified) step)) row s lane k
    (λ h. one_of IsFew (second_at seconds.None s) (served_step s) (changed_answer s answers.Modified (served_step s)) (lit≤ tt) (one_of IsFew (second_at seconds.Radio s) more (served_step s) (lit≤ tt) (lit≤ tt)))
changed_few row s (inputs.Answer lane k a) =
    let input = inputs.Answer lane k a in
    IfSome_then (table_step row s input) (of_some IsFew (table_step row s input) (made s []) (base_few row s input)) (λ step h. one_of IsFew (second_at seconds.None s) step (changed_answer s a step) h h)

pub effects_few : (row : Subscriber) (s : Session) (input : Input) → length (step_of row s input).effects ≤ 4
effects_few row s input = step_makes IsFew row s input (second_makes IsFew row s input (own row s input) (changed_few row s input)) (lit≤ tt)
