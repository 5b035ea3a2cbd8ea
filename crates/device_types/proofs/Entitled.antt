-- A session that awaits a second connection, or has one, is that of a row with an access point name and an address for it.
use Rattle.std.proofs.Common.{◌≡◌, ◌==◌, ◌&&◌, ℕ, Bool, true, false, cond, List, [], ◌∷◌, ◌++◌, Some, refl}
use Rattle.std.specs.Prelude.{unwrap_or, map}
use Rattle.std.specs.List.{list_any}
use Rattle.device_types.specs.declared.cause.CauseCode.{CauseCode}
use Rattle.device_types.specs.declared.effect.Effect.TheVariants as effects
use Rattle.device_types.specs.declared.effect.GwCall.TheVariants as gateway
use Rattle.device_types.specs.declared.input.Answer.{Answer}
use Rattle.device_types.specs.declared.input.Answer.TheVariants as answers
use Rattle.device_types.specs.declared.input.Input.{Input}
use Rattle.device_types.specs.declared.input.Input.TheVariants as inputs
use Rattle.device_types.specs.declared.message.Body.{Body}
use Rattle.device_types.specs.declared.message.Body.TheVariants as bodies
use Rattle.device_types.specs.declared.message.Message.{Message}
use Rattle.device_types.specs.declared.nas_out.NasOut.{NasOut}
use Rattle.device_types.specs.declared.nas_out.NasOut.TheVariants.{DetachAccept}
use Rattle.device_types.specs.declared.session.Bearer.{Bearer}
use Rattle.device_types.specs.declared.session.Bearer.TheVariants as bearers
use Rattle.device_types.specs.declared.session.Second.{Second}
use Rattle.device_types.specs.declared.session.Second.TheVariants as seconds
use Rattle.device_types.specs.declared.session.Session.{Session}
use Rattle.device_types.specs.declared.session.Stage.{Stage}
use Rattle.device_types.specs.declared.session.Stage.TheVariants as stages
use Rattle.device_types.specs.declared.step.Step.{Step}
use Rattle.device_types.specs.declared.subscriber.Subscriber.{Subscriber}
use Rattle.device_types.specs.Acts.{Act, made, follow, run, tells_unless, tells_to, moves_connection, drops_ue, drops_at, frees_bearers, frees_at, detach}
use Rattle.device_types.specs.AreaUpdate.{area_message}
use Rattle.device_types.specs.Attach.{attach_message, attach_answer}
use Rattle.device_types.specs.Detach.{detach_message, detach_answer, leaves_at, leaves}
use Rattle.device_types.specs.Rule.{Rule, number, fitting, at, here}
use Rattle.device_types.specs.Second.{second_number, second_at, has_both, second_message, second_answer, second_rules, with_both, is_setup, changed_message, changed_answer, changed, HasBoth, MayAwait, MayHave, MayBeOf}
use Rattle.device_types.specs.Service.{service_message, service_answer}
use Rattle.device_types.specs.StepTable.{step_table, table_step, step_of}
use Rattle.device_types.proofs.Steps.{RulesMake, laws_make, changed_or, one_of, both, both_there}

-- ---- acts

abbrev Keeps : Subscriber → Act → Type 0
Keeps row act = (s : Session) → MayBeOf row s → MayBeOf row (act s).session

abbrev AllKeep : Subscriber → List Act → Type 0
AllKeep row [] = Unit {0}
AllKeep row (act ∷ acts) = Keeps row act × AllKeep row acts

abbrev RulesKeep : Subscriber → List Rule → Type 0
RulesKeep row [] = Unit {0}
RulesKeep row (r ∷ rs) = AllKeep row r.acts × RulesKeep row rs

follow_keeps : (row : Subscriber) (acts : List Act) (step : Step) → MayBeOf row step.session → AllKeep row acts → MayBeOf row (follow step acts).session
follow_keeps row [] step h k = h
follow_keeps row (act ∷ acts) step h k = follow_keeps row acts (act step.session) (k.0 step.session h) k.1

run_keeps : (row : Subscriber) (acts : List Act) (s : Session) → MayBeOf row s → AllKeep row acts → MayBeOf row (run acts s).session
run_keeps row [] s h k = h
run_keeps row (act ∷ acts) s h k = follow_keeps row acts (act s) (k.0 s h) k.1

rules_keep : (row : Subscriber) (rs : List Rule) (s : Session) → MayBeOf row s → RulesKeep row rs → MayBeOf row (unwrap_or (fitting rs s) (made s [])).session
rules_keep row [] s h k = h
rules_keep row (r ∷ rs) s h k =
    elim r.fits as (λ b. MayBeOf row (unwrap_or (cond b (Some (run r.acts s)) (fitting rs s)) (made s [])).session)
    [ true ↦ run_keeps row r.acts s h k.0 | false ↦ rules_keep row rs s h k.1 ]

unless : (row : Subscriber) (off : Bool) (nas : NasOut) → Keeps row (tells_unless off nas)
unless row true nas s h = h
unless row false nas s h = h

moved : (row : Subscriber) (station enb : ℕ) → Keeps row (moves_connection station enb)
unfolding moves_connection
moved row station enb s h = h

dropped_at : (row : Subscriber) (bearer : Bearer) → Keeps row (drops_at bearer)
dropped_at row bearers.None s h = (tt, h.1)
dropped_at row bearers.Made s h = (tt, h.1)
dropped_at row bearers.Active s h = (tt, h.1)

dropped : (row : Subscriber) (cause : CauseCode) → Keeps row (drops_ue cause)
unfolding drops_ue
dropped row cause s h = dropped_at row s.bearer (record s { cause = cause; registered = false }) h

freed_at : (row : Subscriber) (bearer : Bearer) → Keeps row (frees_at bearer)
freed_at row bearers.None s h = (tt, h.1)
freed_at row bearers.Made s h = (tt, h.1)
freed_at row bearers.Active s h = (tt, h.1)

freed : (row : Subscriber) (cause : CauseCode) → Keeps row (frees_bearers cause)
unfolding frees_bearers
freed row cause s h = freed_at row s.bearer (record s { cause = cause }) h

left_all : (row : Subscriber) (bearer : Bearer) (off : Bool) → AllKeep row (leaves_at bearer off)
left_all row bearers.None off = (unless row off DetachAccept, (dropped row detach, tt))
left_all row bearers.Made off = ((λ s h. h), ((λ s h. h), ((λ s h. (tt, h.1)), tt)))
left_all row bearers.Active off = ((λ s h. h), ((λ s h. h), ((λ s h. (tt, h.1)), tt)))

gone : (row : Subscriber) (off : Bool) → Keeps row (leaves off)
gone row off s h = run_keeps row (leaves_at s.bearer off) s h (left_all row s.bearer off)

greeted : (row : Subscriber) (off : Bool) (station enb : ℕ) → AllKeep row (cond off [] (tells_to station enb DetachAccept ∷ []))
greeted row true station enb = tt
greeted row false station enb = ((λ s h. h), tt)

-- a stage that is entered, where the base station has released the device
released_in : (row : Subscriber) (registered : Bool) (s : Session) → MayBeOf row s → MayBeOf row (record s { stage = cond registered stages.Idle stages.Detached })
released_in row true s h = (tt, h.1)
released_in row false s h = (tt, h.1)

-- ---- the table

message : (row : Subscriber) (s : Session) (m : Message) (b : Body) → RulesKeep row (attach_message row s m b ++ service_message s m b ++ area_message row s m b ++ detach_message s m b)
message row s m (bodies.Attach plmn tac eea eia pti) = (
  (moved row m.station m.enb, ((λ t h. h), (dropped row _, tt))),
  ((moved row m.station m.enb, ((λ t h. h), ((λ t h. h), ((λ t h. (tt, h.1)), tt)))), tt),
)
message row s m bodies.Service = ((moved row m.station m.enb, ((λ t h. h), ((λ t h. (tt, h.1)), tt))), (((λ t h. h), tt), tt))
message row s m (bodies.Area first plmn tac) = (
  (moved row m.station m.enb, ((λ t h. h), (freed row _, tt))),
  (
    (moved row m.station m.enb, ((λ t h. h), ((λ t h. h), (freed row _, tt)))),
    (((λ t h. h), tt), (((λ t h. h), tt), (((λ t h. h), ((λ t h. h), tt)), tt))),
  ),
)
message row s m (bodies.Detach first off) = (greeted row off m.station m.enb, ((moved row m.station m.enb, (gone row off, tt)), ((gone row off, tt), tt)))
message row s m (bodies.Response res) = (((λ t h. h), ((λ t h. (tt, h.1)), tt)), (((λ t h. h), (dropped row _, tt)), tt))
message row s m bodies.Secured = (((λ t h. h), ((λ t h. (tt, h.1)), tt)), tt)
message row s m bodies.SecurityRefused = ((dropped row _, tt), tt)
message row s m bodies.AttachDone = (((λ t h. (tt, h.1)), tt), (((λ t h. h), ((λ t h. (tt, h.1)), tt)), tt))
message row s m (bodies.ContextDone addr teid second) = (
  ((λ t h. h), ((λ t h. (tt, h.1)), tt)),
  (((λ t h. h), ((λ t h. h), ((λ t h. (tt, h.1)), tt))), (((λ t h. h), ((λ t h. h), ((λ t h. (tt, h.1)), tt))), tt)),
)
message row s m bodies.ContextFailed = ((dropped row _, tt), ((freed row _, tt), tt))
message row s m (bodies.ReleaseAsked cause) = ((dropped row cause, tt), ((freed row cause, tt), tt))
message row s m bodies.Released = (((λ t h. h), ((λ t h. released_in row s.registered t h), tt)), tt)
message row s m (bodies.Capability octets) = (((λ t h. h), tt), tt)
message row s m bodies.Data = (((λ t h. h), tt), tt)
message row s m _ = tt

answer : (row : Subscriber) (s : Session) (a : Answer) → RulesKeep row (attach_answer s a ++ service_answer s a ++ [] ++ detach_answer s a)
answer row s (answers.Vectors rand autn res key) = (((λ t h. h), ((λ t h. h), ((λ t h. (tt, h.1)), tt))), tt)
answer row s (answers.Located dl ul) = (((λ t h. h), ((λ t h. h), ((λ t h. (tt, h.1)), tt))), tt)
answer row s (answers.Created sgw teid ip) = (((λ t h. h), ((λ t h. h), ((λ t h. (tt, h.1)), tt))), tt)
answer row s answers.Modified = (((λ t h. h), ((λ t h. (tt, h.1)), tt)), tt)
answer row s answers.Freed = (((λ t h. h), ((λ t h. (tt, h.1)), tt)), tt)
answer row s answers.Deleted = (((λ t h. h), ((λ t h. h), (unless row s.off DetachAccept, ((λ t h. (tt, h.1)), tt)))), tt)
answer row s _ = tt

-- ---- a second connection

-- a session that awaits an answer for it, or has it
pub awaits_create : (row : Subscriber) (stage : Stage) → (number stage == 16) ≡ true → MayAwait row stage → HasBoth row
awaits_create row stages.AwaitSecond h k = k
awaits_create row _ h k = absurd (cc)

awaits_modify : (row : Subscriber) (stage : Stage) → (number stage == 17) ≡ true → MayAwait row stage → HasBoth row
awaits_modify row stages.AwaitSecondModify h k = k
awaits_modify row _ h k = absurd (cc)

has_at : (row : Subscriber) (second : Second) (n : ℕ) → (second_number second == n) ≡ true → (0 == n) ≡ false → MayHave row second → HasBoth row
has_at row seconds.None n h some k = absurd (cc)
has_at row _ n h some k = k

has : (row : Subscriber) (second : Second) → (second_number second == 0) ≡ false → MayHave row second → HasBoth row
has row seconds.None h k = absurd (cc)
has row _ h k = k

-- the session of a step is again one of a row with both
abbrev Keeping : Subscriber → Step → Type 0
Keeping row step = MayBeOf row step.session

own_message : (row : Subscriber) (s : Session) (m : Message) (b : Body) → MayBeOf row s → RulesMake (Keeping row) s (second_message row s m b)
own_message row s m (bodies.PdnRequest pti) q =
    ((λ h. (both_there row (both (here s m && at stages.Connected s && second_at seconds.None s) (has_both row) h).1, q.1)), ((λ h. q), tt))
own_message row s m (bodies.SecondDone addr teid) q =
    let at = here s m && at stages.Connected s in
    ((λ h. (q.0, has_at row s.second 1 (both at (second_at seconds.Made s) h).1 refl q.1)), ((λ h. (has_at row s.second 3 (both at (second_at seconds.Accepted s) h).1 refl q.1, q.1)), tt))
own_message row s m bodies.PdnAccept q =
    let at = here s m && at stages.Connected s in
    ((λ h. (q.0, has_at row s.second 1 (both at (second_at seconds.Made s) h).1 refl q.1)), ((λ h. (has_at row s.second 2 (both at (second_at seconds.Radio s) h).1 refl q.1, q.1)), tt))
own_message row s m _ q = tt

own_answer : (row : Subscriber) (s : Session) (a : Answer) → MayBeOf row s → RulesMake (Keeping row) s (second_answer s a)
own_answer row s (answers.SecondCreated sgw teid ip) q = ((λ h. (tt, awaits_create row s.stage h q.0)), tt)
own_answer row s answers.SecondModified q = ((λ h. (tt, awaits_modify row s.stage h q.0)), tt)
own_answer row s _ q = tt

own : (row : Subscriber) (s : Session) (input : Input) → MayBeOf row s → RulesMake (Keeping row) s (second_rules row s input)
own row s (inputs.Message m) q = own_message row s m m.body q
own row s (inputs.Answer lane k a) q = own_answer row s a q

-- where the session had a second connection, it may have one again
changed_body : (row : Subscriber) (s : Session) (b : Body) (step : Step) → HasBoth row → Keeping row step → Keeping row (changed_message s b step)
changed_body row s bodies.Service step both q =
    one_of (Keeping row) (list_any is_setup step.effects) (made (record step.session { second = seconds.Made }) (map (with_both s) step.effects)) step (q.0, both) q
changed_body row s (bodies.ContextDone addr teid (Some side)) step both q =
    one_of (Keeping row) (at stages.Connecting s) (made (record step.session { side2_addr = side.addr; side2_teid = side.teid; second = seconds.Radio }) step.effects) step (q.0, both) q
changed_body row s _ step both q = q

changed_to : (row : Subscriber) (s : Session) (a : Answer) (step : Step) → HasBoth row → Keeping row step → Keeping row (changed_answer s a step)
changed_to row s (answers.Created sgw teid ip) step both q = (q.0, tt)
changed_to row s answers.Deleted step both q = (q.0, tt)
changed_to row s answers.Freed step both q = (q.0, both)
changed_to row s answers.Modified step both q =
    let last = step.effects ++ effects.Gateway (gateway.SecondModify s.side2_addr s.side2_teid) ∷ [] in
    one_of (Keeping row) (second_at seconds.Radio s) (made (record step.session { stage = stages.AwaitSecondModify }) last) step (both, q.1) q
changed_to row s _ step both q = q

change : (row : Subscriber) (s : Session) (input : Input) → MayBeOf row s → (step : Step) → Keeping row step → Keeping row (changed s input step)
change row s (inputs.Message m) q step k =
    changed_or (Keeping row) (second_at seconds.None s) step (changed_message s m.body step) k (λ some. changed_body row s m.body step (has row s.second some q.1) k)
change row s (inputs.Answer lane n a) q step k =
    changed_or (Keeping row) (second_at seconds.None s) step (changed_answer s a step) k (λ some. changed_to row s a step (has row s.second some q.1) k)

keeps_base : (row : Subscriber) (s : Session) (input : Input) → MayBeOf row s → MayBeOf row (unwrap_or (table_step row s input) (made s [])).session
unfolding step_table
keeps_base row s (inputs.Message m) h = rules_keep row (step_table row s (inputs.Message m)) s h (message row s m m.body)
keeps_base row s (inputs.Answer lane k a) h = rules_keep row (step_table row s (inputs.Answer lane k a)) s h (answer row s a)

pub keeps_both : (row : Subscriber) (s : Session) (input : Input) → MayBeOf row s → MayBeOf row (step_of row s input).session
keeps_both row s input h = laws_make (Keeping row) (Keeping row) row s input (own row s input h) (keeps_base row s input h) (change row s input h) h
