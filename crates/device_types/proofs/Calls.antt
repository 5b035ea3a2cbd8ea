-- The awaited call of a step is that of the stage which it enters, and a step has no two.
use Rattle.std.proofs.Common.{◌≡◌, ℕ, ◌≤◌, ◌==◌, ◌⊎◌, inl, inr, ⊎_elim, Bool, true, false, not, cond, ◌&&◌, ◌+◌, arith, List, [], ◌∷◌, ◌++◌, length, Option, Some, None, lit≤, refl, ap, ◌∙◌}
use Rattle.std.specs.Prelude.{unwrap_or, filter, map, option_map, IfSome}
use Rattle.std.specs.Option.{option_or}
use Rattle.std.specs.List.{count_by, list_any}
use Rattle.std.proofs.lemmas.List.Elements.{filter-append}
use Rattle.std.proofs.lemmas.List.Sums.{sum_by-cons}
use Rattle.std.proofs.lemmas.Option.{IfSome_then}
use Rattle.device_types.specs.declared.subscriber.Subscriber.{Subscriber}
use Rattle.device_types.specs.declared.session.Session.{Session}
use Rattle.device_types.specs.declared.cause.CauseCode.{CauseCode}
use Rattle.device_types.specs.declared.session.Link.{Link}
use Rattle.device_types.specs.declared.session.Link.TheVariants.{Off, On}
use Rattle.device_types.specs.declared.session.Second.{Second}
use Rattle.device_types.specs.declared.session.Second.TheVariants as seconds
use Rattle.device_types.specs.declared.session.Stage.{Stage}
use Rattle.device_types.specs.declared.session.Stage.TheVariants as stages
use Rattle.device_types.specs.declared.session.Bearer.{Bearer}
use Rattle.device_types.specs.declared.session.Bearer.TheVariants as bearers
use Rattle.device_types.specs.declared.message.Message.{Message}
use Rattle.device_types.specs.declared.message.Side.{Side}
use Rattle.device_types.specs.declared.message.Body.{Body}
use Rattle.device_types.specs.declared.message.Body.TheVariants as bodies
use Rattle.device_types.specs.declared.input.Answer.{Answer}
use Rattle.device_types.specs.declared.input.Answer.TheVariants as answers
use Rattle.device_types.specs.declared.input.Input.{Input}
use Rattle.device_types.specs.declared.input.Input.TheVariants as inputs
use Rattle.device_types.specs.declared.nas_out.NasOut.{NasOut}
use Rattle.device_types.specs.declared.nas_out.NasOut.TheVariants.{DetachAccept}
use Rattle.device_types.specs.declared.effect.Effect.{Effect}
use Rattle.device_types.specs.declared.effect.Effect.TheVariants as effects
use Rattle.device_types.specs.declared.effect.GwCall.TheVariants as gateway
use Rattle.device_types.specs.declared.down.Down.TheVariants.{Nas, Setup, Release, Page, Erab, SetupTwo}
use Rattle.device_types.specs.declared.effect.SubCall.TheVariants as subscriber
use Rattle.device_types.specs.declared.step.Step.{Step}
use Rattle.device_types.specs.Acts.{Act, made, follow, run, moves_connection, left_behind, drops_ue, drops_at, frees_bearers, frees_at, normal_release, tells_unless, tells_to}
use Rattle.device_types.specs.Rule.{Rule, fitting, number, at, settled, is_settled, is_gone, here}
use Rattle.device_types.specs.Attach.{attach_message, attach_answer}
use Rattle.device_types.specs.Second.{second_at, has_both, second_message, second_answer, second_rules, with_both, is_setup, changed_message, changed_answer, changed, second_of}
use Rattle.device_types.specs.Service.{service_message, service_answer}
use Rattle.device_types.specs.AreaUpdate.{area_message}
use Rattle.device_types.specs.Detach.{detach_message, detach_answer, leaves_at, leaves}
use Rattle.device_types.specs.StepTable.{step_table, table_step, step_of, fit_count}
use Rattle.device_types.specs.Awaited.{awaited_in, awaited_by}
use Rattle.device_types.specs.Journal.{is_awaited}
use Rattle.device_types.proofs.Joined.{fitting-append}
use Rattle.device_types.proofs.Steps.{RulesMake, made_by, more_make, second_makes, step_makes, one_of, served_step, both}

-- ---- calls

-- an effect that goes to a peer
abbrev pub is_peer : Effect → Bool
is_peer (effects.Down down) = false
is_peer (effects.Gateway call) = true
is_peer (effects.Subscriber call) = true

-- the calls of a step are the awaited one, or a purge where none is awaited
abbrev pub AreCalls : List Effect → List Effect → Type 0
AreCalls awaited calls = (calls ≡ awaited) ⊎ ((calls ≡ effects.Subscriber subscriber.Purge ∷ []) × (awaited ≡ []))

abbrev pub CallsAsStage : Step → Type 0
CallsAsStage t = AreCalls (awaited_by t.session) (filter is_peer t.effects)

-- ---- acts

-- an act that makes no awaited call
abbrev Quiet : Act → Type 0
Quiet act = (s : Session) → filter is_peer (act s).effects ≡ []

after_quiet : (act : Act) (rest : List Act) (next : Act) (s : Session) → Quiet act → CallsAsStage (follow (next (act s).session) rest) → CallsAsStage (follow (act s) (next ∷ rest))
after_quiet act rest next s q h = rw (filter-append, q s) h

quiet_link : (link : Link) (station enb : ℕ) → filter is_peer (left_behind link station enb) ≡ []
quiet_link Off station enb = refl
quiet_link (On was_station was_enb) station enb =
    elim ((was_station == station) && (was_enb == enb)) as (λ b. filter is_peer (cond b [] (Rattle.device_types.specs.declared.effect.Effect.TheVariants.Down (Rattle.device_types.specs.declared.down.Down.TheVariants.Release was_station was_enb normal_release) ∷ [])) ≡ [])
    [ true ↦ refl | false ↦ refl ]

quiet_move : (station enb : ℕ) (s : Session) → filter is_peer (moves_connection station enb s).effects ≡ []
unfolding moves_connection
quiet_move station enb s = quiet_link s.link station enb

quiet_unless : (off : Bool) (nas : NasOut) → Quiet (tells_unless off nas)
quiet_unless true nas s = refl
quiet_unless false nas s = refl

dropped_at : (b : Bearer) (s : Session) → CallsAsStage (drops_at b s)
dropped_at bearers.None s = inl refl
dropped_at bearers.Made s = inl refl
dropped_at bearers.Active s = inl refl

dropped : (cause : CauseCode) (s : Session) → CallsAsStage (drops_ue cause s)
unfolding drops_ue
dropped cause s = dropped_at s.bearer (record s { cause = cause; registered = false })

freed_at : (b : Bearer) (s : Session) → CallsAsStage (frees_at b s)
freed_at bearers.None s = inl refl
freed_at bearers.Made s = inl refl
freed_at bearers.Active s = inl refl

freed : (cause : CauseCode) (s : Session) → CallsAsStage (frees_bearers cause s)
unfolding frees_bearers
freed cause s = freed_at s.bearer (record s { cause = cause })

left_at : (b : Bearer) (off : Bool) (s : Session) → CallsAsStage (run (leaves_at b off) s)
left_at bearers.None off s = after_quiet (tells_unless off DetachAccept) [] (drops_ue Rattle.device_types.specs.Acts.detach) s (quiet_unless off DetachAccept) (dropped Rattle.device_types.specs.Acts.detach (tells_unless off DetachAccept s).session)
left_at bearers.Made off s = inl refl
left_at bearers.Active off s = inl refl

gone_with : (off : Bool) (s : Session) → CallsAsStage (leaves off s)
gone_with off s = left_at s.bearer off s

-- ---- tests

settled_stage : (stage : Stage) (s : Session) → is_settled stage ≡ true → AreCalls (awaited_in stage s) []
settled_stage stages.AwaitVectors s h = absurd (cc)
settled_stage stages.AwaitLocation s h = absurd (cc)
settled_stage stages.AwaitCreate s h = absurd (cc)
settled_stage stages.AwaitModify s h = absurd (cc)
settled_stage stages.AwaitRelease s h = absurd (cc)
settled_stage stages.AwaitDelete s h = absurd (cc)
settled_stage stages.AwaitSecond s h = absurd (cc)
settled_stage stages.AwaitSecondModify s h = absurd (cc)
settled_stage _ s h = inl refl

connected_stage : (stage : Stage) (s : Session) → (number stage == 11) ≡ true → AreCalls (awaited_in stage s) []
connected_stage stages.Connected s h = inl refl
connected_stage _ s h = absurd (cc)

idle_stage : (stage : Stage) (s : Session) → (number stage == 14) ≡ true → AreCalls (awaited_in stage s) []
idle_stage stages.Idle s h = inl refl
idle_stage _ s h = absurd (cc)

gone_stage : (stage : Stage) (registered : Bool) (s : Session) → is_gone stage registered ≡ true → AreCalls (awaited_in stage s) []
gone_stage stages.Detached registered s h = inl refl
gone_stage stages.Releasing registered s h = inl refl
gone_stage _ registered s h = absurd (cc)

-- ---- lines

released : (registered : Bool) (s : Session) → CallsAsStage (made (record s { link = Off; stage = cond registered stages.Idle stages.Detached }) [])
released true s = inl refl
released false s = inl refl

greeted : (off : Bool) (station enb : ℕ) (s : Session) → AreCalls (awaited_by s) [] → CallsAsStage (run (cond off [] (tells_to station enb DetachAccept ∷ [])) s)
greeted true station enb s h = h
greeted false station enb s h = h

message : (row : Subscriber) (s : Session) (m : Message) (b : Body) → RulesMake CallsAsStage s (attach_message row s m b ++ service_message s m b ++ area_message row s m b ++ detach_message s m b)
message row s m (bodies.Attach plmn tac eea eia pti) =
    let n = (moves_connection m.station m.enb s).session in
    ((λ h. rw (filter-append, quiet_move) (dropped normal_release n)), ((λ h. rw (filter-append, quiet_move) (inl refl)), tt))
message row s m bodies.Service =
    ((λ h. rw (filter-append, quiet_move) (inl refl)), ((λ h. settled_stage s.stage s (both (settled s) _ h).0), tt))
message row s m (bodies.Area first plmn tac) =
    let n = (moves_connection m.station m.enb s).session in (
      (λ h. rw (filter-append, quiet_move) (freed normal_release n)),
      (
        (λ h. rw (filter-append, quiet_move) (freed normal_release (record n { plmn = plmn; tac = tac }))),
        (
          (λ h. settled_stage s.stage s (both first (settled s) (both (first && settled s) _ h).0).1),
          (
            (λ h. connected_stage s.stage _ (both (not first && here s m) _ (both (not first && here s m && at stages.Connected s) _ h).0).1),
            ((λ h. connected_stage s.stage _ (both (not first && here s m) _ (both (not first && here s m && at stages.Connected s) _ h).0).1), tt),
          ),
        ),
      ),
    )
message row s m (bodies.Detach first off) =
    let n = (moves_connection m.station m.enb s).session in (
      (λ h. greeted off m.station m.enb s (gone_stage s.stage s.registered s (both first _ h).1)),
      (
        (λ h. rw (filter-append, quiet_move) (gone_with off n)),
        ((λ h. gone_with off s), tt),
      ),
    )
message row s m (bodies.Response res) = (λ h. inl refl, ((λ h. dropped Rattle.device_types.specs.Acts.authentication_failure s), tt))
message row s m bodies.Secured = (λ h. inl refl, tt)
message row s m bodies.SecurityRefused = (λ h. dropped Rattle.device_types.specs.Acts.unspecified s, tt)
message row s m bodies.AttachDone = (λ h. inl refl, ((λ h. inl refl), tt))
message row s m (bodies.ContextDone addr teid second) = (λ h. inl refl, ((λ h. inl refl), ((λ h. inl refl), tt)))
message row s m bodies.ContextFailed = (λ h. dropped Rattle.device_types.specs.Acts.unspecified s, ((λ h. freed Rattle.device_types.specs.Acts.unspecified s), tt))
message row s m (bodies.ReleaseAsked cause) = (λ h. dropped cause s, ((λ h. freed cause s), tt))
message row s m bodies.Released = (λ h. released s.registered s, tt)
message row s m (bodies.Capability octets) = (λ h. settled_stage s.stage _ (both (here s m) _ h).1, tt)
message row s m bodies.Data = (λ h. idle_stage s.stage s h, tt)
message row s m (bodies.PdnRequest pti) = tt
message row s m bodies.PdnAccept = tt
message row s m (bodies.SecondDone addr teid) = tt
message row s m bodies.SecondRefused = tt

answer : (row : Subscriber) (s : Session) (a : Answer) → RulesMake CallsAsStage s (attach_answer s a ++ service_answer s a ++ [] ++ detach_answer s a)
answer row s (answers.Vectors rand autn res key) = (λ h. inl refl, tt)
answer row s (answers.Located dl ul) = (λ h. inl refl, tt)
answer row s answers.Purged = tt
answer row s (answers.Created sgw teid ip) = (λ h. inl refl, tt)
answer row s answers.Modified = (λ h. inl refl, tt)
answer row s answers.Freed = (λ h. inl refl, tt)
answer row s (answers.SecondCreated sgw teid ip) = tt
answer row s answers.SecondModified = tt
answer row s answers.Deleted = (λ h. unless s.off, tt)
  where
    unless : (off : Bool) → CallsAsStage (run (Rattle.device_types.specs.Acts.sets (λ t. record t { bearer = bearers.None }) ∷ Rattle.device_types.specs.Acts.asks Rattle.device_types.specs.declared.effect.SubCall.TheVariants.Purge ∷ tells_unless off DetachAccept ∷ Rattle.device_types.specs.Acts.releases ∷ []) s)
    unless true = inr (refl, refl)
    unless false = inr (refl, refl)

-- ---- a second connection

own_message : (row : Subscriber) (s : Session) (m : Message) (b : Body) → RulesMake CallsAsStage s (second_message row s m b)
own_message row s m (bodies.PdnRequest pti) =
    let here_at = here s m && at stages.Connected s in
    let none = here_at && second_at seconds.None s in
    ((λ h. inl refl), ((λ h. connected_stage s.stage s (both (here s m) (at stages.Connected s) (both here_at (second_at seconds.None s) (both none (not (has_both row)) h).0).0).1), tt))
own_message row s m (bodies.SecondDone addr teid) =
    let here_at = here s m && at stages.Connected s in
    ((λ h. connected_stage s.stage _ (both (here s m) (at stages.Connected s) (both here_at (second_at seconds.Made s) h).0).1), ((λ h. inl refl), tt))
own_message row s m bodies.PdnAccept =
    let here_at = here s m && at stages.Connected s in
    ((λ h. connected_stage s.stage _ (both (here s m) (at stages.Connected s) (both here_at (second_at seconds.Made s) h).0).1), ((λ h. inl refl), tt))
own_message row s m _ = tt

own_answer : (s : Session) (a : Answer) → RulesMake CallsAsStage s (second_answer s a)
own_answer s (answers.SecondCreated sgw teid ip) = ((λ h. inl refl), tt)
own_answer s answers.SecondModified = ((λ h. inl refl), tt)
own_answer s _ = tt

own : (row : Subscriber) (s : Session) (input : Input) → RulesMake CallsAsStage s (second_rules row s input)
own row s (inputs.Message m) = own_message row s m m.body
own row s (inputs.Answer lane k a) = own_answer s a

-- what a session awaits does not depend on its second connection
abbrev SameSides : Session → Session → Type 0
SameSides s t = (s.side_addr ≡ t.side_addr) × (s.side_teid ≡ t.side_teid) × (s.side2_addr ≡ t.side2_addr) × (s.side2_teid ≡ t.side2_teid)

same_calls : (stage : Stage) (s t : Session) → SameSides s t → awaited_in stage s ≡ awaited_in stage t
same_calls stages.AwaitModify s t e = rw (e.0, e.1) refl
same_calls stages.AwaitSecondModify s t e = rw (e.2, e.3) refl
same_calls _ s t e = refl

with_second : (second : Second) (step : Step) → CallsAsStage step → CallsAsStage (made (record step.session { second = second }) step.effects)
with_second second step c = rw (← same_calls step.session.stage step.session (record step.session { second = second }) (refl, refl, refl, refl)) c

both_calls : (s : Session) (es : List Effect) → filter is_peer (map (with_both s) es) ≡ filter is_peer es
both_calls s [] = refl
both_calls s (effects.Down (Setup station enb dl ul sgw teid eea eia key accept) ∷ es) = both_calls s es
both_calls s (effects.Down (Nas station enb nas) ∷ es) = both_calls s es
both_calls s (effects.Down (Release station enb cause) ∷ es) = both_calls s es
both_calls s (effects.Down (Page plmn tac) ∷ es) = both_calls s es
both_calls s (effects.Down (Erab station enb sgw teid pti ip) ∷ es) = both_calls s es
both_calls s (effects.Down (SetupTwo station enb dl ul sgw teid eea eia key sgw2 teid2) ∷ es) = both_calls s es
both_calls s (effects.Gateway call ∷ es) = ap (λ xs. effects.Gateway call ∷ xs) (both_calls s es)
both_calls s (effects.Subscriber call ∷ es) = ap (λ xs. effects.Subscriber call ∷ xs) (both_calls s es)

changed_service : (s : Session) (step : Step) → CallsAsStage step → CallsAsStage (changed_message s bodies.Service step)
changed_service s step c =
    one_of CallsAsStage (list_any is_setup step.effects) (made (record step.session { second = seconds.Made }) (map (with_both s) step.effects)) step (rw (both_calls s step.effects) (with_second seconds.Made step c)) c

-- a change of the second bearer's side alone, where the step awaits no answer for it
changed_side : (s : Session) (addr teid : ℕ) (side : Side) (step : Step) → CallsAsStage step → CallsAsStage (made (record step.session { side2_addr = side.addr; side2_teid = side.teid; second = seconds.Radio }) step.effects) → CallsAsStage (cond (second_at seconds.None s) step (changed_message s (bodies.ContextDone addr teid (Some side)) step))
changed_side s addr teid side step c d =
    let other = made (record step.session { side2_addr = side.addr; side2_teid = side.teid; second = seconds.Radio }) step.effects in
    one_of CallsAsStage (second_at seconds.None s) step (changed_message s (bodies.ContextDone addr teid (Some side)) step) c (one_of CallsAsStage (at stages.Connecting s) other step d c)

same_step : (b : Bool) (step : Step) → CallsAsStage step → CallsAsStage (cond b step step)
same_step b step c = one_of CallsAsStage b step step c c

abbrev BodyCalls : Session → Body → Step → Type 0
BodyCalls s b step = CallsAsStage (cond (second_at seconds.None s) step (changed_message s b step))

changed_body : (row : Subscriber) (s : Session) (m : Message) (b : Body) → RulesMake (BodyCalls s b) s (attach_message row s m b ++ service_message s m b ++ area_message row s m b ++ detach_message s m b)
changed_body row s m bodies.Service =
    more_make CallsAsStage (BodyCalls s bodies.Service) s (service_message s m bodies.Service) (λ step c. one_of CallsAsStage (second_at seconds.None s) step (changed_message s bodies.Service step) c (changed_service s step c)) (message row s m bodies.Service)
changed_body row s m (bodies.ContextDone addr teid (Some side)) =
    ((λ h. changed_side s addr teid side _ (inl refl) (inl refl)), ((λ h. changed_side s addr teid side _ (inl refl) (inl refl)), ((λ h. changed_side s addr teid side _ (inl refl) (inl refl)), tt)))
changed_body row s m b =
    more_make CallsAsStage (BodyCalls s b) s (attach_message row s m b ++ service_message s m b ++ area_message row s m b ++ detach_message s m b) (λ step c. same_step (second_at seconds.None s) step c) (message row s m b)

abbrev AnswerCalls : Session → Answer → Step → Type 0
AnswerCalls s a step = CallsAsStage (cond (second_at seconds.None s) step (changed_answer s a step))

changed_to : (row : Subscriber) (s : Session) (a : Answer) → RulesMake (AnswerCalls s a) s (attach_answer s a ++ service_answer s a ++ [] ++ detach_answer s a)
changed_to row s (answers.Created sgw teid ip) =
    let a = answers.Created sgw teid ip in
    more_make CallsAsStage (AnswerCalls s a) s (attach_answer s a) (λ step c. one_of CallsAsStage (second_at seconds.None s) step (changed_answer s a step) c (with_second seconds.None step c)) (answer row s a)
changed_to row s answers.Deleted =
    more_make CallsAsStage (AnswerCalls s answers.Deleted) s (detach_answer s answers.Deleted) (λ step c. one_of CallsAsStage (second_at seconds.None s) step (changed_answer s answers.Deleted step) c (with_second seconds.None step c)) (answer row s answers.Deleted)
changed_to row s answers.Freed =
    more_make CallsAsStage (AnswerCalls s answers.Freed) s (service_answer s answers.Freed) (λ step c. one_of CallsAsStage (second_at seconds.None s) step (changed_answer s answers.Freed step) c (with_second seconds.Made step c)) (answer row s answers.Freed)
changed_to row s answers.Modified =
    let call = effects.Gateway (gateway.SecondModify s.side2_addr s.side2_teid) in
    let more = made (record (served_step s).session { stage = stages.AwaitSecondModify }) (call ∷ []) in
    ((λ h. one_of CallsAsStage (second_at seconds.None s) (served_step s) (changed_answer s answers.Modified (served_step s)) (inl refl) (one_of CallsAsStage (second_at seconds.Radio s) more (served_step s) (inl refl) (inl refl))), tt)
changed_to row s a =
    more_make CallsAsStage (AnswerCalls s a) s (attach_answer s a ++ service_answer s a ++ [] ++ detach_answer s a) (λ step c. same_step (second_at seconds.None s) step c) (answer row s a)

changed_of : (row : Subscriber) (s : Session) (input : Input) → IfSome (table_step row s input) (λ step. CallsAsStage (changed s input step))
unfolding step_table
changed_of row s (inputs.Message m) = made_by (BodyCalls s m.body) s (step_table row s (inputs.Message m)) (changed_body row s m m.body)
changed_of row s (inputs.Answer lane k a) = made_by (AnswerCalls s a) s (step_table row s (inputs.Answer lane k a)) (changed_to row s a)

-- the awaited call of a row that fits is that of the stage
pub row_calls : (row : Subscriber) (s : Session) (input : Input) → IfSome (second_of row s input (table_step row s input)) CallsAsStage
row_calls row s input = second_makes CallsAsStage row s input (own row s input) (changed_of row s input)

-- in a settled session the awaited call of a step is that of its stage
pub settled_calls : (row : Subscriber) (s : Session) (input : Input) → settled s ≡ true → CallsAsStage (step_of row s input)
settled_calls row s input h = step_makes CallsAsStage row s input (row_calls row s input) (settled_stage s.stage s h)

-- each awaited effect is a call
awaited_calls : (es : List Effect) → filter is_awaited es ≡ filter is_awaited (filter is_peer es)
awaited_calls [] = refl
awaited_calls (effects.Down down ∷ es) = awaited_calls es
awaited_calls (effects.Gateway call ∷ es) = ap (λ xs. effects.Gateway call ∷ xs) (awaited_calls es)
awaited_calls (effects.Subscriber subscriber.Vectors ∷ es) = ap (λ xs. effects.Subscriber subscriber.Vectors ∷ xs) (awaited_calls es)
awaited_calls (effects.Subscriber subscriber.Location ∷ es) = ap (λ xs. effects.Subscriber subscriber.Location ∷ xs) (awaited_calls es)
awaited_calls (effects.Subscriber subscriber.Purge ∷ es) = awaited_calls es

one_at : (stage : Stage) (s : Session) → length (filter is_awaited (awaited_in stage s)) ≤ 1
one_at stages.AwaitVectors s = lit≤ tt
one_at _ s = lit≤ tt

one_call_of : (s : Session) (es : List Effect) → AreCalls (awaited_by s) (filter is_peer es) → length (filter is_awaited es) ≤ 1
one_call_of s es c =
    ⊎_elim
    (λ (e : filter is_peer es ≡ awaited_by s). rw (awaited_calls es, e) (one_at s.stage s))
    (λ (e : (filter is_peer es ≡ effects.Subscriber subscriber.Purge ∷ []) × (awaited_by s ≡ [])). rw (awaited_calls es, e.0) (lit≤ tt))
    c

-- a step has at most one awaited call
pub one_call : (row : Subscriber) (s : Session) (input : Input) → length (filter is_awaited (step_of row s input).effects) ≤ 1
one_call row s input =
    step_makes (λ step. length (filter is_awaited step.effects) ≤ 1) row s input
    (IfSome_then (second_of row s input (table_step row s input)) (row_calls row s input) (λ step c. one_call_of step.session step.effects c))
    (lit≤ tt)

-- where no row fits, the count is 0
pub none_fits : (rs : List Rule) (s : Session) → fitting rs s ≡ None → count_by (λ r. r.fits) rs ≡ 0
none_fits [] s h = refl
none_fits (r ∷ rs) s h = rw (sum_by-cons (λ (x : Rule). cond x.fits 1 0) r rs) (by_test r.fits (none_fits rs s) h)
  where
    by_test : (b : Bool) → (fitting rs s ≡ None → count_by (λ x. x.fits) rs ≡ 0) → cond b (Some (run r.acts s)) (fitting rs s) ≡ None → cond b 1 0 + count_by (λ x. x.fits) rs ≡ 0
    by_test true k e = absurd (cc)
    by_test false k e = let none = k e in omega arith

neither : (s : Session) (input : Input) (own base : Option Step) → option_or own (option_map (changed s input) base) ≡ None → option_or own base ≡ None
neither s input None None h = refl
neither s input None (Some step) h = absurd (cc)
neither s input (Some step) base h = absurd (cc)

no_row : (row : Subscriber) (s : Session) (input : Input) → second_of row s input (table_step row s input) ≡ None → fit_count row s input ≡ 0
no_row row s input h =
    let own = second_rules row s input in
    let base = step_table row s input in
    none_fits (own ++ base) s (fitting-append own base s ∙ neither s input (fitting own s) (fitting base s) h)

-- where a row fits, the awaited call of its step is that of the stage
of_awaited : (stage : Stage) (s : Session) → filter is_awaited (awaited_in stage s) ≡ awaited_in stage s
of_awaited stages.AwaitVectors s = refl
of_awaited _ s = refl

stage_of : (s : Session) (es : List Effect) → AreCalls (awaited_by s) (filter is_peer es) → filter is_awaited es ≡ awaited_by s
stage_of s es c =
    ⊎_elim
    (λ (e : filter is_peer es ≡ awaited_by s). rw (awaited_calls es, e) (of_awaited s.stage s))
    (λ (e : (filter is_peer es ≡ effects.Subscriber subscriber.Purge ∷ []) × (awaited_by s ≡ [])). rw (awaited_calls es, e.0, e.1) refl)
    c

pub awaits_as_stage : (row : Subscriber) (s : Session) (input : Input) → 1 ≤ fit_count row s input → filter is_awaited (step_of row s input).effects ≡ awaited_by (step_of row s input).session
unfolding step_of
awaits_as_stage row s input h = by_row (second_of row s input (table_step row s input)) refl (row_calls row s input)
  where
    by_row : (o : Option Step) → second_of row s input (table_step row s input) ≡ o → IfSome o CallsAsStage → filter is_awaited (unwrap_or o (made s [])).effects ≡ awaited_by (unwrap_or o (made s [])).session
    by_row None e c = let none = no_row row s input e in absurd (omega arith)
    by_row (Some step) e c = stage_of step.session step.effects c
