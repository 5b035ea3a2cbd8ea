-- A device has its S1 connection in each stage but two, and no message goes to a connection that is not there.
use Rattle.std.proofs.Common.{◌≡◌, ℕ, ◌==◌, Bool, true, false, not, cond, ◌&&◌, ◌||◌, ◌⊎◌, inl, inr, ⊎_elim, List, [], ◌∷◌, ◌++◌, Some, All, refl}
use Rattle.std.specs.Prelude.{unwrap_or, map, IfSome}
use Rattle.std.specs.List.{list_any}
use Rattle.std.specs.Str.{bytes_eq}
use Rattle.std.proofs.lemmas.List.Elements.{All-nil, All-cons, All-append, All-map, All-weaker}
use Rattle.std.proofs.lemmas.Option.{IfSome_then}
use Rattle.device_types.specs.declared.cause.CauseCode.{CauseCode}
use Rattle.device_types.specs.declared.down.Accept.{Accept}
use Rattle.device_types.specs.declared.down.Accept.TheVariants as accepts
use Rattle.device_types.specs.declared.down.Down.TheVariants.{Nas, Setup, Release, Page, Erab, SetupTwo}
use Rattle.device_types.specs.declared.effect.Effect.{Effect}
use Rattle.device_types.specs.declared.effect.Effect.TheVariants as effects
use Rattle.device_types.specs.declared.effect.GwCall.TheVariants as gateway
use Rattle.device_types.specs.declared.event.Lane.{Lane}
use Rattle.device_types.specs.declared.input.Answer.{Answer}
use Rattle.device_types.specs.declared.input.Answer.TheVariants as answers
use Rattle.device_types.specs.declared.input.Input.{Input}
use Rattle.device_types.specs.declared.input.Input.TheVariants as inputs
use Rattle.device_types.specs.declared.message.Body.{Body}
use Rattle.device_types.specs.declared.message.Body.TheVariants as bodies
use Rattle.device_types.specs.declared.message.Message.{Message}
use Rattle.device_types.specs.declared.nas_out.NasOut.{NasOut}
use Rattle.device_types.specs.declared.nas_out.NasOut.TheVariants as nas
use Rattle.device_types.specs.declared.session.Bearer.{Bearer}
use Rattle.device_types.specs.declared.session.Bearer.TheVariants as bearers
use Rattle.device_types.specs.declared.session.Link.{Link}
use Rattle.device_types.specs.declared.session.Link.TheVariants.{Off, On}
use Rattle.device_types.specs.declared.session.Second.{Second}
use Rattle.device_types.specs.declared.session.Second.TheVariants as seconds
use Rattle.device_types.specs.declared.session.Session.{Session}
use Rattle.device_types.specs.declared.session.Stage.{Stage}
use Rattle.device_types.specs.declared.session.Stage.TheVariants as stages
use Rattle.device_types.specs.declared.step.Step.{Step}
use Rattle.device_types.specs.declared.subscriber.Subscriber.{Subscriber}
use Rattle.device_types.specs.Acts.{Act, made, follow, run, tells, tells_unless, tells_to, sets_up, releases, moves_connection, left_behind, drops_ue, drops_at, frees_bearers, frees_at, normal_release, authentication_failure, detach, unspecified, nas_to, page, pages, station_of, enb_of}
use Rattle.device_types.specs.AreaUpdate.{area_message}
use Rattle.device_types.specs.Attach.{attach_message, attach_answer}
use Rattle.device_types.specs.Detach.{detach_message, detach_answer, leaves_at, leaves}
use Rattle.device_types.specs.Effect.{IsSent, IsOn, IsConnectedIn, IsConnected}
use Rattle.device_types.specs.Input.{IsInput}
use Rattle.device_types.specs.Message.{IsPair, IsFrom}
use Rattle.device_types.specs.Rule.{Rule, fitting, number, at, here, is_pair, is_served, is_attaching, forbidden}
use Rattle.device_types.specs.Second.{second_at, has_both, missing_name, second_message, second_answer, second_rules, with_both, is_setup, changed_message, changed_answer, changed}
use Rattle.device_types.specs.Service.{service_message, service_answer}
use Rattle.device_types.specs.Session.{IsLink, IsSession}
use Rattle.device_types.specs.StepTable.{step_table, table_step, step_of}
use Rattle.device_types.proofs.Steps.{RulesMake, of_some, second_makes, step_makes, changed_or, one_of, served_step, modified_makes, both}

-- ---- acts on a connection

-- a session with a connection, and effects that go to base stations
pub record Reaches (step : Step) : Type 0 where
  pub on : IsOn step.session.link
  pub sent : All IsSent step.effects

-- a session that has a connection where it needs one, and such effects
pub record Goes (step : Step) : Type 0 where
  pub connected : IsConnected step.session
  pub sent : All IsSent step.effects

abbrev Reach : Act → Type 0
Reach act = (s : Session) → IsOn s.link → Reaches (act s)

abbrev AllReach : List Act → Type 0
AllReach [] = Unit {0}
AllReach (act ∷ acts) = Reach act × AllReach acts

follow_reaches : (acts : List Act) (step : Step) → Reaches step → AllReach acts → Reaches (follow step acts)
follow_reaches [] step r k = r
follow_reaches (act ∷ acts) step r k =
    let rest = follow_reaches acts (act step.session) (k.0 step.session r.on) k.1 in
    record { on = rest.on; sent = All-append IsSent step.effects (follow (act step.session) acts).effects r.sent rest.sent }

run_reaches : (acts : List Act) (s : Session) → IsOn s.link → AllReach acts → Reaches (run acts s)
run_reaches [] s on k = record { on = on; sent = All-nil IsSent }
run_reaches (act ∷ acts) s on k = follow_reaches acts (act s) (k.0 s on) k.1

on_in : (stage : Stage) (link : Link) → IsOn link → IsConnectedIn stage link
on_in stages.Detached link on = tt
on_in stages.Idle link on = tt
on_in _ link on = on

goes : (step : Step) → Reaches step → Goes step
goes step r = record { connected = on_in step.session.stage step.session.link r.on; sent = r.sent }

silent : (s : Session) → IsOn s.link → Reaches (made s [])
silent s on = record { on = on; sent = All-nil IsSent }

making : (s : Session) (effect : Effect) → IsOn s.link → IsSent effect → Reaches (made s (effect ∷ []))
making s effect on h = record { on = on; sent = All-cons IsSent effect [] h (All-nil IsSent) }

receiver : (link : Link) → IsOn link → IsPair (station_of link) (enb_of link)
receiver Off on = absurd on
receiver (On station enb) on = on

told : (message : NasOut) → Reach (tells message)
told message s on = making s _ on (receiver s.link on)

told_unless : (off : Bool) (message : NasOut) → Reach (tells_unless off message)
told_unless true message s on = silent s on
told_unless false message s on = told message s on

set_up : (accept : Accept) → Reach (sets_up accept)
set_up accept s on = making s _ on (receiver s.link on)

released : Reach releases
released s on = making _ _ on (receiver s.link on)

dropped_at : (bearer : Bearer) → Reach (drops_at bearer)
dropped_at bearers.None s on = released s on
dropped_at bearers.Made s on = making _ _ on tt
dropped_at bearers.Active s on = making _ _ on tt

dropped : (cause : CauseCode) → Reach (drops_ue cause)
unfolding drops_ue
dropped cause s on = dropped_at s.bearer (record s { cause = cause; registered = false }) on

freed_at : (bearer : Bearer) → Reach (frees_at bearer)
freed_at bearers.None s on = released s on
freed_at bearers.Made s on = released s on
freed_at bearers.Active s on = making _ _ on tt

freed : (cause : CauseCode) → Reach (frees_bearers cause)
unfolding frees_bearers
freed cause s on = freed_at s.bearer (record s { cause = cause }) on

left_all : (bearer : Bearer) (off : Bool) → AllReach (leaves_at bearer off)
left_all bearers.None off = (told_unless off nas.DetachAccept, (dropped detach, tt))
left_all bearers.Made off = ((λ s on. silent _ on), ((λ s on. making _ _ on tt), ((λ s on. silent _ on), tt)))
left_all bearers.Active off = ((λ s on. silent _ on), ((λ s on. making _ _ on tt), ((λ s on. silent _ on), tt)))

gone : (off : Bool) → Reach (leaves off)
gone off s on = run_reaches (leaves_at s.bearer off) s on (left_all s.bearer off)

-- ---- a connection that is moved

left : (link : Link) (station enb : ℕ) → IsLink link → All IsSent (left_behind link station enb)
left Off station enb l = All-nil IsSent
left (On was_station was_enb) station enb l =
    elim ((was_station == station) && (was_enb == enb)) as (λ b. All IsSent (cond b [] (effects.Down (Release was_station was_enb normal_release) ∷ [])))
    [ true ↦ All-nil IsSent | false ↦ All-cons IsSent (effects.Down (Release was_station was_enb normal_release)) [] l (All-nil IsSent) ]

moved : (station enb : ℕ) → IsPair station enb → (s : Session) → IsLink s.link → Reaches (moves_connection station enb s)
unfolding moves_connection
moved station enb p s l = record { on = p; sent = left s.link station enb l }

-- a message to another connection
aside : (s : Session) (station enb : ℕ) (message : NasOut) → IsConnected s → IsPair station enb → Goes (tells_to station enb message s)
aside s station enb message c p = record { connected = c; sent = All-cons IsSent (nas_to station enb message) [] p (All-nil IsSent) }

greeted : (s : Session) (off : Bool) (station enb : ℕ) → IsConnected s → IsPair station enb → Goes (run (cond off [] (tells_to station enb nas.DetachAccept ∷ [])) s)
greeted s true station enb c p = record { connected = c; sent = All-nil IsSent }
greeted s false station enb c p = aside s station enb nas.DetachAccept c p

-- ---- tests

on_pair : (link : Link) (station enb : ℕ) → IsLink link → is_pair link station enb ≡ true → IsOn link
on_pair Off station enb l h = absurd (cc)
on_pair (On on_station on_enb) station enb l h = l

here_on : (s : Session) (m : Message) (b : Bool) → IsLink s.link → (here s m && b) ≡ true → IsOn s.link
here_on s m b l h = on_pair s.link m.station m.enb l (both (here s m) b h).0

-- a session that awaits an answer has a connection
awaiting : (stage : Stage) (n : ℕ) (link : Link) → (number stage == n) ≡ true → (0 == n) ≡ false → (14 == n) ≡ false → IsConnectedIn stage link → IsOn link
awaiting stages.Detached n link h zero idle c = absurd (cc)
awaiting stages.Idle n link h zero idle c = absurd (cc)
awaiting _ n link h zero idle c = c

-- ---- the table

-- acts of which the first needs no connection
abbrev AllStart : List Act → Type 0
AllStart [] = ⊥
AllStart (act ∷ acts) = ((s : Session) → IsLink s.link → Reaches (act s)) × AllReach acts

-- a row that fits on the session's own connection, one that begins without, and another
abbrev RuleGoes : Session → Rule → Type 0
RuleGoes s r = ((r.fits ≡ true → IsOn s.link) × AllReach r.acts) ⊎ (AllStart r.acts ⊎ (r.fits ≡ true → Goes (run r.acts s)))

abbrev RulesGo : Session → List Rule → Type 0
RulesGo s [] = Unit {0}
RulesGo s (r ∷ rs) = RuleGoes s r × RulesGo s rs

starts : (acts : List Act) (s : Session) → IsLink s.link → AllStart acts → Goes (run acts s)
starts [] s l k = absurd k
starts (act ∷ acts) s l k = goes (run (act ∷ acts) s) (follow_reaches acts (act s) (k.0 s l) k.1)

rule_goes : (r : Rule) (s : Session) → IsLink s.link → RuleGoes s r → r.fits ≡ true → Goes (run r.acts s)
rule_goes r s l k h =
    ⊎_elim
    (λ (a : (r.fits ≡ true → IsOn s.link) × AllReach r.acts). goes (run r.acts s) (run_reaches r.acts s (a.0 h) a.1))
    (λ (b : AllStart r.acts ⊎ (r.fits ≡ true → Goes (run r.acts s))).
    ⊎_elim
    (λ (c : AllStart r.acts). starts r.acts s l c)
    (λ (d : r.fits ≡ true → Goes (run r.acts s)). d h)
    b)
    k

rules_go : (rs : List Rule) (s : Session) → IsLink s.link → IsConnected s → RulesGo s rs → Goes (unwrap_or (fitting rs s) (made s []))
rules_go [] s l c k = record { connected = c; sent = All-nil IsSent }
rules_go (r ∷ rs) s l c k =
    elim r.fits as (λ b. (b ≡ true → Goes (run r.acts s)) → Goes (unwrap_or (cond b (Some (run r.acts s)) (fitting rs s)) (made s [])))
    [ true ↦ (λ h. h refl) | false ↦ (λ h. rules_go rs s l c k.1) ]
    (rule_goes r s l k.0)

released_in : (registered : Bool) (s : Session) → Goes (made (record s { link = Off; stage = cond registered stages.Idle stages.Detached }) [])
released_in true s = record { connected = tt; sent = All-nil IsSent }
released_in false s = record { connected = tt; sent = All-nil IsSent }

same_stage : (s : Session) → IsConnected s → (n : ℕ) → Goes (made (record s { radio = n }) [])
same_stage s c n = record { connected = c; sent = All-nil IsSent }

-- a paging goes to no connection
paged : (s : Session) → IsConnected s → Goes (pages s)
paged s c = record { connected = c; sent = All-cons IsSent (page s) [] tt (All-nil IsSent) }

-- a later update fits on the session's own connection
later : (first h c b : Bool) → (not first && h && c && b) ≡ true → h ≡ true
later first h c b e = (both (not first) h (both (not first && h) c (both (not first && h && c) b e).0).0).1

message : (row : Subscriber) (s : Session) (m : Message) (b : Body) → IsFrom b m.station m.enb → IsLink s.link → IsConnected s → RulesGo s (attach_message row s m b ++ service_message s m b ++ area_message row s m b ++ detach_message s m b)
message row s m (bodies.Attach plmn tac eea eia pti) p l c = (
  inr (inl (moved m.station m.enb p, (told (nas.AttachReject 12), (dropped normal_release, tt)))),
  (inr (inl (moved m.station m.enb p, ((λ t on. silent _ on), ((λ t on. making _ _ on tt), ((λ t on. silent _ on), tt))))), tt),
)
message row s m bodies.Service p l c =
    (inr (inl (moved m.station m.enb p, (set_up accepts.No, ((λ t on. silent _ on), tt)))), (inr (inr (λ h. aside s m.station m.enb (nas.ServiceReject 10) c p)), tt))
message row s m (bodies.Area first plmn tac) p l c =
    let h = here s m in
    let at = number s.stage == 11 in
    let bad = forbidden row tac in (
      inr (inl (moved m.station m.enb p, (told (nas.AreaReject 12), (freed normal_release, tt)))),
      (
        inr (inl (moved m.station m.enb p, ((λ t on. silent _ on), (told nas.AreaAccept, (freed normal_release, tt))))),
        (
          inr (inr (λ e. aside s m.station m.enb (nas.AreaReject 9) c p)),
          (
            inl ((λ e. on_pair s.link m.station m.enb l (later first h at bad e)), (told (nas.AreaReject 12), tt)),
            (inl ((λ e. on_pair s.link m.station m.enb l (later first h at (not bad) e)), ((λ t on. silent _ on), (told nas.AreaAccept, tt))), tt),
          ),
        ),
      ),
    )
message row s m (bodies.Detach first off) p l c = (
  inr (inr (λ h. greeted s off m.station m.enb c p)),
  (
    inr (inl (moved m.station m.enb p, (gone off, tt))),
    (inl ((λ h. on_pair s.link m.station m.enb l (both (not first) (here s m) (both (not first && here s m) (is_served s.stage) h).0).1), (gone off, tt)), tt),
  ),
)
message row s m (bodies.Response res) p l c =
    let fits = bytes_eq res s.res in
    let at = here s m && (number s.stage == 2) in (
      inl ((λ h. here_on s m (number s.stage == 2) l (both at fits h).0), (told (nas.SecurityCommand s.eea s.eia), ((λ t on. silent _ on), tt))),
      (inl ((λ h. here_on s m (number s.stage == 2) l (both at (not fits) h).0), (told nas.AuthReject, (dropped authentication_failure, tt))), tt),
    )
message row s m bodies.Secured p l c = (inl ((λ h. here_on s m (number s.stage == 3) l h), ((λ t on. making _ _ on tt), ((λ t on. silent _ on), tt))), tt)
message row s m bodies.SecurityRefused p l c = (inl ((λ h. here_on s m (number s.stage == 3) l h), (dropped unspecified, tt)), tt)
message row s m bodies.AttachDone p l c = (
  inl ((λ h. here_on s m (number s.stage == 6) l h), ((λ t on. silent _ on), tt)),
  (inl ((λ h. here_on s m (number s.stage == 7) l h), ((λ t on. making _ _ on tt), ((λ t on. silent _ on), tt))), tt),
)
message row s m (bodies.ContextDone addr teid second) p l c = (
  inl ((λ h. here_on s m (number s.stage == 6) l h), ((λ t on. silent _ on), ((λ t on. silent _ on), tt))),
  (
    inl ((λ h. here_on s m (number s.stage == 8) l h), ((λ t on. silent _ on), ((λ t on. making _ _ on tt), ((λ t on. silent _ on), tt)))),
    (inl ((λ h. here_on s m (number s.stage == 10) l h), ((λ t on. silent _ on), ((λ t on. making _ _ on tt), ((λ t on. silent _ on), tt)))), tt),
  ),
)
message row s m bodies.ContextFailed p l c =
    (inl ((λ h. here_on s m ((number s.stage == 6) || (number s.stage == 8)) l h), (dropped unspecified, tt)), (inl ((λ h. here_on s m (number s.stage == 10) l h), (freed unspecified, tt)), tt))
message row s m (bodies.ReleaseAsked cause) p l c =
    (inl ((λ h. here_on s m (is_attaching s.stage) l h), (dropped cause, tt)), (inl ((λ h. here_on s m ((number s.stage == 10) || (number s.stage == 11)) l h), (freed cause, tt)), tt))
message row s m bodies.Released p l c = (inr (inr (λ h. released_in s.registered s)), tt)
message row s m (bodies.Capability octets) p l c = (inr (inr (λ h. same_stage s c _)), tt)
message row s m bodies.Data p l c = (inr (inr (λ h. paged s c)), tt)
message row s m (bodies.PdnRequest pti) p l c = tt
message row s m bodies.PdnAccept p l c = tt
message row s m (bodies.SecondDone addr teid) p l c = tt
message row s m bodies.SecondRefused p l c = tt

-- a row for an answer fits in a stage where the session has a connection
answer : (s : Session) (a : Answer) → IsConnected s → RulesGo s (attach_answer s a ++ service_answer s a ++ [] ++ detach_answer s a)
answer s (answers.Vectors rand autn res key) c =
    (inl ((λ h. awaiting s.stage 1 s.link h refl refl c), ((λ t on. silent _ on), (told (nas.AuthRequest rand autn), ((λ t on. silent _ on), tt)))), tt)
answer s (answers.Located dl ul) c =
    (inl ((λ h. awaiting s.stage 4 s.link h refl refl c), ((λ t on. silent _ on), ((λ t on. making _ _ on tt), ((λ t on. silent _ on), tt)))), tt)
answer s answers.Purged c = tt
answer s (answers.Created sgw teid ip) c =
    (inl ((λ h. awaiting s.stage 5 s.link h refl refl c), ((λ t on. silent _ on), (set_up (accepts.Yes s.plmn s.tac s.pti ip), ((λ t on. silent _ on), tt)))), tt)
answer s answers.Modified c = (inl ((λ h. awaiting s.stage 9 s.link h refl refl c), ((λ t on. silent _ on), ((λ t on. silent _ on), tt))), tt)
answer s answers.Freed c = (inl ((λ h. awaiting s.stage 12 s.link h refl refl c), ((λ t on. silent _ on), (released, tt))), tt)
answer s answers.Deleted c =
    (inl ((λ h. awaiting s.stage 15 s.link h refl refl c), ((λ t on. silent _ on), ((λ t on. making _ _ on tt), (told_unless s.off nas.DetachAccept, (released, tt))))), tt)
answer s (answers.SecondCreated sgw teid ip) c = tt
answer s answers.SecondModified c = tt

base_goes : (row : Subscriber) (s : Session) (input : Input) → IsLink s.link → IsConnected s → IsInput input → Goes (unwrap_or (table_step row s input) (made s []))
unfolding step_table
base_goes row s (inputs.Message m) l c i = rules_go (step_table row s (inputs.Message m)) s l c (message row s m m.body i.pair l c)
base_goes row s (inputs.Answer lane k a) l c i = rules_go (step_table row s (inputs.Answer lane k a)) s l c (answer s a c)

-- ---- a second connection

-- a row of a second connection fits on the session's own connection
here_second : (s : Session) (m : Message) (second : Second) (b : Bool) → IsLink s.link → (here s m && at stages.Connected s && second_at second s && b) ≡ true → IsOn s.link
here_second s m second b l h =
    let here_at = here s m && at stages.Connected s in
    here_on s m (at stages.Connected s) l (both here_at (second_at second s) (both (here_at && second_at second s) b h).0).0

own_message : (row : Subscriber) (s : Session) (m : Message) (b : Body) → IsLink s.link → IsConnected s → RulesMake Goes s (second_message row s m b)
own_message row s m (bodies.PdnRequest pti) l c = (
  (λ h. goes _ (making _ _ (here_second s m seconds.None (has_both row) l h) tt)),
  ((λ h. goes _ (told (nas.PdnReject pti missing_name) s (here_second s m seconds.None (not (has_both row)) l h))), tt),
)
own_message row s m (bodies.SecondDone addr teid) l c =
    ((λ h. record { connected = c; sent = All-nil IsSent }), ((λ h. goes _ (making _ _ (here_on s m (at stages.Connected s) l (both (here s m && at stages.Connected s) (second_at seconds.Accepted s) h).0) tt)), tt))
own_message row s m bodies.PdnAccept l c =
    ((λ h. record { connected = c; sent = All-nil IsSent }), ((λ h. goes _ (making _ _ (here_on s m (at stages.Connected s) l (both (here s m && at stages.Connected s) (second_at seconds.Radio s) h).0) tt)), tt))
own_message row s m _ l c = tt

own_answer : (s : Session) (a : Answer) → IsConnected s → RulesMake Goes s (second_answer s a)
own_answer s (answers.SecondCreated sgw teid ip) c =
    ((λ h. let on = awaiting s.stage 16 s.link h refl refl c in goes _ (making _ _ on (receiver s.link on))), tt)
own_answer s answers.SecondModified c = ((λ h. goes _ (silent _ (awaiting s.stage 17 s.link h refl refl c))), tt)
own_answer s _ c = tt

own : (row : Subscriber) (s : Session) (input : Input) → IsLink s.link → IsConnected s → RulesMake Goes s (second_rules row s input)
own row s (inputs.Message m) l c = own_message row s m m.body l c
own row s (inputs.Answer lane k a) l c = own_answer s a c

both_sent : (s : Session) (effect : Effect) → IsSent effect → IsSent (with_both s effect)
both_sent s (effects.Down (Setup station enb dl ul sgw teid eea eia key accept)) h = h
both_sent s (effects.Down (Nas station enb message)) h = h
both_sent s (effects.Down (Release station enb cause)) h = h
both_sent s (effects.Down (Page plmn tac)) h = h
both_sent s (effects.Down (Erab station enb sgw teid pti ip)) h = h
both_sent s (effects.Down (SetupTwo station enb dl ul sgw teid eea eia key sgw2 teid2)) h = h
both_sent s (effects.Gateway call) h = tt
both_sent s (effects.Subscriber call) h = tt

changed_body : (s : Session) (b : Body) (step : Step) → Goes step → Goes (changed_message s b step)
changed_body s bodies.Service step g =
    let sent = All-map IsSent (with_both s) step.effects (All-weaker IsSent (λ effect. IsSent (with_both s effect)) (both_sent s) step.effects g.sent) in
    one_of Goes (list_any is_setup step.effects) (made (record step.session { second = seconds.Made }) (map (with_both s) step.effects)) step (record { connected = g.connected; sent = sent }) g
changed_body s (bodies.ContextDone addr teid (Some side)) step g =
    one_of Goes (at stages.Connecting s) (made (record step.session { side2_addr = side.addr; side2_teid = side.teid; second = seconds.Radio }) step.effects) step (record { connected = g.connected; sent = g.sent }) g
changed_body s _ step g = g

of_change : (row : Subscriber) (s : Session) (lane : Lane) (k : ℕ) (a : Answer) → IfSome (table_step row s (inputs.Answer lane k a)) Goes → ((step : Step) → Goes step → Goes (changed_answer s a step)) → IfSome (table_step row s (inputs.Answer lane k a)) (λ step. Goes (changed s (inputs.Answer lane k a) step))
of_change row s lane k a base f =
    IfSome_then (table_step row s (inputs.Answer lane k a)) base (λ step g. changed_or Goes (second_at seconds.None s) step (changed_answer s a step) g (λ some. f step g))

-- but for the answer behind which the gateway is told the second bearer's side, a change leaves the stage
changed_to : (row : Subscriber) (s : Session) (lane : Lane) (k : ℕ) (a : Answer) → IsConnected s → IfSome (table_step row s (inputs.Answer lane k a)) Goes → IfSome (table_step row s (inputs.Answer lane k a)) (λ step. Goes (changed s (inputs.Answer lane k a) step))
changed_to row s lane k answers.Modified c base =
    let told = effects.Gateway (gateway.SecondModify s.side2_addr s.side2_teid) in
    let more = made (record (served_step s).session { stage = stages.AwaitSecondModify }) (told ∷ []) in
    modified_makes (λ step. Goes (changed s (inputs.Answer lane k answers.Modified) step)) row s lane k
    (λ h.
    let on = awaiting s.stage 9 s.link h refl refl c in
    let same = goes _ (silent _ on) in
    changed_or Goes (second_at seconds.None s) (served_step s) (changed_answer s answers.Modified (served_step s)) same
    (λ some. one_of Goes (second_at seconds.Radio s) more (served_step s) (goes _ (making _ _ on tt)) same))
changed_to row s lane k (answers.Created sgw teid ip) c base = of_change row s lane k (answers.Created sgw teid ip) base (λ step g. record { connected = g.connected; sent = g.sent })
changed_to row s lane k answers.Deleted c base = of_change row s lane k answers.Deleted base (λ step g. record { connected = g.connected; sent = g.sent })
changed_to row s lane k answers.Freed c base = of_change row s lane k answers.Freed base (λ step g. record { connected = g.connected; sent = g.sent })
changed_to row s lane k a c base = of_change row s lane k a base (λ step g. g)

changed_of : (row : Subscriber) (s : Session) (input : Input) → IsLink s.link → IsConnected s → IsInput input → IfSome (table_step row s input) (λ step. Goes (changed s input step))
changed_of row s (inputs.Message m) l c i =
    let input = inputs.Message m in
    IfSome_then (table_step row s input) (of_some Goes (table_step row s input) (made s []) (base_goes row s input l c i))
    (λ step g. changed_or Goes (second_at seconds.None s) step (changed_message s m.body step) g (λ some. changed_body s m.body step g))
changed_of row s (inputs.Answer lane k a) l c i =
    let input = inputs.Answer lane k a in
    changed_to row s lane k a c (of_some Goes (table_step row s input) (made s []) (base_goes row s input l c i))

step_goes : (row : Subscriber) (s : Session) (input : Input) → IsSession s → IsConnected s → IsInput input → Goes (step_of row s input)
step_goes row s input r c i = step_makes Goes row s input (second_makes Goes row s input (own row s input r.link c) (changed_of row s input r.link c i)) (record { connected = c; sent = All-nil IsSent })

pub keeps_connection : (row : Subscriber) (s : Session) (input : Input) → IsSession s → IsConnected s → IsInput input → IsConnected (step_of row s input).session
keeps_connection row s input r c i = (step_goes row s input r c i).connected

pub sends_to_stations : (row : Subscriber) (s : Session) (input : Input) → IsSession s → IsConnected s → IsInput input → All IsSent (step_of row s input).effects
sends_to_stations row s input r c i = (step_goes row s input r c i).sent
