-- A session in its ranges stays there, and each effect of a step can be written.
use Rattle.std.proofs.Common.{◌≡◌, ◌==◌, ◌&&◌, ℕ, ◌<◌, ◌≤◌, ◌^◌, ◌-◌, Bool, true, false, cond, List, [], ◌∷◌, ◌++◌, Some, All, min, length, lit<, arith}
use Rattle.std.specs.Prelude.{unwrap_or, map, IsSome}
use Rattle.std.specs.List.{list_any}
use Rattle.std.proofs.lemmas.List.Elements.{All-nil, All-cons, All-append, All-map, All-weaker}
use Rattle.device_types.specs.declared.cause.CauseCode.{CauseCode}
use Rattle.device_types.specs.declared.down.Accept.{Accept}
use Rattle.device_types.specs.declared.down.Accept.TheVariants as accepts
use Rattle.device_types.specs.declared.down.Down.{Down}
use Rattle.device_types.specs.declared.down.Down.TheVariants.{Nas, Setup, Release, Page, Erab, SetupTwo}
use Rattle.device_types.specs.declared.effect.Effect.{Effect}
use Rattle.device_types.specs.declared.effect.Effect.TheVariants as effects
use Rattle.device_types.specs.declared.effect.GwCall.TheVariants as gateway
use Rattle.device_types.specs.declared.input.Answer.{Answer}
use Rattle.device_types.specs.declared.input.Answer.TheVariants as answers
use Rattle.device_types.specs.declared.input.Input.{Input}
use Rattle.device_types.specs.declared.input.Input.TheVariants as inputs
use Rattle.device_types.specs.declared.message.Body.{Body}
use Rattle.device_types.specs.declared.message.Body.TheVariants as bodies
use Rattle.device_types.specs.declared.message.Message.{Message}
use Rattle.device_types.specs.declared.nas_out.NasOut.{NasOut}
use Rattle.device_types.specs.declared.nas_out.NasOut.TheVariants as nas
use Rattle.device_types.specs.declared.session.Bearer.{Bearer}
use Rattle.device_types.specs.declared.session.Bearer.TheVariants as bearers
use Rattle.device_types.specs.declared.session.Link.{Link}
use Rattle.device_types.specs.declared.session.Link.TheVariants.{Off, On}
use Rattle.device_types.specs.declared.session.Second.TheVariants as seconds
use Rattle.device_types.specs.declared.session.Session.{Session}
use Rattle.device_types.specs.declared.session.Stage.{Stage}
use Rattle.device_types.specs.declared.session.Stage.TheVariants as stages
use Rattle.device_types.specs.declared.step.Step.{Step}
use Rattle.device_types.specs.declared.subscriber.Subscriber.{Subscriber}
use Rattle.device_types.specs.Acts.{Act, made, follow, run, sets, enters, tells, tells_unless, tells_to, sets_up, releases, moves_connection, left_behind, drops_ue, drops_at, frees_bearers, frees_at, nas_cause, normal_release, authentication_failure, detach, unspecified, station_of, enb_of}
use Rattle.device_types.specs.Answer.{IsAnswer}
use Rattle.device_types.specs.AreaUpdate.{area_message}
use Rattle.device_types.specs.Attach.{attach_message, attach_answer}
use Rattle.device_types.specs.Cause.{IsCauseCode, IsStoredCause, cause_roots}
use Rattle.device_types.specs.Detach.{detach_message, detach_answer, leaves_at, leaves}
use Rattle.device_types.specs.Down.{IsDown, IsReceiver, AreRates, IsTunnel, AreAlgorithms, IsAccept}
use Rattle.device_types.specs.Effect.{IsWritable}
use Rattle.device_types.specs.Input.{IsInput}
use Rattle.device_types.specs.Keys.{IsKey, full}
use Rattle.device_types.specs.Message.{IsArea, IsPair, IsFrom, IsBody}
use Rattle.device_types.specs.Nas.{IsNasOut, HasNasFields}
use Rattle.device_types.specs.Octets.{AreOctets}
use Rattle.device_types.specs.Rule.{Rule, fitting, at}
use Rattle.device_types.specs.Second.{second_at, second_message, second_answer, second_rules, with_both, is_setup, changed_message, changed_answer, changed, MayBeOf}
use Rattle.device_types.specs.Service.{service_message, service_answer}
use Rattle.device_types.specs.Session.{IsSession, IsLink}
use Rattle.device_types.specs.StepTable.{step_table, table_step, step_of}
use Rattle.device_types.proofs.Entitled.{awaits_create}
use Rattle.device_types.proofs.Steps.{RulesMake, laws_make, changed_or, one_of}

-- ---- the ranges of a session, by the fields that change together, where C says what its cause is

abbrev IsOffer : ℕ → ℕ → ℕ → Type 0
IsOffer eea eia pti = (eea < 256) × (eia < 256) × (pti < 256)

abbrev IsSecret : List ℕ → List ℕ → Type 0
IsSecret res key = (length res ≤ 16) × AreOctets res × IsKey key

abbrev IsBearer : ℕ → ℕ → ℕ → Type 0
IsBearer sgw teid ip = (sgw < 2 ^ 32) × (teid < 2 ^ 32) × (ip < 2 ^ 32)

abbrev IsSecond : ℕ → ℕ → ℕ → ℕ → ℕ → ℕ → Type 0
IsSecond pti sgw teid ip addr side = (pti < 256) × IsBearer sgw teid ip × IsTunnel addr side

abbrev pub Ranged : (CauseCode → Type 0) → Session → Type 0
Ranged C s = IsLink s.link × IsArea s.plmn s.tac × IsOffer s.eea s.eia s.pti × IsSecret s.res s.key × AreRates s.dl s.ul × IsBearer s.sgw s.teid s.ip × IsTunnel s.side_addr s.side_teid × C s.cause × (s.radio < 2 ^ 32) × IsSecond s.pti2 s.sgw2 s.teid2 s.ip2 s.side2_addr s.side2_teid

pub ranged : (s : Session) → IsSession s → Ranged IsStoredCause s
ranged s r = (r.link, r.area, (r.eea, r.eia, r.pti), (r.res, r.res_octets, r.key), (r.dl, r.ul), (r.sgw, r.teid, r.ip), (r.side_addr, r.side_teid), r.cause, r.radio, (r.pti2, (r.sgw2, r.teid2, r.ip2), (r.side2_addr, r.side2_teid)))

pub ranged_with : (C : CauseCode → Type 0) (s : Session) → IsSession s → C s.cause → Ranged C s
ranged_with C s r c = (r.link, r.area, (r.eea, r.eia, r.pti), (r.res, r.res_octets, r.key), (r.dl, r.ul), (r.sgw, r.teid, r.ip), (r.side_addr, r.side_teid), c, r.radio, (r.pti2, (r.sgw2, r.teid2, r.ip2), (r.side2_addr, r.side2_teid)))

pub session_from : (C : CauseCode → Type 0) (s : Session) → (C s.cause → IsStoredCause s.cause) → Ranged C s → IsSession s
session_from C s k r = record {
  link = r.0;
  area = r.1;
  eea = r.2.0;
  eia = r.2.1;
  pti = r.2.2;
  res = r.3.0;
  res_octets = r.3.1;
  key = r.3.2;
  dl = r.4.0;
  ul = r.4.1;
  sgw = r.5.0;
  teid = r.5.1;
  ip = r.5.2;
  side_addr = r.6.0;
  side_teid = r.6.1;
  cause = k r.7;
  radio = r.8;
  pti2 = r.9.0;
  sgw2 = r.9.1.0;
  teid2 = r.9.1.1;
  ip2 = r.9.1.2;
  side2_addr = r.9.2.0;
  side2_teid = r.9.2.1;
}

-- ---- what can be written, where C says which causes; no row of the step table makes a message of a second bearer

abbrev DownIs : (CauseCode → Type 0) → Down → Type 0
DownIs C (Nas station enb message) = IsReceiver station enb × IsNasOut message × HasNasFields message
DownIs C (Setup station enb dl ul sgw teid eea eia key accept) = IsReceiver station enb × AreRates dl ul × IsTunnel sgw teid × AreAlgorithms eea eia × IsKey key × IsAccept accept
DownIs C (Release station enb cause) = IsReceiver station enb × C cause
DownIs C (Page plmn tac) = IsArea plmn tac
DownIs C (Erab station enb sgw teid pti ip) = ⊥
DownIs C (SetupTwo station enb dl ul sgw teid eea eia key sgw2 teid2) = ⊥

abbrev EffectIs : (CauseCode → Type 0) → Effect → Type 0
EffectIs C (effects.Down down) = DownIs C down
EffectIs C (effects.Gateway call) = Unit {0}
EffectIs C (effects.Subscriber call) = Unit {0}

-- the same with those of a second bearer, whose setup needs A
abbrev DownIn : (CauseCode → Type 0) → Type 0 → Down → Type 0
DownIn C A (Erab station enb sgw teid pti ip) = IsReceiver station enb × IsTunnel sgw teid × (pti < 256) × (ip < 2 ^ 32) × A
DownIn C A (SetupTwo station enb dl ul sgw teid eea eia key sgw2 teid2) = IsReceiver station enb × AreRates dl ul × IsTunnel sgw teid × AreAlgorithms eea eia × IsKey key × IsTunnel sgw2 teid2
DownIn C A down = DownIs C down

abbrev EffectIn : (CauseCode → Type 0) → Type 0 → Effect → Type 0
EffectIn C A (effects.Down down) = DownIn C A down
EffectIn C A (effects.Gateway call) = Unit {0}
EffectIn C A (effects.Subscriber call) = Unit {0}

down_is : (row : Subscriber) (down : Down) → DownIn IsCauseCode (IsSome row.apn2) down → IsDown row down
down_is row (Nas station enb message) h = h
down_is row (Setup station enb dl ul sgw teid eea eia key accept) h = h
down_is row (Release station enb cause) h = h
down_is row (Page plmn tac) h = h
down_is row (Erab station enb sgw teid pti ip) h = h
down_is row (SetupTwo station enb dl ul sgw teid eea eia key sgw2 teid2) h = h

writable : (row : Subscriber) (effect : Effect) → EffectIn IsCauseCode (IsSome row.apn2) effect → IsWritable row effect
writable row (effects.Down down) h = down_is row down h
writable row (effects.Gateway call) h = tt
writable row (effects.Subscriber call) h = tt

down_in : (C : CauseCode → Type 0) (A : Type 0) (down : Down) → DownIs C down → DownIn C A down
down_in C A (Nas station enb message) h = h
down_in C A (Setup station enb dl ul sgw teid eea eia key accept) h = h
down_in C A (Release station enb cause) h = h
down_in C A (Page plmn tac) h = h
down_in C A (Erab station enb sgw teid pti ip) h = absurd h
down_in C A (SetupTwo station enb dl ul sgw teid eea eia key sgw2 teid2) h = absurd h

effect_in : (C : CauseCode → Type 0) (A : Type 0) (effect : Effect) → EffectIs C effect → EffectIn C A effect
effect_in C A (effects.Down down) h = down_in C A down h
effect_in C A (effects.Gateway call) h = tt
effect_in C A (effects.Subscriber call) h = tt

-- ---- acts and rows

pub record Right (C : CauseCode → Type 0) (step : Step) : Type 0 where
  pub session : Ranged C step.session
  pub effects : All (EffectIs C) step.effects

abbrev Rights : (CauseCode → Type 0) → Act → Type 0
Rights C act = (s : Session) → Ranged C s → Right C (act s)

abbrev AllRight : (CauseCode → Type 0) → List Act → Type 0
AllRight C [] = Unit {0}
AllRight C (act ∷ acts) = Rights C act × AllRight C acts

abbrev RulesRight : (CauseCode → Type 0) → List Rule → Type 0
RulesRight C [] = Unit {0}
RulesRight C (r ∷ rs) = AllRight C r.acts × RulesRight C rs

follow_right : (C : CauseCode → Type 0) (acts : List Act) (step : Step) → Right C step → AllRight C acts → Right C (follow step acts)
follow_right C [] step r k = r
follow_right C (act ∷ acts) step r k =
    let rest = follow_right C acts (act step.session) (k.0 step.session r.session) k.1 in
    record { session = rest.session; effects = All-append (EffectIs C) step.effects (follow (act step.session) acts).effects r.effects rest.effects }

run_right : (C : CauseCode → Type 0) (acts : List Act) (s : Session) → Ranged C s → AllRight C acts → Right C (run acts s)
run_right C [] s r k = record { session = r; effects = All-nil (EffectIs C) }
run_right C (act ∷ acts) s r k = follow_right C acts (act s) (k.0 s r) k.1

rules_right : (C : CauseCode → Type 0) (rs : List Rule) (s : Session) → Ranged C s → RulesRight C rs → Right C (unwrap_or (fitting rs s) (made s []))
rules_right C [] s h k = record { session = h; effects = All-nil (EffectIs C) }
rules_right C (r ∷ rs) s h k =
    elim r.fits as (λ b. Right C (unwrap_or (cond b (Some (run r.acts s)) (fitting rs s)) (made s [])))
    [ true ↦ run_right C r.acts s h k.0 | false ↦ rules_right C rs s h k.1 ]

-- ---- single acts

silent : (C : CauseCode → Type 0) (s : Session) → Ranged C s → Right C (made s [])
silent C s r = record { session = r; effects = All-nil (EffectIs C) }

making : (C : CauseCode → Type 0) (s : Session) (effect : Effect) → Ranged C s → EffectIs C effect → Right C (made s (effect ∷ []))
making C s effect r h = record { session = r; effects = All-cons (EffectIs C) effect [] h (All-nil (EffectIs C)) }

set : (C : CauseCode → Type 0) (change : Session → Session) → ((s : Session) → Ranged C s → Ranged C (change s)) → Rights C (sets change)
set C change k s r = silent C (change s) (k s r)

entered : (C : CauseCode → Type 0) (stage : Stage) → Rights C (enters stage)
entered C stage s r = silent C (record s { stage = stage }) r

receiver : (link : Link) → IsLink link → IsReceiver (station_of link) (enb_of link)
receiver Off l = (lit< tt, lit< tt)
receiver (On station enb) l = (l.station_most, l.enb_most)

told : (C : CauseCode → Type 0) (message : NasOut) → IsNasOut message → HasNasFields message → Rights C (tells message)
told C message h fields s r = making C s _ r (receiver s.link r.0, h, fields)

told_unless : (C : CauseCode → Type 0) (off : Bool) (message : NasOut) → IsNasOut message → HasNasFields message → Rights C (tells_unless off message)
told_unless C true message h fields s r = silent C s r
told_unless C false message h fields s r = told C message h fields s r

told_to : (C : CauseCode → Type 0) (station enb : ℕ) (message : NasOut) → IsPair station enb → IsNasOut message → HasNasFields message → Rights C (tells_to station enb message)
told_to C station enb message p h fields s r = making C s _ r ((p.station_most, p.enb_most), h, fields)

set_up : (C : CauseCode → Type 0) (accept : Accept) → IsAccept accept → Rights C (sets_up accept)
set_up C accept h s r = making C s _ r (receiver s.link r.0, r.4, (r.5.0, r.5.1), (r.2.0, r.2.1), r.3.2, h)

released : (C : CauseCode → Type 0) → Rights C releases
released C s r = making C _ _ r (receiver s.link r.0, r.7)

called : (C : CauseCode → Type 0) (s : Session) (effect : Effect) → Ranged C s → EffectIs C effect → Right C (made s (effect ∷ []))
called C s effect r h = making C s effect r h

nas_code : (index : ℕ) → index < 4 → IsCauseCode (nas_cause index)
unfolding cause_roots
nas_code index low = (lit< tt, low)

left : (C : CauseCode → Type 0) → C normal_release → (link : Link) (station enb : ℕ) → IsLink link → All (EffectIs C) (left_behind link station enb)
left C n Off station enb l = All-nil (EffectIs C)
left C n (On was_station was_enb) station enb l =
    elim ((was_station == station) && (was_enb == enb)) as (λ b. All (EffectIs C) (cond b [] (effects.Down (Release was_station was_enb normal_release) ∷ [])))
    [ true ↦ All-nil (EffectIs C) | false ↦ All-cons (EffectIs C) (effects.Down (Release was_station was_enb normal_release)) [] ((l.station_most, l.enb_most), n) (All-nil (EffectIs C)) ]

with_link : (C : CauseCode → Type 0) (link : Link) → IsLink link → (s : Session) → Ranged C s → Ranged C (record s { link = link })
with_link C link l s r = (l, r.1, r.2, r.3, r.4, r.5, r.6, r.7, r.8, r.9)

with_cause : (C : CauseCode → Type 0) (cause : CauseCode) → C cause → (s : Session) → Ranged C s → Ranged C (record s { cause = cause })
with_cause C cause c s r = (r.0, r.1, r.2, r.3, r.4, r.5, r.6, c, r.8, r.9)

with_area : (C : CauseCode → Type 0) (plmn tac : ℕ) → IsArea plmn tac → (s : Session) → Ranged C s → Ranged C (record s { plmn = plmn; tac = tac })
with_area C plmn tac a s r = (r.0, a, r.2, r.3, r.4, r.5, r.6, r.7, r.8, r.9)

with_side : (C : CauseCode → Type 0) (addr teid : ℕ) → IsTunnel addr teid → (s : Session) → Ranged C s → Ranged C (record s { side_addr = addr; side_teid = teid })
with_side C addr teid h s r = (r.0, r.1, r.2, r.3, r.4, r.5, h, r.7, r.8, r.9)

moved : (C : CauseCode → Type 0) → C normal_release → (station enb : ℕ) → IsPair station enb → Rights C (moves_connection station enb)
unfolding moves_connection
moved C n station enb p s r = record { session = with_link C (On station enb) p s r; effects = left C n s.link station enb r.0 }

dropped_at : (C : CauseCode → Type 0) (bearer : Bearer) → Rights C (drops_at bearer)
dropped_at C bearers.None s r = released C s r
dropped_at C bearers.Made s r = making C _ _ r tt
dropped_at C bearers.Active s r = making C _ _ r tt

dropped : (C : CauseCode → Type 0) (cause : CauseCode) → C cause → Rights C (drops_ue cause)
unfolding drops_ue
dropped C cause c s r = dropped_at C s.bearer (record s { cause = cause; registered = false }) (with_cause C cause c s r)

freed_at : (C : CauseCode → Type 0) (bearer : Bearer) → Rights C (frees_at bearer)
freed_at C bearers.None s r = released C s r
freed_at C bearers.Made s r = released C s r
freed_at C bearers.Active s r = making C _ _ r tt

freed : (C : CauseCode → Type 0) (cause : CauseCode) → C cause → Rights C (frees_bearers cause)
unfolding frees_bearers
freed C cause c s r = freed_at C s.bearer (record s { cause = cause }) (with_cause C cause c s r)

left_all : (C : CauseCode → Type 0) → C detach → (bearer : Bearer) (off : Bool) → AllRight C (leaves_at bearer off)
left_all C d bearers.None off = (told_unless C off nas.DetachAccept tt tt, (dropped C detach d, tt))
left_all C d bearers.Made off = ((λ s r. silent C _ (with_cause C detach d s r)), ((λ s r. making C _ _ r tt), ((λ s r. silent C _ r), tt)))
left_all C d bearers.Active off = ((λ s r. silent C _ (with_cause C detach d s r)), ((λ s r. making C _ _ r tt), ((λ s r. silent C _ r), tt)))

gone : (C : CauseCode → Type 0) → C detach → (off : Bool) → Rights C (leaves off)
gone C d off s r = run_right C (leaves_at s.bearer off) s r (left_all C d s.bearer off)

greeted : (C : CauseCode → Type 0) (off : Bool) (station enb : ℕ) → IsPair station enb → AllRight C (cond off [] (tells_to station enb nas.DetachAccept ∷ []))
greeted C true station enb p = tt
greeted C false station enb p = (told_to C station enb nas.DetachAccept p tt tt, tt)

radio_low : (n : ℕ) → min n (2 ^ 32 - 1) < 2 ^ 32
radio_low n = omega arith

full_key : (key : List ℕ) → IsKey key → IsKey (full key)
full_key [] k = absurd (omega (arith, k.count))
full_key (octet ∷ octets) k = k

-- ---- the table

message : (C : CauseCode → Type 0) (k : (c : CauseCode) → IsCauseCode c → C c) (row : Subscriber) (s : Session) → Ranged C s → (m : Message) (b : Body) → IsFrom b m.station m.enb → IsBody b → RulesRight C (attach_message row s m b ++ service_message s m b ++ area_message row s m b ++ detach_message s m b)
message C k row s q m (bodies.Attach plmn tac eea eia pti) p i =
    let n = k normal_release (nas_code 0 (lit< tt)) in (
      (moved C n _ _ p, (told C (nas.AttachReject 12) tt (lit< tt), (dropped C normal_release n, tt))),
      ((moved C n _ _ p, ((λ t r. silent C _ (r.0, i.0, (i.1, i.2, i.3), r.3, r.4, r.5, r.6, r.7, r.8, r.9)), ((λ t r. making C _ _ r tt), ((λ t r. silent C _ r), tt)))), tt),
    )
message C k row s q m bodies.Service p i =
    let n = k normal_release (nas_code 0 (lit< tt)) in
    ((moved C n _ _ p, (set_up C accepts.No tt, ((λ t r. silent C _ r), tt))), ((told_to C m.station m.enb (nas.ServiceReject 10) p tt (lit< tt), tt), tt))
message C k row s q m (bodies.Area first plmn tac) p i =
    let n = k normal_release (nas_code 0 (lit< tt)) in (
      (moved C n _ _ p, (told C (nas.AreaReject 12) tt (lit< tt), (freed C normal_release n, tt))),
      (
        (moved C n _ _ p, ((λ t r. silent C _ (with_area C plmn tac i t r)), (told C nas.AreaAccept tt tt, (freed C normal_release n, tt)))),
        (
          (told_to C m.station m.enb (nas.AreaReject 9) p tt (lit< tt), tt),
          (
            (told C (nas.AreaReject 12) tt (lit< tt), tt),
            (((λ t r. silent C _ (with_area C plmn tac i t r)), (told C nas.AreaAccept tt tt, tt)), tt),
          ),
        ),
      ),
    )
message C k row s q m (bodies.Detach first off) p i =
    let n = k normal_release (nas_code 0 (lit< tt)) in
    let d = k detach (nas_code 2 (lit< tt)) in
    (greeted C off m.station m.enb p, ((moved C n _ _ p, (gone C d off, tt)), ((gone C d off, tt), tt)))
message C k row s q m (bodies.Response res) p i =
    ((told C (nas.SecurityCommand s.eea s.eia) tt (q.2.0, q.2.1), ((λ t r. silent C _ r), tt)), ((told C nas.AuthReject tt tt, (dropped C authentication_failure (k _ (nas_code 1 (lit< tt))), tt)), tt))
message C k row s q m bodies.Secured p i = (((λ t r. making C _ _ r tt), ((λ t r. silent C _ r), tt)), tt)
message C k row s q m bodies.SecurityRefused p i = ((dropped C unspecified (k _ (nas_code 3 (lit< tt))), tt), tt)
message C k row s q m bodies.AttachDone p i =
    (((λ t r. silent C _ r), tt), (((λ t r. making C _ _ r tt), ((λ t r. silent C _ r), tt)), tt))
message C k row s q m (bodies.ContextDone addr teid second) p i = (
  ((λ t r. silent C _ (with_side C addr teid (i.0, i.1) t r)), ((λ t r. silent C _ r), tt)),
  (
    ((λ t r. silent C _ (with_side C addr teid (i.0, i.1) t r)), ((λ t r. making C _ _ r tt), ((λ t r. silent C _ r), tt))),
    (((λ t r. silent C _ (with_side C addr teid (i.0, i.1) t r)), ((λ t r. making C _ _ r tt), ((λ t r. silent C _ r), tt))), tt),
  ),
)
message C k row s q m bodies.ContextFailed p i =
    let u = k unspecified (nas_code 3 (lit< tt)) in ((dropped C unspecified u, tt), ((freed C unspecified u, tt), tt))
message C k row s q m (bodies.ReleaseAsked cause) p i = ((dropped C cause (k cause i), tt), ((freed C cause (k cause i), tt), tt))
message C k row s q m bodies.Released p i = (((λ t r. silent C _ (with_link C Off tt t r)), ((λ t r. silent C _ r), tt)), tt)
message C k row s q m (bodies.Capability octets) p i = (((λ t r. silent C _ (r.0, r.1, r.2, r.3, r.4, r.5, r.6, r.7, radio_low (length octets), r.9)), tt), tt)
message C k row s q m bodies.Data p i = (((λ t r. making C _ _ r r.1), tt), tt)
message C k row s q m (bodies.PdnRequest pti) p i = tt
message C k row s q m bodies.PdnAccept p i = tt
message C k row s q m (bodies.SecondDone addr teid) p i = tt
message C k row s q m bodies.SecondRefused p i = tt

answer : (C : CauseCode → Type 0) (row : Subscriber) (s : Session) → Ranged C s → (a : Answer) → IsAnswer a → RulesRight C (attach_answer s a ++ service_answer s a ++ [] ++ detach_answer s a)
answer C row s q (answers.Vectors rand autn res key) i =
    (((λ t r. silent C _ (r.0, r.1, r.2, (i.res_most, i.res_octets, full_key key i.key), r.4, r.5, r.6, r.7, r.8, r.9)), (told C (nas.AuthRequest rand autn) (i.rand, i.autn) (i.rand_octets, i.autn_octets), ((λ t r. silent C _ r), tt))), tt)
answer C row s q (answers.Located dl ul) i =
    (((λ t r. silent C _ (r.0, r.1, r.2, r.3, i, r.5, r.6, r.7, r.8, r.9)), ((λ t r. making C _ _ r tt), ((λ t r. silent C _ r), tt))), tt)
answer C row s q answers.Purged i = tt
answer C row s q (answers.Created sgw teid ip) i =
    (((λ t r. silent C _ (r.0, r.1, r.2, r.3, r.4, i, r.6, r.7, r.8, r.9)), (set_up C (accepts.Yes s.plmn s.tac s.pti ip) (q.1, q.2.2, i.2), ((λ t r. silent C _ r), tt))), tt)
answer C row s q answers.Modified i = (((λ t r. silent C _ r), ((λ t r. silent C _ r), tt)), tt)
answer C row s q answers.Freed i = (((λ t r. silent C _ r), (released C, tt)), tt)
answer C row s q answers.Deleted i =
    (((λ t r. silent C _ r), ((λ t r. making C _ _ r tt), (told_unless C s.off nas.DetachAccept tt tt, (released C, tt)))), tt)
answer C row s q (answers.SecondCreated sgw teid ip) i = tt
answer C row s q answers.SecondModified i = tt

right : (C : CauseCode → Type 0) (k : (c : CauseCode) → IsCauseCode c → C c) (row : Subscriber) (s : Session) (input : Input) → Ranged C s → IsInput input → Right C (unwrap_or (table_step row s input) (made s []))
unfolding step_table
right C k row s (inputs.Message m) r i = rules_right C (step_table row s (inputs.Message m)) s r (message C k row s r m m.body i.pair i.body)
right C k row s (inputs.Answer lane n a) r i = rules_right C (step_table row s (inputs.Answer lane n a)) s r (answer C row s r a i)

-- ---- a second connection

pub record RightIn (C : CauseCode → Type 0) (A : Type 0) (step : Step) : Type 0 where
  pub session : Ranged C step.session
  pub effects : All (EffectIn C A) step.effects

silent_in : (C : CauseCode → Type 0) (A : Type 0) (s : Session) → Ranged C s → RightIn C A (made s [])
silent_in C A s r = record { session = r; effects = All-nil (EffectIn C A) }

making_in : (C : CauseCode → Type 0) (A : Type 0) (s : Session) (effect : Effect) → Ranged C s → EffectIn C A effect → RightIn C A (made s (effect ∷ []))
making_in C A s effect r h = record { session = r; effects = All-cons (EffectIn C A) effect [] h (All-nil (EffectIn C A)) }

right_in : (C : CauseCode → Type 0) (A : Type 0) (step : Step) → Right C step → RightIn C A step
right_in C A step r = record { session = r.session; effects = All-weaker (EffectIs C) (EffectIn C A) (effect_in C A) step.effects r.effects }

with_side2 : (C : CauseCode → Type 0) (addr teid : ℕ) → IsTunnel addr teid → (s : Session) → Ranged C s → Ranged C (record s { side2_addr = addr; side2_teid = teid })
with_side2 C addr teid h s r = (r.0, r.1, r.2, r.3, r.4, r.5, r.6, r.7, r.8, (r.9.0, r.9.1, h))

own_message : (C : CauseCode → Type 0) (A : Type 0) (row : Subscriber) (s : Session) → Ranged C s → (m : Message) (b : Body) → IsBody b → RulesMake (RightIn C A) s (second_message row s m b)
own_message C A row s r m (bodies.PdnRequest pti) i =
    ((λ h. making_in C A _ _ (r.0, r.1, r.2, r.3, r.4, r.5, r.6, r.7, r.8, (i, r.9.1, r.9.2)) tt), ((λ h. making_in C A _ _ r (receiver s.link r.0, tt, (i, lit< tt))), tt))
own_message C A row s r m (bodies.SecondDone addr teid) i =
    ((λ h. silent_in C A _ (with_side2 C addr teid i s r)), ((λ h. making_in C A _ _ (with_side2 C addr teid i s r) tt), tt))
own_message C A row s r m bodies.PdnAccept i = ((λ h. silent_in C A _ r), ((λ h. making_in C A _ _ r tt), tt))
own_message C A row s r m _ i = tt

own_answer : (C : CauseCode → Type 0) (A : Type 0) (s : Session) → Ranged C s → (at stages.AwaitSecond s ≡ true → A) → (a : Answer) → IsAnswer a → RulesMake (RightIn C A) s (second_answer s a)
own_answer C A s r k (answers.SecondCreated sgw teid ip) i =
    ((λ h. making_in C A _ _ (r.0, r.1, r.2, r.3, r.4, r.5, r.6, r.7, r.8, (r.9.0, i, r.9.2)) (receiver s.link r.0, (i.0, i.1), r.9.0, i.2, k h)), tt)
own_answer C A s r k answers.SecondModified i = ((λ h. silent_in C A _ r), tt)
own_answer C A s r k _ i = tt

own : (C : CauseCode → Type 0) (A : Type 0) (row : Subscriber) (s : Session) (input : Input) → Ranged C s → (at stages.AwaitSecond s ≡ true → A) → IsInput input → RulesMake (RightIn C A) s (second_rules row s input)
own C A row s (inputs.Message m) r k i = own_message C A row s r m m.body i.body
own C A row s (inputs.Answer lane n a) r k i = own_answer C A s r k a i

both_in : (C : CauseCode → Type 0) (A : Type 0) (s : Session) → Ranged C s → (effect : Effect) → EffectIs C effect → EffectIn C A (with_both s effect)
both_in C A s r (effects.Down (Setup station enb dl ul sgw teid eea eia key accept)) h = (h.0, h.1, h.2, h.3, h.4, (r.9.1.0, r.9.1.1))
both_in C A s r (effects.Down (Nas station enb message)) h = h
both_in C A s r (effects.Down (Release station enb cause)) h = h
both_in C A s r (effects.Down (Page plmn tac)) h = h
both_in C A s r (effects.Down (Erab station enb sgw teid pti ip)) h = absurd h
both_in C A s r (effects.Down (SetupTwo station enb dl ul sgw teid eea eia key sgw2 teid2)) h = absurd h
both_in C A s r (effects.Gateway call) h = tt
both_in C A s r (effects.Subscriber call) h = tt

changed_body : (C : CauseCode → Type 0) (A : Type 0) (s : Session) → Ranged C s → (b : Body) → IsBody b → (step : Step) → Right C step → RightIn C A (changed_message s b step)
changed_body C A s r bodies.Service i step q =
    let both = All-map (EffectIn C A) (with_both s) step.effects (All-weaker (EffectIs C) (λ effect. EffectIn C A (with_both s effect)) (both_in C A s r) step.effects q.effects) in
    one_of (RightIn C A) (list_any is_setup step.effects) (made (record step.session { second = seconds.Made }) (map (with_both s) step.effects)) step (record { session = q.session; effects = both }) (right_in C A step q)
changed_body C A s r (bodies.ContextDone addr teid (Some side)) i step q =
    let same = right_in C A step q in
    one_of (RightIn C A) (at stages.Connecting s) (made (record step.session { side2_addr = side.addr; side2_teid = side.teid; second = seconds.Radio }) step.effects) step
    (record { session = with_side2 C side.addr side.teid i.2 step.session q.session; effects = same.effects }) same
changed_body C A s r _ i step q = right_in C A step q

changed_to : (C : CauseCode → Type 0) (A : Type 0) (s : Session) (a : Answer) (step : Step) → Right C step → RightIn C A (changed_answer s a step)
changed_to C A s (answers.Created sgw teid ip) step q = record { session = q.session; effects = (right_in C A step q).effects }
changed_to C A s answers.Deleted step q = record { session = q.session; effects = (right_in C A step q).effects }
changed_to C A s answers.Freed step q = record { session = q.session; effects = (right_in C A step q).effects }
changed_to C A s answers.Modified step q =
    let same = right_in C A step q in
    let call = effects.Gateway (gateway.SecondModify s.side2_addr s.side2_teid) in
    one_of (RightIn C A) (second_at seconds.Radio s) (made (record step.session { stage = stages.AwaitSecondModify }) (step.effects ++ call ∷ [])) step
    (record { session = q.session; effects = All-append (EffectIn C A) step.effects (call ∷ []) same.effects (All-cons (EffectIn C A) call [] tt (All-nil (EffectIn C A))) }) same
changed_to C A s _ step q = right_in C A step q

change : (C : CauseCode → Type 0) (A : Type 0) (s : Session) (input : Input) → Ranged C s → IsInput input → (step : Step) → Right C step → RightIn C A (changed s input step)
change C A s (inputs.Message m) r i step q =
    changed_or (RightIn C A) (second_at seconds.None s) step (changed_message s m.body step) (right_in C A step q) (λ some. changed_body C A s r m.body i.body step q)
change C A s (inputs.Answer lane n a) r i step q =
    changed_or (RightIn C A) (second_at seconds.None s) step (changed_answer s a step) (right_in C A step q) (λ some. changed_to C A s a step q)

all_right : (C : CauseCode → Type 0) (k : (c : CauseCode) → IsCauseCode c → C c) (A : Type 0) (row : Subscriber) (s : Session) (input : Input) → Ranged C s → (at stages.AwaitSecond s ≡ true → A) → IsInput input → RightIn C A (step_of row s input)
all_right C k A row s input r a i = laws_make (Right C) (RightIn C A) row s input (own C A row s input r a i) (right C k row s input r i) (change C A s input r i) (silent_in C A s r)

-- ---- the laws

roots_low : (group : ℕ) → cause_roots group < 64
unfolding cause_roots
roots_low group =
    elim (group == 0) as (λ a. cond a 36 (cond (group == 1) 2 (cond (group == 2) 4 (cond (group == 3) 7 6))) < 64) [
      | true ↦ lit< tt
      | false ↦ elim (group == 1) as (λ b. cond b 2 (cond (group == 2) 4 (cond (group == 3) 7 6)) < 64) [
        | true ↦ lit< tt
        | false ↦ elim (group == 2) as (λ c. cond c 4 (cond (group == 3) 7 6) < 64)
            [ true ↦ lit< tt | false ↦ elim (group == 3) as (λ d. cond d 7 6 < 64) [ true ↦ lit< tt | false ↦ lit< tt ] ]
      ]
    ]

-- a cause that can be written can be stored
pub stored : (cause : CauseCode) → IsCauseCode cause → IsStoredCause cause
stored cause c = (c.0, by_mark cause.extended c.1)
  where
    by_mark : (b : Bool) → cond b (cause.index < 64) (cause.index < cause_roots cause.group) → cause.index < 64
    by_mark true h = h
    by_mark false h = let low = roots_low cause.group in omega arith

pub keeps_ranges : (row : Subscriber) (s : Session) (input : Input) → IsSession s → IsInput input → IsSession (step_of row s input).session
keeps_ranges row s input r i = session_from IsStoredCause (step_of row s input).session (λ c. c) (all_right IsStoredCause stored (Unit {0}) row s input (ranged s r) (λ h. tt) i).session

pub keeps_cause : (row : Subscriber) (s : Session) (input : Input) → IsSession s → IsCauseCode s.cause → IsInput input → IsCauseCode (step_of row s input).session.cause
keeps_cause row s input r c i = (all_right IsCauseCode (λ d h. h) (Unit {0}) row s input (ranged_with IsCauseCode s r c) (λ h. tt) i).session.7

all_writable : (row : Subscriber) (es : List Effect) → All (EffectIn IsCauseCode (IsSome row.apn2)) es → All (IsWritable row) es
all_writable row es a = All-weaker (EffectIn IsCauseCode (IsSome row.apn2)) (IsWritable row) (writable row) es a

-- a second bearer is set up for a row with its access point name
pub writes_effects : (row : Subscriber) (s : Session) (input : Input) → IsSession s → IsCauseCode s.cause → MayBeOf row s → IsInput input → All (IsWritable row) (step_of row s input).effects
writes_effects row s input r c b i =
    let name : at stages.AwaitSecond s ≡ true → IsSome row.apn2 = λ h. (awaits_create row s.stage h b.0).0 in
    all_writable row (step_of row s input).effects (all_right IsCauseCode (λ d h. h) (IsSome row.apn2) row s input (ranged_with IsCauseCode s r c) name i).effects
