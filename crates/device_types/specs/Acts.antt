-- The acts of which the rows of the step table are made. An act changes a session, and makes effects.
use Rattle.std.specs.Prelude.{ℕ, ◌==◌, Bool, if◌then◌else◌, ◌&&◌, true, false, List, [], ◌∷◌, ◌++◌}
use Rattle.device_types.specs.declared.cause.CauseCode.{CauseCode}
use Rattle.device_types.specs.declared.down.Accept.{Accept}
use Rattle.device_types.specs.declared.down.Down.TheVariants.{Nas, Setup, Release, Page, Erab}
use Rattle.device_types.specs.declared.effect.Effect.{Effect}
use Rattle.device_types.specs.declared.effect.Effect.TheVariants as effects
use Rattle.device_types.specs.declared.effect.GwCall.{GwCall}
use Rattle.device_types.specs.declared.effect.GwCall.TheVariants as gateway
use Rattle.device_types.specs.declared.effect.SubCall.{SubCall}
use Rattle.device_types.specs.declared.nas_out.NasOut.{NasOut}
use Rattle.device_types.specs.declared.session.Bearer.{Bearer}
use Rattle.device_types.specs.declared.session.Bearer.TheVariants as bearers
use Rattle.device_types.specs.declared.session.Link.{Link}
use Rattle.device_types.specs.declared.session.Link.TheVariants.{Off, On}
use Rattle.device_types.specs.declared.session.Session.{Session}
use Rattle.device_types.specs.declared.session.Stage.{Stage}
use Rattle.device_types.specs.declared.session.Stage.TheVariants.{Releasing, AwaitRelease, AwaitDelete}
use Rattle.device_types.specs.declared.step.Step.{Step}

abbrev pub Act : Type 0
Act = Session → Step

-- ---- acts one after another

abbrev pub made : Session → List Effect → Step
made s effects = record { session = s; effects = effects }

-- these effects, and then a step
abbrev pub behind : List Effect → Step → Step
behind before step = made step.session (before ++ step.effects)

abbrev pub follow : Step → List Act → Step
follow step [] = step
follow step (act ∷ acts) = behind step.effects (follow (act step.session) acts)

-- each act works on the session that the one before it left; the effects stand in the order of the acts
abbrev pub run : List Act → Session → Step
run [] s = made s []
run (act ∷ acts) s = follow (act s) acts

-- ---- causes (TS 36.413, 9.2.1.3: those of the group NAS)

abbrev pub nas_cause : ℕ → CauseCode
nas_cause index = record { group = 2; extended = false; index = index }

abbrev pub normal_release : CauseCode
normal_release = nas_cause 0

abbrev pub authentication_failure : CauseCode
authentication_failure = nas_cause 1

abbrev pub detach : CauseCode
detach = nas_cause 2

abbrev pub unspecified : CauseCode
unspecified = nas_cause 3

-- ---- changes of the session

abbrev pub sets : (Session → Session) → Act
sets change s = made (change s) []

abbrev pub enters : Stage → Act
enters stage s = made (record s { stage = stage }) []

-- ---- messages to the device

-- where a message on the session's connection goes; where there is none, to no base station
abbrev pub station_of : Link → ℕ
station_of Off = 0
station_of (On station enb) = station

abbrev pub enb_of : Link → ℕ
enb_of Off = 0
enb_of (On station enb) = enb

abbrev pub nas_to : ℕ → ℕ → NasOut → Effect
nas_to station enb nas = effects.Down (Nas station enb nas)

-- a NAS message on the session's connection
abbrev pub told : NasOut → Session → Effect
told nas s = nas_to (station_of s.link) (enb_of s.link) nas

abbrev pub tells : NasOut → Act
tells nas s = made s (told nas s ∷ [])

abbrev pub tells_unless : Bool → NasOut → Act
tells_unless off nas s = if off then made s [] else made s (told nas s ∷ [])

-- a NAS message to another connection
abbrev pub tells_to : ℕ → ℕ → NasOut → Act
tells_to station enb nas s = made s (nas_to station enb nas ∷ [])

-- the setup of the device's context, with its bearer (TS 23.401, 5.3.2.1 step 17 and 5.3.4.1 step 4)
abbrev pub setup : Accept → Session → Effect
setup accept s = effects.Down (Setup (station_of s.link) (enb_of s.link) s.dl s.ul s.sgw s.teid s.eea s.eia s.key accept)

abbrev pub sets_up : Accept → Act
sets_up accept s = made s (setup accept s ∷ [])

-- the setup of the second bearer, with what the device asked for (TS 23.401, 5.10.2 step 7)
abbrev pub second_setup : Session → Effect
second_setup s = effects.Down (Erab (station_of s.link) (enb_of s.link) s.sgw2 s.teid2 s.pti2 s.ip2)

abbrev pub sets_up_second : Act
sets_up_second s = made s (second_setup s ∷ [])

-- the release of the device's context, for the session's cause (TS 23.401, 5.3.5 step 4)
abbrev pub release : Session → Effect
release s = effects.Down (Release (station_of s.link) (enb_of s.link) s.cause)

abbrev pub releases : Act
releases s = made (record s { stage = Releasing }) (release s ∷ [])

-- the paging of the device in its tracking area (TS 23.401, 5.3.4.3 step 3)
abbrev pub page : Session → Effect
page s = effects.Down (Page s.plmn s.tac)

abbrev pub pages : Act
pages s = made s (page s ∷ [])

-- ---- calls of the peers

abbrev pub calls : GwCall → Act
calls call s = made s (effects.Gateway call ∷ [])

abbrev pub asks : SubCall → Act
asks call s = made s (effects.Subscriber call ∷ [])

-- ---- the S1 connection, the UE and its radio bearers

-- what releases another connection that the device had
abbrev pub left_behind : Link → ℕ → ℕ → List Effect
left_behind Off station enb = []
left_behind (On was_station was_enb) station enb =
    if (was_station == station) && (was_enb == enb) then [] else (effects.Down (Release was_station was_enb normal_release) ∷ [])

-- the S1 connection is moved: the device is on this one now, and another one that it had is released
unfoldable pub moves_connection : ℕ → ℕ → Act
moves_connection station enb s = made (record s { link = On station enb }) (left_behind s.link station enb)

abbrev pub drops_at : Bearer → Act
drops_at bearers.None s = releases s
drops_at bearers.Made s = made (record s { off = true; stage = AwaitDelete }) (effects.Gateway gateway.Delete ∷ [])
drops_at bearers.Active s = made (record s { off = true; stage = AwaitDelete }) (effects.Gateway gateway.Delete ∷ [])

-- the UE is dropped: it is not registered; its session at the gateway is deleted first, where it has one, and then its context released
unfoldable pub drops_ue : CauseCode → Act
drops_ue cause s = drops_at s.bearer (record s { cause = cause; registered = false })

abbrev pub frees_at : Bearer → Act
frees_at bearers.None s = releases s
frees_at bearers.Made s = releases s
frees_at bearers.Active s = made (record s { stage = AwaitRelease }) (effects.Gateway gateway.Release ∷ [])

-- the radio bearers are freed: the gateway lets go of the base station first, where it has one, and then the context is released (TS 23.401, 5.3.5)
unfoldable pub frees_bearers : CauseCode → Act
frees_bearers cause s = frees_at s.bearer (record s { cause = cause })
