-- What a line of a trace says: the octets of its text, the message that they are, and what the message says.
use Rattle.std.specs.Prelude.{ℕ, ◌==◌, Bool, true, false, List, [], ◌∷◌, length, find, Option, Some, None, option_map, Result, Ok, Err}
use Rattle.hex.specs.Hex.{decode_of}
use Rattle.hex.specs.declared.error.FromHexError.{FromHexError}
use Rattle.echo_base.specs.declared.reason.Reason.TheVariants.{BadHex, WrongDirection, MissingIe, NasKind}
use Rattle.echo_base.specs.declared.identity.Identity.{Identity}
use Rattle.echo_base.specs.declared.identity.Identity.TheVariants.{Tmsi}
use Rattle.echo_base.specs.declared.refusal.Refusal.{Refusal}
use Rattle.echo_base.specs.Answer.{◌>>=◌, refused}
use Rattle.device_types.specs.declared.message.Body.{Body}
use Rattle.device_types.specs.declared.message.Body.TheVariants.{Attach, Service, Area, Detach, Response, Secured, SecurityRefused, AttachDone, ContextDone, ContextFailed, ReleaseAsked, Released, Capability, Data, PdnRequest, PdnAccept, SecondDone, SecondRefused}
use Rattle.device_types.specs.declared.message.Side.{Side}
use Rattle.device_types.specs.declared.cause.CauseCode.{CauseCode}
use Rattle.s1ap_ies.specs.declared.names.TheConstants as names
use Rattle.s1ap_ies.specs.declared.cause.Cause.{Cause}
use Rattle.s1ap_ies.specs.declared.tai.Tai.{Tai}
use Rattle.s1ap_ies.specs.declared.stmsi.Stmsi.{Stmsi}
use Rattle.s1ap_ies.specs.declared.erab_done.ErabDone.{ErabDone}
use Rattle.s1ap_pdu.specs.declared.pdu.Pdu.{Pdu}
use Rattle.s1ap_pdu.specs.declared.pdu.Pdu.TheVariants.{InitialUeMessage, UplinkNasTransport, InitialContextSetupResponse, ErabSetupResponse, InitialContextSetupFailure, UeContextReleaseRequest, UeContextReleaseComplete, UeCapabilityInfoIndication}
use Rattle.s1ap_pdu.specs.Built.{message_at}
use Rattle.nas_kinds.specs.declared.nas_in.NasIn.{NasIn}
use Rattle.nas_kinds.specs.declared.nas_in.NasIn.TheVariants.{AttachRequest, AttachComplete, DetachRequest, AreaRequest, AuthResponse, SecurityComplete, SecurityReject, ServiceRequest}
use Rattle.nas_kinds.specs.declared.nas_in.NasIn.TheVariants as nas_in
use Rattle.nas_kinds.specs.Kinds.{type_of}
use Rattle.nas_kinds.specs.Reading.{nas_of}
use Rattle.entry_edge.specs.declared.sent.Claim.TheVariants.{Named, Numbered, Noticed}
use Rattle.entry_edge.specs.declared.sent.Sent.{Sent}

-- ---- the text

-- the octets, at least one, that hexadecimal text stands for
abbrev pub some_octets : Result (List ℕ) FromHexError → Result (List ℕ) Refusal
some_octets (Ok []) = Err (refused BadHex)
some_octets (Ok (octet ∷ octets)) = Ok (octet ∷ octets)
some_octets (Err e) = Err (refused BadHex)

unfoldable pub octets_of : List ℕ → Result (List ℕ) Refusal
octets_of text = some_octets (decode_of text)

-- ---- the message

-- An INITIAL UE MESSAGE carries a request, which says which device it is from. A SERVICE REQUEST says it by the S-TMSI; at the end of the PDU that is missing.
abbrev pub service_from : ℕ → Option Stmsi → Result (Identity × Body) Refusal
service_from end None = Err (record { reason = MissingIe names.STMSI; place = end })
service_from end (Some stmsi) = Ok (Tmsi stmsi.tmsi, Service)

abbrev pub request_of : ℕ → Tai → Option Stmsi → NasIn → Result (Identity × Body) Refusal
request_of end tai stmsi (AttachRequest identity eea eia pti) = Ok (identity, Attach tai.plmn tai.tac eea eia pti)
request_of end tai stmsi (DetachRequest off identity) = Ok (identity, Detach true off)
request_of end tai stmsi (AreaRequest identity) = Ok (identity, Area true tai.plmn tai.tac)
request_of end tai stmsi ServiceRequest = service_from end stmsi
request_of end tai stmsi nas = Err (refused (NasKind (type_of nas)))

-- an UPLINK NAS TRANSPORT goes on with a procedure
abbrev pub onward_of : Tai → NasIn → Result Body Refusal
onward_of tai AttachComplete = Ok AttachDone
onward_of tai (DetachRequest off identity) = Ok (Detach false off)
onward_of tai (AreaRequest identity) = Ok (Area false tai.plmn tai.tac)
onward_of tai (AuthResponse res) = Ok (Response res)
onward_of tai SecurityComplete = Ok Secured
onward_of tai (SecurityReject cause) = Ok SecurityRefused
onward_of tai (nas_in.PdnRequest pti) = Ok (PdnRequest pti)
onward_of tai nas_in.PdnAccept = Ok PdnAccept
onward_of tai nas = Err (refused (NasKind (type_of nas)))

-- an E-RAB that is set up: the first item with its E-RAB ID
abbrev pub erab_of : ℕ → List ErabDone → Option ErabDone
erab_of id done = find (λ erab. erab.id == id) done

-- the base station's side of it
abbrev pub side_of : ErabDone → Side
side_of erab = record { addr = erab.address; teid = erab.teid }

-- the context is set up with the default bearer, and may be with the second one
abbrev pub context_from : Option ErabDone → Option ErabDone → Body
context_from None second = ContextFailed
context_from (Some erab) second = ContextDone erab.address erab.teid (option_map side_of second)

abbrev pub context_of : List ErabDone → Body
context_of done = context_from (erab_of names.DEFAULT_ERAB done) (erab_of names.SECOND_ERAB done)

-- the second bearer is set up, or it is refused, as where nothing is set up
abbrev pub second_from : Option ErabDone → Body
second_from None = SecondRefused
second_from (Some erab) = SecondDone erab.address erab.teid

abbrev pub second_of : Option (List ErabDone) → Body
second_of None = SecondRefused
second_of (Some done) = second_from (erab_of names.SECOND_ERAB done)

abbrev pub code_of : Cause → CauseCode
code_of cause = record { group = cause.group; extended = cause.extended; index = cause.index }

abbrev pub named : ℕ → Identity × Body → Result Sent Refusal
named enb said = Ok (record { claim = Named said.0; enb = enb; body = said.1 })

abbrev pub numbered : ℕ → ℕ → Body → Result Sent Refusal
numbered mme enb body = Ok (record { claim = Numbered mme; enb = enb; body = body })

-- a message of the network is refused at its procedure code
abbrev pub wrong_direction : Result Sent Refusal
wrong_direction = Err (record { reason = WrongDirection; place = 1 })

-- what a message of so many octets says: which device it claims to be from, and its body
unfoldable pub sent_of : ℕ → Pdu → Result Sent Refusal
sent_of end (InitialUeMessage enb nas tai cgi rrc stmsi) = nas_of nas >>= request_of end tai stmsi >>= named enb
sent_of end (UplinkNasTransport mme enb nas cgi tai) = nas_of nas >>= onward_of tai >>= numbered mme enb
sent_of end (InitialContextSetupResponse mme enb done) = numbered mme enb (context_of done)
sent_of end (ErabSetupResponse mme enb done) = numbered mme enb (second_of done)
sent_of end (InitialContextSetupFailure mme enb cause) = numbered mme enb ContextFailed
sent_of end (UeContextReleaseRequest mme enb cause) = numbered mme enb (ReleaseAsked (code_of cause))
sent_of end (UeContextReleaseComplete mme enb) = numbered mme enb Released
sent_of end (UeCapabilityInfoIndication mme enb radio) = numbered mme enb (Capability radio)
sent_of end _ = wrong_direction

-- What a line says, whatever came before it: its text, its PDU, and what the message says.
unfoldable pub said_by : List ℕ → Result Sent Refusal
said_by text = do
  octets ← octets_of text
  pdu ← message_at octets
  sent_of (length octets) pdu

-- a notice that data waits for the device with that IMSI; it has no eNB UE S1AP ID, for which 0 stands
abbrev pub notice : ℕ → Sent
notice imsi = record { claim = Noticed imsi; enb = 0; body = Data }

-- the body by which a pair is free again
abbrev pub is_release : Body → Bool
is_release (Attach plmn tac eea eia pti) = false
is_release Service = false
is_release (Area first plmn tac) = false
is_release (Detach first off) = false
is_release (Response res) = false
is_release Secured = false
is_release SecurityRefused = false
is_release AttachDone = false
is_release (ContextDone addr teid second) = false
is_release ContextFailed = false
is_release (ReleaseAsked cause) = false
is_release Released = true
is_release (Capability octets) = false
is_release Data = false
is_release (PdnRequest pti) = false
is_release PdnAccept = false
is_release (SecondDone addr teid) = false
is_release SecondRefused = false
