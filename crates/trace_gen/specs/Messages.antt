-- The messages of a device (TS 36.413, 9.1): base station 1 sends them. Device i has eNB and MME UE S1AP ID i.
use Rattle.std.specs.Prelude.{ℕ, ◌+◌, false, List, [], ◌∷◌, ◌++◌, codes, Option, Some, None}
use Rattle.hex.specs.Hex.{encode_lower}
use Rattle.aper_fields.specs.declared.enumerated.EnumValue.{EnumValue}
use Rattle.s1ap_ies.specs.declared.names.TheConstants as names
use Rattle.s1ap_ies.specs.declared.tai.Tai.{Tai}
use Rattle.s1ap_ies.specs.declared.cgi.Cgi.{Cgi}
use Rattle.s1ap_ies.specs.declared.stmsi.Stmsi.{Stmsi}
use Rattle.s1ap_ies.specs.declared.cause.Cause.{Cause}
use Rattle.s1ap_ies.specs.declared.erab_done.ErabDone.{ErabDone}
use Rattle.s1ap_pdu.specs.declared.pdu.Pdu.{Pdu}
use Rattle.s1ap_pdu.specs.declared.pdu.Pdu.TheVariants.{InitialUeMessage, UplinkNasTransport, InitialContextSetupResponse, UeContextReleaseRequest, UeContextReleaseComplete, UeCapabilityInfoIndication}
use Rattle.s1ap_pdu.specs.Run.{written}
use Rattle.trace_gen.specs.declared.script.Sending.{Sending}
use Rattle.trace_gen.specs.declared.script.Sending.TheVariants.{AttachRequest, AuthenticationResponse, SecurityComplete, AttachContext, RadioCapability, AttachComplete, ReleaseRequest, ReleaseComplete, ServiceRequest, ServiceContext, AreaRequest, DetachRequest}
use Rattle.trace_gen.specs.declared.script.Sent.{Sent}
use Rattle.trace_gen.specs.Subscribers.{imsi_of}
use Rattle.trace_gen.specs.Nas as nas

-- tracking area 1 and cell 1 of PLMN 208 93
abbrev pub area : Tai
area = record { plmn = 0x02f839; tac = 1 }

abbrev pub cell : Cgi
cell = record { plmn = 0x02f839; cell = 1 }

-- RRC establishment causes (TS 36.413, 9.2.1.3a)
abbrev pub signalling : EnumValue
signalling = record { extended = false; index = 3 }

abbrev pub data_wanted : EnumValue
data_wanted = record { extended = false; index = 4 }

abbrev pub initial : ℕ → List ℕ → EnumValue → Option Stmsi → Pdu
initial device message why stmsi = InitialUeMessage device message area cell why stmsi

abbrev pub uplink : ℕ → List ℕ → Pdu
uplink device message = UplinkNasTransport device device message cell area

-- the default bearer, and the tunnel's end at the base station: 192.168.0.2, TEID 2
abbrev pub context_made : ℕ → Pdu
context_made device = InitialContextSetupResponse device device (record { id = names.DEFAULT_ERAB; address = 0xc0a80002; teid = 2 } ∷ [])

-- radio network, user inactivity (9.2.1.3)
abbrev pub inactivity : Cause
inactivity = record { group = 0; extended = false; index = 20 }

abbrev pub message_of : ℕ → Sending → Pdu
message_of device AttachRequest = initial device (nas.attach_request (imsi_of device)) signalling None
message_of device AuthenticationResponse = uplink device nas.authentication_response
message_of device SecurityComplete = uplink device nas.security_complete
message_of device AttachContext = context_made device
message_of device RadioCapability = UeCapabilityInfoIndication device device (0x01 ∷ 0x02 ∷ [])
message_of device AttachComplete = uplink device nas.attach_complete
message_of device ReleaseRequest = UeContextReleaseRequest device device inactivity
message_of device ReleaseComplete = UeContextReleaseComplete device device
message_of device ServiceRequest = initial device nas.service_request data_wanted (Some (record { mmec = 1; tmsi = device }))
message_of device ServiceContext = context_made device
message_of device AreaRequest = initial device (nas.area_request device) signalling None
message_of device DetachRequest = uplink device (nas.detach_request device)

-- the base station, and the octets of the message
abbrev pub trace_line : Sent → List ℕ
trace_line sent = codes "1 " ++ encode_lower (written (message_of sent.device sent.sending))
