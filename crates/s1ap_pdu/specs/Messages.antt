-- The messages (TS 36.413, 9.1): how each begins, who sends it, and its IEs in order.
use Rattle.std.specs.Prelude.{ℕ, codes, Bool, true, false, List, [], ◌∷◌, Option, Some, None, Result, Ok, Err}
use Rattle.s1ap_ies.specs.declared.names.TheConstants as names
use Rattle.protocol_ies.specs.declared.criticality.Criticality.{Criticality}
use Rattle.protocol_ies.specs.declared.criticality.Criticality.TheVariants.{Reject, Ignore}
use Rattle.protocol_ies.specs.declared.tables.IeRow.{IeRow}
use Rattle.s1ap_pdu.specs.declared.tables.MessageKind.{MessageKind}
use Rattle.s1ap_pdu.specs.declared.tables.MessageKind.TheVariants as kind
use Rattle.s1ap_pdu.specs.declared.header.Header.{Header}
use Rattle.s1ap_pdu.specs.declared.header.Outcome.{Outcome}
use Rattle.s1ap_pdu.specs.declared.header.Outcome.TheVariants.{Initiating, Successful, Unsuccessful}
use Rattle.s1ap_pdu.specs.declared.pdu.Pdu.{Pdu}
use Rattle.s1ap_pdu.specs.declared.pdu.Pdu.TheVariants as pdus
use Rattle.s1ap_pdu.specs.Values.{FieldValue}
use Rattle.s1ap_pdu.specs.Rows.{Rows, last, ◌▸◌, must, may, Taking, taken, Slots, table, values, fields_from}

-- the alternatives of S1AP-PDU (9.3.2)
abbrev pub outcome_index : Outcome → ℕ
outcome_index Initiating = 0
outcome_index Successful = 1
outcome_index Unsuccessful = 2

-- a message
pub record Message : Type 1 where
  -- the values of its fields
  pub Fields : Type 0
  -- its name, as the standard spells it (9.3.3), with Erab for E-RAB
  pub name : List ℕ
  -- which alternative of S1AP-PDU it is
  pub outcome : Outcome
  -- its procedure code (9.3.6)
  pub code : ℕ
  -- the criticality with which it is written
  pub criticality : Criticality
  -- whether it is one that an MME sends, and does not receive
  pub downlink : Bool
  -- its IEs in order
  pub rows : Rows Fields
  -- the message of its fields
  pub make : Taking rows Pdu
  -- the fields of a message that is one of these
  pub part : Pdu → Option Fields

-- INITIAL UE MESSAGE (9.1.7.1)
abbrev pub initial_ue_message : Message
initial_ue_message = record {
  Fields = _;
  name = codes "InitialUEMessage";
  outcome = Initiating;
  code = names.INITIAL_UE_MESSAGE;
  criticality = Ignore;
  downlink = false;
  rows =
      must names.ENB_UE_S1AP_ID Reject ▸
      must names.NAS_PDU Reject ▸
      must names.TAI Reject ▸
      must names.CGI Ignore ▸
      must names.RRC_CAUSE Ignore ▸
      may names.STMSI Reject ▸
      last;
  make = pdus.InitialUeMessage;
  part = elim [ pdus.InitialUeMessage enb nas tai cgi rrc stmsi ↦ Some (enb, (nas, (tai, (cgi, (rrc, (stmsi, tt)))))) | _ ↦ None ];
}

-- UPLINK NAS TRANSPORT (9.1.7.3)
abbrev pub uplink_nas_transport : Message
uplink_nas_transport = record {
  Fields = _;
  name = codes "UplinkNASTransport";
  outcome = Initiating;
  code = names.UPLINK_NAS_TRANSPORT;
  criticality = Ignore;
  downlink = false;
  rows =
      must names.MME_UE_S1AP_ID Reject ▸
      must names.ENB_UE_S1AP_ID Reject ▸
      must names.NAS_PDU Reject ▸
      must names.CGI Ignore ▸
      must names.TAI Ignore ▸
      last;
  make = pdus.UplinkNasTransport;
  part = elim [ pdus.UplinkNasTransport mme enb nas cgi tai ↦ Some (mme, (enb, (nas, (cgi, (tai, tt))))) | _ ↦ None ];
}

-- DOWNLINK NAS TRANSPORT (9.1.7.2)
abbrev pub downlink_nas_transport : Message
downlink_nas_transport = record {
  Fields = _;
  name = codes "DownlinkNASTransport";
  outcome = Initiating;
  code = names.DOWNLINK_NAS_TRANSPORT;
  criticality = Ignore;
  downlink = true;
  rows =
      must names.MME_UE_S1AP_ID Reject ▸
      must names.ENB_UE_S1AP_ID Reject ▸
      must names.NAS_PDU Reject ▸
      last;
  make = pdus.DownlinkNasTransport;
  part = elim [ pdus.DownlinkNasTransport mme enb nas ↦ Some (mme, (enb, (nas, tt))) | _ ↦ None ];
}

-- INITIAL CONTEXT SETUP REQUEST (9.1.4.1)
abbrev pub initial_context_setup_request : Message
initial_context_setup_request = record {
  Fields = _;
  name = codes "InitialContextSetupRequest";
  outcome = Initiating;
  code = names.INITIAL_CONTEXT_SETUP;
  criticality = Reject;
  downlink = true;
  rows =
      must names.MME_UE_S1AP_ID Reject ▸
      must names.ENB_UE_S1AP_ID Reject ▸
      must names.BIT_RATES Reject ▸
      must names.ERABS_TO_SETUP Reject ▸
      must names.SEC_CAPS Reject ▸
      must names.SECURITY_KEY Reject ▸
      last;
  make = pdus.InitialContextSetupRequest;
  part = elim [ pdus.InitialContextSetupRequest mme enb rates bearers caps key ↦ Some (mme, (enb, (rates, (bearers, (caps, (key, tt)))))) | _ ↦ None ];
}

-- INITIAL CONTEXT SETUP RESPONSE (9.1.4.3)
abbrev pub initial_context_setup_response : Message
initial_context_setup_response = record {
  Fields = _;
  name = codes "InitialContextSetupResponse";
  outcome = Successful;
  code = names.INITIAL_CONTEXT_SETUP;
  criticality = Reject;
  downlink = false;
  rows =
      must names.MME_UE_S1AP_ID Ignore ▸
      must names.ENB_UE_S1AP_ID Ignore ▸
      must names.ERABS_DONE Ignore ▸
      last;
  make = pdus.InitialContextSetupResponse;
  part = elim [ pdus.InitialContextSetupResponse mme enb done ↦ Some (mme, (enb, (done, tt))) | _ ↦ None ];
}

-- INITIAL CONTEXT SETUP FAILURE (9.1.4.4)
abbrev pub initial_context_setup_failure : Message
initial_context_setup_failure = record {
  Fields = _;
  name = codes "InitialContextSetupFailure";
  outcome = Unsuccessful;
  code = names.INITIAL_CONTEXT_SETUP;
  criticality = Reject;
  downlink = false;
  rows =
      must names.MME_UE_S1AP_ID Ignore ▸
      must names.ENB_UE_S1AP_ID Ignore ▸
      must names.CAUSE Ignore ▸
      last;
  make = pdus.InitialContextSetupFailure;
  part = elim [ pdus.InitialContextSetupFailure mme enb cause ↦ Some (mme, (enb, (cause, tt))) | _ ↦ None ];
}

-- UE CONTEXT RELEASE REQUEST (9.1.4.5)
abbrev pub ue_context_release_request : Message
ue_context_release_request = record {
  Fields = _;
  name = codes "UEContextReleaseRequest";
  outcome = Initiating;
  code = names.UE_CONTEXT_RELEASE_REQUEST;
  criticality = Ignore;
  downlink = false;
  rows =
      must names.MME_UE_S1AP_ID Reject ▸
      must names.ENB_UE_S1AP_ID Reject ▸
      must names.CAUSE Ignore ▸
      last;
  make = pdus.UeContextReleaseRequest;
  part = elim [ pdus.UeContextReleaseRequest mme enb cause ↦ Some (mme, (enb, (cause, tt))) | _ ↦ None ];
}

-- UE CONTEXT RELEASE COMMAND (9.1.4.6)
abbrev pub ue_context_release_command : Message
ue_context_release_command = record {
  Fields = _;
  name = codes "UEContextReleaseCommand";
  outcome = Initiating;
  code = names.UE_CONTEXT_RELEASE;
  criticality = Reject;
  downlink = true;
  rows =
      must names.UE_IDS Reject ▸
      must names.CAUSE Ignore ▸
      last;
  make = pdus.UeContextReleaseCommand;
  part = elim [ pdus.UeContextReleaseCommand ids cause ↦ Some (ids, (cause, tt)) | _ ↦ None ];
}

-- UE CONTEXT RELEASE COMPLETE (9.1.4.7)
abbrev pub ue_context_release_complete : Message
ue_context_release_complete = record {
  Fields = _;
  name = codes "UEContextReleaseComplete";
  outcome = Successful;
  code = names.UE_CONTEXT_RELEASE;
  criticality = Reject;
  downlink = false;
  rows =
      must names.MME_UE_S1AP_ID Ignore ▸
      must names.ENB_UE_S1AP_ID Ignore ▸
      last;
  make = pdus.UeContextReleaseComplete;
  part = elim [ pdus.UeContextReleaseComplete mme enb ↦ Some (mme, (enb, tt)) | _ ↦ None ];
}

-- UE CAPABILITY INFO INDICATION (9.1.10)
abbrev pub ue_capability_info_indication : Message
ue_capability_info_indication = record {
  Fields = _;
  name = codes "UECapabilityInfoIndication";
  outcome = Initiating;
  code = names.UE_CAPABILITY_INFO_INDICATION;
  criticality = Ignore;
  downlink = false;
  rows =
      must names.MME_UE_S1AP_ID Reject ▸
      must names.ENB_UE_S1AP_ID Reject ▸
      must names.RADIO_CAPABILITY Ignore ▸
      last;
  make = pdus.UeCapabilityInfoIndication;
  part = elim [ pdus.UeCapabilityInfoIndication mme enb radio ↦ Some (mme, (enb, (radio, tt))) | _ ↦ None ];
}

-- PAGING (9.1.6)
abbrev pub paging : Message
paging = record {
  Fields = _;
  name = codes "Paging";
  outcome = Initiating;
  code = names.PAGING;
  criticality = Ignore;
  downlink = true;
  rows =
      must names.UE_INDEX Ignore ▸
      must names.PAGING_ID Ignore ▸
      must names.CN_DOMAIN Ignore ▸
      must names.TAIS Ignore ▸
      last;
  make = pdus.Paging;
  part = elim [ pdus.Paging index id cs tais ↦ Some (index, (id, (cs, (tais, tt)))) | _ ↦ None ];
}

-- E-RAB SETUP REQUEST (9.1.3.1)
abbrev pub erab_setup_request : Message
erab_setup_request = record {
  Fields = _;
  name = codes "ErabSetupRequest";
  outcome = Initiating;
  code = names.ERAB_SETUP;
  criticality = Reject;
  downlink = true;
  rows =
      must names.MME_UE_S1AP_ID Reject ▸
      must names.ENB_UE_S1AP_ID Reject ▸
      may names.BIT_RATES Reject ▸
      must names.ERABS_TO_ADD Reject ▸
      last;
  make = pdus.ErabSetupRequest;
  part = elim [ pdus.ErabSetupRequest mme enb rates bearers ↦ Some (mme, (enb, (rates, (bearers, tt)))) | _ ↦ None ];
}

-- E-RAB SETUP RESPONSE (9.1.3.2)
abbrev pub erab_setup_response : Message
erab_setup_response = record {
  Fields = _;
  name = codes "ErabSetupResponse";
  outcome = Successful;
  code = names.ERAB_SETUP;
  criticality = Reject;
  downlink = false;
  rows =
      must names.MME_UE_S1AP_ID Ignore ▸
      must names.ENB_UE_S1AP_ID Ignore ▸
      may names.ERABS_ADDED Ignore ▸
      last;
  make = pdus.ErabSetupResponse;
  part = elim [ pdus.ErabSetupResponse mme enb added ↦ Some (mme, (enb, (added, tt))) | _ ↦ None ];
}

-- what holds of the message of a kind
abbrev pub by_kind {ℓ} : {B : Type ℓ} → (Message → B) → MessageKind → B
by_kind f kind.InitialUeMessage = f initial_ue_message
by_kind f kind.UplinkNasTransport = f uplink_nas_transport
by_kind f kind.DownlinkNasTransport = f downlink_nas_transport
by_kind f kind.InitialContextSetupRequest = f initial_context_setup_request
by_kind f kind.InitialContextSetupResponse = f initial_context_setup_response
by_kind f kind.InitialContextSetupFailure = f initial_context_setup_failure
by_kind f kind.UeContextReleaseRequest = f ue_context_release_request
by_kind f kind.UeContextReleaseCommand = f ue_context_release_command
by_kind f kind.UeContextReleaseComplete = f ue_context_release_complete
by_kind f kind.UeCapabilityInfoIndication = f ue_capability_info_indication
by_kind f kind.Paging = f paging
by_kind f kind.ErabSetupRequest = f erab_setup_request
by_kind f kind.ErabSetupResponse = f erab_setup_response

abbrev pub message_of : MessageKind → Message
message_of kind = by_kind (λ m. m) kind

abbrev pub kinds : List MessageKind
kinds = kind.InitialUeMessage ∷ kind.UplinkNasTransport ∷ kind.DownlinkNasTransport ∷ kind.InitialContextSetupRequest ∷ kind.InitialContextSetupResponse ∷ kind.InitialContextSetupFailure ∷ kind.UeContextReleaseRequest ∷ kind.UeContextReleaseCommand ∷ kind.UeContextReleaseComplete ∷ kind.UeCapabilityInfoIndication ∷ kind.Paging ∷ kind.ErabSetupRequest ∷ kind.ErabSetupResponse ∷ []

-- the kind of a message
abbrev pub kind_of : Pdu → MessageKind
kind_of (pdus.InitialUeMessage enb nas tai cgi rrc stmsi) = kind.InitialUeMessage
kind_of (pdus.UplinkNasTransport mme enb nas cgi tai) = kind.UplinkNasTransport
kind_of (pdus.DownlinkNasTransport mme enb nas) = kind.DownlinkNasTransport
kind_of (pdus.InitialContextSetupRequest mme enb rates bearers caps key) = kind.InitialContextSetupRequest
kind_of (pdus.InitialContextSetupResponse mme enb done) = kind.InitialContextSetupResponse
kind_of (pdus.InitialContextSetupFailure mme enb cause) = kind.InitialContextSetupFailure
kind_of (pdus.UeContextReleaseRequest mme enb cause) = kind.UeContextReleaseRequest
kind_of (pdus.UeContextReleaseCommand ids cause) = kind.UeContextReleaseCommand
kind_of (pdus.UeContextReleaseComplete mme enb) = kind.UeContextReleaseComplete
kind_of (pdus.UeCapabilityInfoIndication mme enb radio) = kind.UeCapabilityInfoIndication
kind_of (pdus.Paging index id cs tais) = kind.Paging
kind_of (pdus.ErabSetupRequest mme enb rates bearers) = kind.ErabSetupRequest
kind_of (pdus.ErabSetupResponse mme enb added) = kind.ErabSetupResponse

abbrev pub header_of : MessageKind → Header
header_of kind = by_kind (λ m. record { outcome = m.outcome; code = m.code; criticality = m.criticality }) kind

abbrev pub name_of : MessageKind → List ℕ
name_of kind = by_kind (λ m. m.name) kind

-- the messages that an MME sends, and does not receive
abbrev pub is_downlink : MessageKind → Bool
is_downlink kind = by_kind (λ m. m.downlink) kind

-- the IEs of a message in order
abbrev pub rows_of : MessageKind → List IeRow
rows_of kind = by_kind (λ m. table m.rows) kind

-- the values of the fields that there are
abbrev pub values_or_none : {A : Type 0} → Rows A → Option A → List (Option FieldValue)
values_or_none rows None = []
values_or_none rows (Some fields) = values rows fields

-- the values of a message's IEs, one for each row
abbrev pub values_of : Pdu → List (Option FieldValue)
values_of p = by_kind (λ m. values_or_none m.rows (m.part p)) (kind_of p)

abbrev pub made : {A : Type 0} → (A → Pdu) → Result A ℕ → Result Pdu ℕ
made make (Ok fields) = Ok (make fields)
made make (Err id) = Err id

-- the message of the values in its slots, or the first id that is missing
abbrev pub made_from : Message → Slots → Result Pdu ℕ
made_from m slots = made (taken m.rows m.make) (fields_from m.rows 0 slots)

-- the same of a kind of message
unfoldable pub message_from : MessageKind → Slots → Result Pdu ℕ
message_from kind slots = by_kind (λ m. made_from m slots) kind
