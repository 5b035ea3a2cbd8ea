-- The messages to base stations.
use Rattle.std.specs.Prelude.{ℕ, ◌*◌, ◌%◌, false, List, [], ◌∷◌, Option, Some, None, unwrap_or}
use Rattle.device_types.specs.declared.subscriber.Subscriber.{Subscriber}
use Rattle.device_types.specs.declared.nas_out.NasOut.TheVariants.{AttachAccept, Activate}
use Rattle.device_types.specs.declared.cause.CauseCode.{CauseCode}
use Rattle.device_types.specs.declared.down.Accept.{Accept}
use Rattle.device_types.specs.declared.down.Accept.TheVariants as accept
use Rattle.device_types.specs.declared.down.Down.{Down}
use Rattle.device_types.specs.declared.down.Down.TheVariants.{Nas, Setup, Release, Page, Erab, SetupTwo}
use Rattle.s1ap_ies.specs.declared.names.TheConstants as names
use Rattle.s1ap_ies.specs.declared.cause.Cause.{Cause}
use Rattle.s1ap_ies.specs.declared.ue_ids.UeIds.TheVariants.{Pair}
use Rattle.s1ap_ies.specs.declared.erab_to_setup.ErabToSetup.{ErabToSetup}
use Rattle.s1ap_ies.specs.declared.erab_to_add.ErabToAdd.{ErabToAdd}
use Rattle.s1ap_pdu.specs.declared.pdu.Pdu.{Pdu}
use Rattle.s1ap_pdu.specs.declared.pdu.Pdu.TheVariants.{DownlinkNasTransport, InitialContextSetupRequest, UeContextReleaseCommand, Paging, ErabSetupRequest}
use Rattle.nas_kinds.specs.Written.{nas_written}

abbrev pub cause_of : CauseCode → Cause
cause_of cause = record { group = cause.group; extended = cause.extended; index = cause.index }

-- Algorithms as S1AP has them (TS 36.413, 9.2.1.40), of those of NAS (TS 24.301, 9.9.3.34): 16 bits, without the first, which is the null algorithm.
abbrev pub algorithms_of : ℕ → ℕ
algorithms_of octet = octet * 2 % 256 * 256

-- the ATTACH ACCEPT in a setup; its access point name is the row's
abbrev pub accept_of : Subscriber → Accept → Option (List ℕ)
accept_of row accept.No = None
accept_of row (accept.Yes plmn tac pti ip) = Some (nas_written (AttachAccept plmn tac pti row.apn ip))

-- a bearer of a setup: QCI 9, priority 8, which neither pre-empts nor is pre-empted
abbrev pub bearer_of : ℕ → ℕ → ℕ → Option (List ℕ) → ErabToSetup
bearer_of id sgw teid nas = record { id = id; qci = 9; arp = 32; address = sgw; teid = teid; nas = nas }

-- the default bearer, and the second one with it
abbrev pub default_of : ℕ → ℕ → Option (List ℕ) → List ErabToSetup
default_of sgw teid nas = bearer_of names.DEFAULT_ERAB sgw teid nas ∷ []

abbrev pub both_of : ℕ → ℕ → ℕ → ℕ → List ErabToSetup
both_of sgw teid sgw2 teid2 = bearer_of names.DEFAULT_ERAB sgw teid None ∷ bearer_of names.SECOND_ERAB sgw2 teid2 None ∷ []

-- the setup of a context with these bearers
abbrev pub setup_of : ℕ → ℕ → ℕ → ℕ → ℕ → ℕ → List ℕ → List ErabToSetup → Pdu
setup_of mme enb dl ul eea eia key bearers = InitialContextSetupRequest mme enb (record { dl = dl; ul = ul }) bearers (record { eea = algorithms_of eea; eia = algorithms_of eia }) key

-- the ACTIVATE DEFAULT EPS BEARER CONTEXT REQUEST of the second connection; its access point name is the row's second one, which the row of an E-RAB has
abbrev pub activate_of : Subscriber → ℕ → ℕ → List ℕ
activate_of row pti ip = nas_written (Activate pti (unwrap_or row.apn2 []) ip)

-- the second bearer as it is added to a context, of the same quality
abbrev pub added_of : ℕ → ℕ → List ℕ → ErabToAdd
added_of sgw teid nas = record { id = names.SECOND_ERAB; qci = 9; arp = 32; address = sgw; teid = teid; nas = nas }

-- the paging of a row in a tracking area, for its packet domain: the index is the IMSI modulo 1024 (TS 36.304, 7.1), and the MME code 1
abbrev pub paging_of : Subscriber → ℕ → ℕ → Pdu
paging_of row plmn tac = Paging (row.imsi % 1024) (record { mmec = 1; tmsi = row.tmsi }) false (record { plmn = plmn; tac = tac } ∷ [])

-- the message of a down; the device's MME UE S1AP ID is its row's number
abbrev pub message_of : Subscriber → Down → Pdu
message_of row (Nas station enb nas) = DownlinkNasTransport row.number enb (nas_written nas)
message_of row (Setup station enb dl ul sgw teid eea eia key accept) = setup_of row.number enb dl ul eea eia key (default_of sgw teid (accept_of row accept))
message_of row (Release station enb cause) = UeContextReleaseCommand (Pair row.number enb) (cause_of cause)
message_of row (Page plmn tac) = paging_of row plmn tac
message_of row (Erab station enb sgw teid pti ip) = ErabSetupRequest row.number enb None (added_of sgw teid (activate_of row pti ip) ∷ [])
message_of row (SetupTwo station enb dl ul sgw teid eea eia key sgw2 teid2) = setup_of row.number enb dl ul eea eia key (both_of sgw teid sgw2 teid2)
