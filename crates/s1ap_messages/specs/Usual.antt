-- The octets of a message as it is written, octet by octet.
use Rattle.std.specs.Prelude.{◌≡◌, ℕ, ◌+◌, ◌-◌, ◌*◌, ◌<◌, ◌≤◌, List, [], ◌∷◌, ◌++◌, length, Option, Some, None, is_some, IfSome, unwrap_or, if◌then◌else◌}
use Rattle.std.specs.List.{AllByRecursion}
use Rattle.aper_fields.specs.declared.enumerated.EnumValue.{EnumValue}
use Rattle.s1ap_ies.specs.declared.bit_rates.BitRates.{BitRates}
use Rattle.s1ap_ies.specs.declared.ue_ids.UeIds.{UeIds}
use Rattle.s1ap_ies.specs.declared.ue_ids.UeIds.TheVariants.{Pair, Mme}
use Rattle.s1ap_ies.specs.declared.erab_done.ErabDone.{ErabDone}
use Rattle.s1ap_ies.specs.declared.erab_to_setup.ErabToSetup.{ErabToSetup}
use Rattle.aper_octets.specs.Octets.{counted, four_octets, number_octets, ie_octets}
use Rattle.aper_octets.specs.Values.{tai_octets, cgi_octets, stmsi_octets, caps_octets, cause_octets}
use Rattle.protocol_ies.specs.declared.tables.IeRow.{IeRow}
use Rattle.s1ap_pdu.specs.declared.tables.MessageKind.{MessageKind}
use Rattle.s1ap_pdu.specs.Messages.{rows_of}
use Rattle.protocol_ies.specs.Criticalities as level
use Rattle.protocol_ies.specs.Criticalities.{criticality_number}
use Rattle.s1ap_ies.specs.declared.names.TheConstants as names
use Rattle.s1ap_pdu.specs.declared.header.Header.{Header}
use Rattle.s1ap_pdu.specs.declared.pdu.Pdu.{Pdu}
use Rattle.s1ap_pdu.specs.declared.pdu.Pdu.TheVariants as pdu
use Rattle.s1ap_pdu.specs.declared.value.IeValue.TheVariants as value
use Rattle.s1ap_pdu.specs.Values.{FieldValue}
use Rattle.s1ap_pdu.specs.Messages.{outcome_index, header_of, kind_of, values_of}
use Rattle.protocol_ies.specs.Slots.{count_of}
use Rattle.s1ap_pdu.specs.Run.{IsRightValue}

-- ---- values

unfoldable pub rates_octets : BitRates → List ℕ
rates_octets v = number_octets 0 8 v.dl ++ number_octets 0 32 v.ul

-- a root, or one behind the extension mark
unfoldable pub rrc_octets : EnumValue → List ℕ
rrc_octets v = if v.extended then (128 + v.index) ∷ [] else 16 * v.index ∷ []

unfoldable pub ids_octets : UeIds → List ℕ
ids_octets (Pair mme enb) = number_octets 0 4 mme ++ number_octets 0 64 enb
ids_octets (Mme mme) = number_octets 64 16 mme

unfoldable pub done_octets : ErabDone → List ℕ
done_octets v = 2 * v.id ∷ 31 ∷ four_octets v.address ++ four_octets v.teid

-- a NAS-PDU, where there is one
unfoldable pub nas_octets : Option (List ℕ) → List ℕ
nas_octets None = []
nas_octets (Some nas) = counted nas

unfoldable pub setup_octets : ErabToSetup → List ℕ
setup_octets v = ((if is_some v.nas then 64 else 0) + v.id) ∷ 0 ∷ v.qci ∷ v.arp ∷ 15 ∷ 128 ∷ four_octets v.address ++ (four_octets v.teid ++ nas_octets v.nas)

-- ---- IEs

-- the items of a list
unfoldable pub items_octets : {A : Type 0} → ℕ → ℕ → (A → List ℕ) → List A → List ℕ
items_octets id criticality octets [] = []
items_octets id criticality octets (x ∷ xs) = ie_octets id criticality (octets x) ++ items_octets id criticality octets xs

unfoldable pub erabs_octets : {A : Type 0} → ℕ → ℕ → (A → List ℕ) → List A → List ℕ
erabs_octets id criticality octets xs = (length xs - 1) ∷ items_octets id criticality octets xs

-- The octets of a field. One that is absent has none, nor has a value that is always written piece by piece.
abbrev pub octets_of : Option FieldValue → Option (List ℕ)
octets_of (Some (value.Mme mme)) = Some (number_octets 0 64 mme)
octets_of (Some (value.Cause cause)) = Some (cause_octets cause)
octets_of (Some (value.Enb enb)) = Some (number_octets 0 64 enb)
octets_of (Some (value.Bearers bearers)) = Some (erabs_octets names.ERAB_TO_SETUP_ITEM level.reject setup_octets bearers)
octets_of (Some (value.Nas nas)) = Some (counted nas)
octets_of (Some (value.Done done)) = Some (erabs_octets names.ERAB_SETUP_ITEM level.ignore done_octets done)
octets_of (Some (value.Rates rates)) = Some (rates_octets rates)
octets_of (Some (value.Tai tai)) = Some (tai_octets tai)
octets_of (Some (value.Key key)) = Some key
octets_of (Some (value.Radio radio)) = Some (counted radio)
octets_of (Some (value.Stmsi stmsi)) = Some (stmsi_octets stmsi)
octets_of (Some (value.Ids ids)) = Some (ids_octets ids)
octets_of (Some (value.Cgi cgi)) = Some (cgi_octets cgi)
octets_of (Some (value.Caps caps)) = Some (caps_octets caps)
octets_of (Some (value.Rrc rrc)) = Some (rrc_octets rrc)
octets_of _ = None

-- what the IE of a value contains
abbrev pub value_octets : FieldValue → List ℕ
value_octets v = unwrap_or (octets_of (Some v)) []

-- P, where there are octets
abbrev pub Given : Option (List ℕ) → Type 0 → Type 0
Given None P = ⊥
Given (Some octets) P = P

-- a value that has octets
abbrev pub HasForm : FieldValue → Type 0
HasForm v = Given (octets_of (Some v)) (Unit {0})

-- such a value in its range
abbrev pub IsUsualValue : FieldValue → Type 0
IsUsualValue v = Given (octets_of (Some v)) (IsRightValue v)

-- the IEs of a table, with their values
abbrev pub fields_octets : List IeRow → List (Option FieldValue) → List ℕ
fields_octets rows [] = []
fields_octets [] (v ∷ values) = []
fields_octets (row ∷ rows) (None ∷ values) = fields_octets rows values
fields_octets (row ∷ rows) (Some v ∷ values) = ie_octets row.id (criticality_number row.criticality) (value_octets v) ++ fields_octets rows values

-- ---- the message

abbrev pub body_octets : Pdu → List ℕ
body_octets p = 0 ∷ 0 ∷ count_of (values_of p) ∷ fields_octets (rows_of (kind_of p)) (values_of p)

-- a header, and an open type
abbrev pub message_octets : Header → List ℕ → List ℕ
message_octets header body = 32 * outcome_index header.outcome ∷ header.code ∷ 64 * criticality_number header.criticality ∷ counted body

unfoldable pub usual_octets : Pdu → List ℕ
usual_octets p = message_octets (header_of (kind_of p)) (body_octets p)

-- what stands before the IEs of a message, with an octet of zeros in place of the length of its body
abbrev pub beginning : MessageKind → ℕ → List ℕ
beginning kind count = 32 * outcome_index (header_of kind).outcome ∷ (header_of kind).code ∷ 64 * criticality_number (header_of kind).criticality ∷ 0 ∷ 0 ∷ 0 ∷ count ∷ []

-- a message with an octet of zeros in place of the length of its body
unfoldable pub unfinished_octets : Pdu → List ℕ
unfinished_octets p = beginning (kind_of p) (count_of (values_of p)) ++ fields_octets (rows_of (kind_of p)) (values_of p)

-- its fields have octets
abbrev pub HasForms : Pdu → Type 0
HasForms p = AllByRecursion (λ v. IfSome v HasForm) (values_of p)

-- Is it written octet by octet? A list has one E-RAB then, and a radio capability at most 16,000 octets. What stands here with no line is not.
abbrev pub IsPut : Pdu → Type 0
IsPut (pdu.InitialUeMessage enb nas tai cgi rrc stmsi) = Unit {0}
IsPut (pdu.UplinkNasTransport mme enb nas cgi tai) = Unit {0}
IsPut (pdu.DownlinkNasTransport mme enb nas) = Unit {0}
IsPut (pdu.InitialContextSetupRequest mme enb rates bearers caps key) = length bearers ≡ 1
IsPut (pdu.InitialContextSetupResponse mme enb done) = length done ≡ 1
IsPut (pdu.UeContextReleaseRequest mme enb cause) = Unit {0}
IsPut (pdu.UeContextReleaseCommand (Pair mme enb) cause) = Unit {0}
IsPut (pdu.UeContextReleaseComplete mme enb) = Unit {0}
IsPut (pdu.UeCapabilityInfoIndication mme enb radio) = length radio ≤ 16000
IsPut _ = ⊥

-- and are in their ranges
abbrev pub HasUsualValues : Pdu → Type 0
HasUsualValues p = AllByRecursion (λ v. IfSome v IsUsualValue) (values_of p)

-- A message whose fields have octets and are in their ranges, and whose body has a length.
abbrev pub IsUsual : Pdu → Type 0
IsUsual p = HasUsualValues p × (length (body_octets p) < 16384)

-- what the IEs of a kind of message are, and how many
abbrev pub AreFieldsOf : MessageKind → List ℕ → ℕ → Pdu → Type 0
AreFieldsOf kind octets count p = (kind_of p ≡ kind) × (octets ≡ fields_octets (rows_of kind) (values_of p)) × (count ≡ count_of (values_of p)) × HasUsualValues p

-- what such IEs are, and how many, where each row of the table has a value or its place
abbrev pub AreFields : MessageKind → List ℕ → ℕ → List (Option FieldValue) → Type 0
AreFields kind octets count values = (octets ≡ fields_octets (rows_of kind) values) × (length values ≡ length (rows_of kind) → count ≡ count_of values) × AllByRecursion (λ v. IfSome v IsUsualValue) values

-- a value that the short way has room for
abbrev pub IsBrief : FieldValue → Type 0
IsBrief (value.Radio radio) = length radio ≤ 16000
IsBrief _ = Unit {0}

-- ids of an octet
abbrev pub AreSmallIds : List IeRow → Type 0
AreSmallIds rows = AllByRecursion (λ row. row.id < 256) rows

-- the octets of the header of a kind of message
abbrev pub BeginsAs : MessageKind → ℕ → ℕ → ℕ → Type 0
BeginsAs kind outcome code criticality = (outcome ≡ 32 * outcome_index (header_of kind).outcome) × (code ≡ (header_of kind).code) × (criticality ≡ 64 * criticality_number (header_of kind).criticality)
