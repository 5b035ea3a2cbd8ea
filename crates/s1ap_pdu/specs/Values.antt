-- The IEs that the messages have (TS 36.413, 9.2): the id of each, which of the values it is, and its type.
use Rattle.std.specs.Borrow.{Bor}
use Rattle.std.specs.Prelude.{◌≡◌, ℕ, ◌==◌, Bool, true, false, refl, List, [], ◌∷◌, map, Option, Some, None, option_map, IfSome}
use Rattle.s1ap_ies.specs.declared.erab_to_setup.ErabToSetup.{ErabToSetup}
use Rattle.s1ap_ies.specs.declared.erab_to_add.ErabToAdd.{ErabToAdd}
use Rattle.s1ap_ies.specs.declared.erab_done.ErabDone.{ErabDone}
use Rattle.s1ap_ies.specs.declared.tai.Tai.{Tai}
use Rattle.aper_fields.specs.Asn1.{AsnType, Variant, integer, enumerated, octet_string, fixed_octets, by_test, variant, format, takes_some, IsSound}
use Rattle.s1ap_ies.specs.declared.names.TheConstants as names
use Rattle.s1ap_ies.specs.Values as types
use Rattle.s1ap_pdu.specs.declared.value.IeValue as declared
use Rattle.s1ap_pdu.specs.declared.value.IeValue.TheVariants as value

-- the value of an IE
abbrev pub FieldValue : Type 0
FieldValue = declared.IeValue (List ℕ) (List ErabToSetup) (List ErabDone) (List Tai) (List ErabToAdd)

-- ---- values that are lent, as they are seen

abbrev pub LentValue : Type 0
LentValue = declared.IeValue (Bor (List ℕ)) (Bor (List ErabToSetup)) (Bor (List ErabDone)) (Bor (List Tai)) (Bor (List ErabToAdd))

abbrev pub seen : LentValue → FieldValue
seen (value.Mme mme) = value.Mme mme
seen (value.Cause cause) = value.Cause cause
seen (value.Enb enb) = value.Enb enb
seen (value.ToAdd bearers) = value.ToAdd bearers.now
seen (value.Bearers bearers) = value.Bearers bearers.now
seen (value.Nas nas) = value.Nas nas.now
seen (value.Added done) = value.Added done.now
seen (value.Paging stmsi) = value.Paging stmsi
seen (value.Tais tais) = value.Tais tais.now
seen (value.Done done) = value.Done done.now
seen (value.Rates rates) = value.Rates rates
seen (value.Tai tai) = value.Tai tai
seen (value.Key key) = value.Key key.now
seen (value.Radio radio) = value.Radio radio.now
seen (value.Index index) = value.Index index
seen (value.Stmsi stmsi) = value.Stmsi stmsi
seen (value.Ids ids) = value.Ids ids
seen (value.Cgi cgi) = value.Cgi cgi
seen (value.Caps caps) = value.Caps caps
seen (value.Domain cs) = value.Domain cs
seen (value.Rrc rrc) = value.Rrc rrc

abbrev pub all_seen : List (Option LentValue) → List (Option FieldValue)
all_seen values = map (option_map seen) values

-- ---- IEs

-- an IE
pub record IeType : Type 1 where
  -- its id (9.3.6)
  pub id : ℕ
  -- what it is a value of
  pub Value : Type 0
  -- its type in ASN.1
  pub asn1 : AsnType Value
  -- which of the values are its own
  pub kind : Variant Value FieldValue
  -- its open types have room for what they contain, and it takes at least a bit
  pub sound : IsSound asn1
  pub some : takes_some asn1 ≡ true

-- an IE of an id and a type, and of its variant
abbrev pub ie_type : {A : Type 0} → ℕ → (asn1 : AsnType A) → (make : A → FieldValue) → (part : FieldValue → Option A) → ((a : A) → part (make a) ≡ Some a) → ((v : FieldValue) → IfSome (part v) (λ a. v ≡ make a)) → IsSound asn1 → takes_some asn1 ≡ true → IeType
ie_type id asn1 make part back again sound some = record { id = id; Value = _; asn1 = asn1; kind = record { make = make; part = part; back = back; again = again }; sound = sound; some = some }

-- its type among those of all values
abbrev pub type_of : IeType → AsnType FieldValue
type_of e = variant e.kind e.asn1

-- MME UE S1AP ID (9.2.3.3)
abbrev pub mme : IeType
mme = ie_type names.MME_UE_S1AP_ID (integer 0 names.MOST_MME_UE_S1AP_ID refl) value.Mme (elim [ value.Mme v ↦ Some v | _ ↦ None ]) (λ v. refl) (elim [ value.Mme v ↦ refl | _ ↦ tt ]) tt refl

-- Cause (9.2.1.3)
abbrev pub cause : IeType
cause = ie_type names.CAUSE types.cause value.Cause (elim [ value.Cause v ↦ Some v | _ ↦ None ]) (λ v. refl) (elim [ value.Cause v ↦ refl | _ ↦ tt ]) types.cause_sound refl

-- eNB UE S1AP ID (9.2.3.4)
abbrev pub enb : IeType
enb = ie_type names.ENB_UE_S1AP_ID (integer 0 names.MOST_ENB_UE_S1AP_ID refl) value.Enb (elim [ value.Enb v ↦ Some v | _ ↦ None ]) (λ v. refl) (elim [ value.Enb v ↦ refl | _ ↦ tt ]) tt refl

-- E-RAB to be Setup List of bearers that are added (9.1.3.1)
abbrev pub erabs_to_add : IeType
erabs_to_add = ie_type names.ERABS_TO_ADD types.erabs_to_add value.ToAdd (elim [ value.ToAdd v ↦ Some v | _ ↦ None ]) (λ v. refl) (elim [ value.ToAdd v ↦ refl | _ ↦ tt ]) types.add_sound refl

-- E-RAB to Be Setup List (9.1.4.1)
abbrev pub erabs_to_setup : IeType
erabs_to_setup = ie_type names.ERABS_TO_SETUP types.erabs_to_setup value.Bearers (elim [ value.Bearers v ↦ Some v | _ ↦ None ]) (λ v. refl) (elim [ value.Bearers v ↦ refl | _ ↦ tt ]) types.setup_sound refl

-- NAS-PDU (9.2.3.5)
abbrev pub nas_pdu : IeType
nas_pdu = ie_type names.NAS_PDU types.nas_pdu value.Nas (elim [ value.Nas v ↦ Some v | _ ↦ None ]) (λ v. refl) (elim [ value.Nas v ↦ refl | _ ↦ tt ]) tt refl

-- E-RAB Setup List of bearers that were added (9.1.3.2)
abbrev pub erabs_added : IeType
erabs_added = ie_type names.ERABS_ADDED types.erabs_added value.Added (elim [ value.Added v ↦ Some v | _ ↦ None ]) (λ v. refl) (elim [ value.Added v ↦ refl | _ ↦ tt ]) types.done_sound refl

-- UE Paging Identity (9.2.3.13)
abbrev pub paging_id : IeType
paging_id = ie_type names.PAGING_ID types.paging_id value.Paging (elim [ value.Paging v ↦ Some v | _ ↦ None ]) (λ v. refl) (elim [ value.Paging v ↦ refl | _ ↦ tt ]) types.paging_id_sound refl

-- List of TAIs (9.1.6)
abbrev pub tais : IeType
tais = ie_type names.TAIS types.tais value.Tais (elim [ value.Tais v ↦ Some v | _ ↦ None ]) (λ v. refl) (elim [ value.Tais v ↦ refl | _ ↦ tt ]) types.tai_item_sound refl

-- E-RAB Setup List (9.1.4.3)
abbrev pub erabs_done : IeType
erabs_done = ie_type names.ERABS_DONE types.erabs_done value.Done (elim [ value.Done v ↦ Some v | _ ↦ None ]) (λ v. refl) (elim [ value.Done v ↦ refl | _ ↦ tt ]) types.done_sound refl

-- UE Aggregate Maximum Bit Rate (9.2.1.20)
abbrev pub bit_rates : IeType
bit_rates = ie_type names.BIT_RATES types.bit_rates value.Rates (elim [ value.Rates v ↦ Some v | _ ↦ None ]) (λ v. refl) (elim [ value.Rates v ↦ refl | _ ↦ tt ]) (tt, tt) refl

-- TAI (9.2.3.16)
abbrev pub tai : IeType
tai = ie_type names.TAI types.tai value.Tai (elim [ value.Tai v ↦ Some v | _ ↦ None ]) (λ v. refl) (elim [ value.Tai v ↦ refl | _ ↦ tt ]) (refl, refl) refl

-- Security Key (9.2.1.41): BIT STRING (SIZE (256))
abbrev pub security_key : IeType
security_key = ie_type names.SECURITY_KEY (fixed_octets names.SECURITY_KEY_OCTETS refl) value.Key (elim [ value.Key v ↦ Some v | _ ↦ None ]) (λ v. refl) (elim [ value.Key v ↦ refl | _ ↦ tt ]) tt refl

-- UE Radio Capability (9.2.1.27)
abbrev pub radio_capability : IeType
radio_capability = ie_type names.RADIO_CAPABILITY (octet_string names.MOST_OCTETS refl) value.Radio (elim [ value.Radio v ↦ Some v | _ ↦ None ]) (λ v. refl) (elim [ value.Radio v ↦ refl | _ ↦ tt ]) tt refl

-- UE Identity Index Value (9.2.3.10)
abbrev pub ue_index : IeType
ue_index = ie_type names.UE_INDEX types.ue_index value.Index (elim [ value.Index v ↦ Some v | _ ↦ None ]) (λ v. refl) (elim [ value.Index v ↦ refl | _ ↦ tt ]) refl refl

-- S-TMSI (9.2.3.6)
abbrev pub stmsi : IeType
stmsi = ie_type names.STMSI types.stmsi value.Stmsi (elim [ value.Stmsi v ↦ Some v | _ ↦ None ]) (λ v. refl) (elim [ value.Stmsi v ↦ refl | _ ↦ tt ]) (refl, refl) refl

-- UE S1AP IDs (9.1.4.6)
abbrev pub ue_ids : IeType
ue_ids = ie_type names.UE_IDS types.ue_ids value.Ids (elim [ value.Ids v ↦ Some v | _ ↦ None ]) (λ v. refl) (elim [ value.Ids v ↦ refl | _ ↦ tt ]) ((tt, tt), tt) refl

-- E-UTRAN CGI (9.2.1.38)
abbrev pub cgi : IeType
cgi = ie_type names.CGI types.cgi value.Cgi (elim [ value.Cgi v ↦ Some v | _ ↦ None ]) (λ v. refl) (elim [ value.Cgi v ↦ refl | _ ↦ tt ]) (refl, refl) refl

-- UE Security Capabilities (9.2.1.40)
abbrev pub sec_caps : IeType
sec_caps = ie_type names.SEC_CAPS types.sec_caps value.Caps (elim [ value.Caps v ↦ Some v | _ ↦ None ]) (λ v. refl) (elim [ value.Caps v ↦ refl | _ ↦ tt ]) (refl, refl) refl

-- CN Domain (9.2.3.22)
abbrev pub cn_domain : IeType
cn_domain = ie_type names.CN_DOMAIN types.cn_domain value.Domain (elim [ value.Domain v ↦ Some v | _ ↦ None ]) (λ v. refl) (elim [ value.Domain v ↦ refl | _ ↦ tt ]) tt refl

-- RRC Establishment Cause (9.2.1.3a)
abbrev pub rrc_cause : IeType
rrc_cause = ie_type names.RRC_CAUSE (enumerated names.RRC_CAUSE_ROOTS true refl) value.Rrc (elim [ value.Rrc v ↦ Some v | _ ↦ None ]) (λ v. refl) (elim [ value.Rrc v ↦ refl | _ ↦ tt ]) tt refl

-- what holds of the IE that a value is one of
abbrev pub by_ie {ℓ} : {B : Type ℓ} → (IeType → B) → FieldValue → B
by_ie f (value.Mme v) = f mme
by_ie f (value.Cause v) = f cause
by_ie f (value.Enb v) = f enb
by_ie f (value.ToAdd v) = f erabs_to_add
by_ie f (value.Bearers v) = f erabs_to_setup
by_ie f (value.Nas v) = f nas_pdu
by_ie f (value.Added v) = f erabs_added
by_ie f (value.Paging v) = f paging_id
by_ie f (value.Tais v) = f tais
by_ie f (value.Done v) = f erabs_done
by_ie f (value.Rates v) = f bit_rates
by_ie f (value.Tai v) = f tai
by_ie f (value.Key v) = f security_key
by_ie f (value.Radio v) = f radio_capability
by_ie f (value.Index v) = f ue_index
by_ie f (value.Stmsi v) = f stmsi
by_ie f (value.Ids v) = f ue_ids
by_ie f (value.Cgi v) = f cgi
by_ie f (value.Caps v) = f sec_caps
by_ie f (value.Domain v) = f cn_domain
by_ie f (value.Rrc v) = f rrc_cause

abbrev pub id_of : FieldValue → ℕ
id_of v = by_ie (λ e. e.id) v

abbrev pub asn1_of : FieldValue → AsnType FieldValue
asn1_of v = by_ie type_of v

-- ---- the list of IEs

-- its values are of its type and of its id
pub record IsOwn (e : IeType) : Type 1 where
  pub spelled : (a : e.Value) (at : ℕ) (run : List Bool) → (format (type_of e)).Spells at (e.kind.make a) run → (format (asn1_of (e.kind.make a))).Spells at (e.kind.make a) run
  pub id : (a : e.Value) → id_of (e.kind.make a) ≡ e.id

-- an IE of the list
pub record Listed : Type 1 where
  pub ie : IeType
  pub own : IsOwn ie

abbrev pub listed : (e : IeType) → ((a : e.Value) (at : ℕ) (run : List Bool) → (format (type_of e)).Spells at (e.kind.make a) run → (format (asn1_of (e.kind.make a))).Spells at (e.kind.make a) run) → ((a : e.Value) → id_of (e.kind.make a) ≡ e.id) → Listed
listed e spelled id = record { ie = e; own = record { spelled = spelled; id = id } }

-- one that stands last, or in a group of its own
abbrev pub last_ie : Listed
last_ie = listed rrc_cause (λ a at run s. s) (λ a. refl)

-- in the order of their ids: those behind TAI, and all, but for the last
abbrev pub later_ies : List Listed
later_ies =
    listed security_key (λ a at run s. s) (λ a. refl) ∷
    listed radio_capability (λ a at run s. s) (λ a. refl) ∷
    listed ue_index (λ a at run s. s) (λ a. refl) ∷
    listed stmsi (λ a at run s. s) (λ a. refl) ∷
    listed ue_ids (λ a at run s. s) (λ a. refl) ∷
    listed cgi (λ a at run s. s) (λ a. refl) ∷
    listed sec_caps (λ a at run s. s) (λ a. refl) ∷
    listed cn_domain (λ a at run s. s) (λ a. refl) ∷
    []

abbrev pub ies_before_last : List Listed
ies_before_last =
    listed mme (λ a at run s. s) (λ a. refl) ∷
    listed cause (λ a at run s. s) (λ a. refl) ∷
    listed enb (λ a at run s. s) (λ a. refl) ∷
    listed erabs_to_add (λ a at run s. s) (λ a. refl) ∷
    listed erabs_to_setup (λ a at run s. s) (λ a. refl) ∷
    listed nas_pdu (λ a at run s. s) (λ a. refl) ∷
    listed erabs_added (λ a at run s. s) (λ a. refl) ∷
    listed paging_id (λ a at run s. s) (λ a. refl) ∷
    listed tais (λ a at run s. s) (λ a. refl) ∷
    listed erabs_done (λ a at run s. s) (λ a. refl) ∷
    listed bit_rates (λ a at run s. s) (λ a. refl) ∷
    listed tai (λ a at run s. s) (λ a. refl) ∷
    later_ies

-- one or the other
abbrev pub one_of : Bool → IeType → IeType → IeType
one_of true e f = e
one_of false e f = f

-- the IE with an id in a list; the last stands for any id that is not among the others
abbrev pub found_among : List Listed → IeType → ℕ → IeType
found_among [] last id = last
found_among (e ∷ others) last id = one_of (id == e.ie.id) e.ie (found_among others last id)

abbrev pub ie_with : ℕ → IeType
ie_with id = found_among ies_before_last last_ie.ie id

-- the type of the IE with an id
abbrev pub among : List Listed → IeType → ℕ → AsnType FieldValue
among [] last id = type_of last
among (e ∷ others) last id = by_test (id == e.ie.id) (type_of e.ie) (among others last id)

-- what the open type of the IE with an id contains
unfoldable pub value_type : ℕ → AsnType FieldValue
value_type id = among ies_before_last last_ie.ie id
