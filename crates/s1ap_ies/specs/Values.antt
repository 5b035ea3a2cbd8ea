-- The values of IEs (TS 36.413, 9.2).
use Rattle.std.specs.Prelude.{◌≡◌, ℕ, ◌==◌, nat_le, nat_lt, ◌^◌, ◌&&◌, Bool, true, false, if◌then◌else◌, refl, List}
use Rattle.std.proofs.lemmas.Bool.{leb-true}
use Rattle.echo_base.specs.declared.reason.Reason.TheVariants as reasons
use Rattle.device_types.specs.Cause.{cause_roots}
use Rattle.aper_fields.specs.declared.enumerated.EnumValue.{EnumValue}
use Rattle.aper_fields.specs.Asn1.{Same, AsnType, Fields, bit_string, integer, only, octet_string, enumerated, choice_index, one_bit, extensible, on, choice, sequence, needed, optional, absent, also, named, IsSound}
use Rattle.aper_types.specs.declared.choice.Either.{Either}
use Rattle.aper_types.specs.declared.choice.Either.TheVariants.{First, Second}
use Rattle.aper_types.specs.Choices.{either_same}
use Rattle.aper_types.specs.Made.{IsMadeOf, made_of}
use Rattle.protocol_ies.specs.Criticalities.{reject, ignore}
use Rattle.protocol_ies.specs.Lists.{list_of, IsItemSound}
use Rattle.s1ap_ies.specs.declared.names.TheConstants as names
use Rattle.s1ap_ies.specs.declared.tai.Tai.{Tai}
use Rattle.s1ap_ies.specs.declared.cgi.Cgi.{Cgi}
use Rattle.s1ap_ies.specs.declared.stmsi.Stmsi.{Stmsi}
use Rattle.s1ap_ies.specs.declared.bit_rates.BitRates.{BitRates}
use Rattle.s1ap_ies.specs.declared.sec_caps.SecCaps.{SecCaps}
use Rattle.s1ap_ies.specs.declared.cause.Cause.{Cause}
use Rattle.s1ap_ies.specs.declared.ue_ids.UeIds.{UeIds}
use Rattle.s1ap_ies.specs.declared.ue_ids.UeIds.TheVariants.{Pair, Mme}
use Rattle.s1ap_ies.specs.declared.bearer.Qos.{Qos}
use Rattle.s1ap_ies.specs.declared.erab_done.ErabDone.{ErabDone}
use Rattle.s1ap_ies.specs.declared.erab_to_setup.ErabToSetup.{ErabToSetup}
use Rattle.s1ap_ies.specs.declared.erab_to_add.ErabToAdd.{ErabToAdd}

-- a SEQUENCE of two BIT STRINGs of fixed sizes
abbrev pub two_bit_strings : ℕ → ℕ → AsnType (ℕ × ℕ)
two_bit_strings first second = sequence (also (needed (bit_string first)) (needed (bit_string second)))

-- TAI (9.2.3.16): PLMN identity of 3 octets, TAC of 2
abbrev pub tai_same : Same (ℕ × ℕ) Tai
tai_same = record { make = λ v. record { plmn = v.0; tac = v.1 }; parts = λ v. (v.plmn, v.tac); back = λ v. refl; again = λ v. refl }

abbrev pub tai : AsnType Tai
tai = named tai_same (two_bit_strings 24 16)

-- E-UTRAN CGI (9.2.1.38): PLMN identity of 3 octets, cell identity of 28 bits
abbrev pub cgi_same : Same (ℕ × ℕ) Cgi
cgi_same = record { make = λ v. record { plmn = v.0; cell = v.1 }; parts = λ v. (v.plmn, v.cell); back = λ v. refl; again = λ v. refl }

abbrev pub cgi : AsnType Cgi
cgi = named cgi_same (two_bit_strings 24 28)

-- S-TMSI (9.2.3.6): MME code of 1 octet, M-TMSI of 4
abbrev pub stmsi_same : Same (ℕ × ℕ) Stmsi
stmsi_same = record { make = λ v. record { mmec = v.0; tmsi = v.1 }; parts = λ v. (v.mmec, v.tmsi); back = λ v. refl; again = λ v. refl }

abbrev pub stmsi : AsnType Stmsi
stmsi = named stmsi_same (two_bit_strings 8 32)

-- UE Aggregate Maximum Bit Rate (9.2.1.20): downlink, then uplink, in bit/s
abbrev pub bit_rates_same : Same (ℕ × ℕ) BitRates
bit_rates_same = record { make = λ v. record { dl = v.0; ul = v.1 }; parts = λ v. (v.dl, v.ul); back = λ v. refl; again = λ v. refl }

abbrev pub bit_rates : AsnType BitRates
bit_rates = named bit_rates_same (sequence (also (needed (integer 0 names.MOST_BIT_RATE refl)) (needed (integer 0 names.MOST_BIT_RATE refl))))

-- algorithms: BIT STRING (SIZE (16, ...))
abbrev pub algorithms : AsnType ℕ
algorithms = extensible reasons.OutOfRange (bit_string 16)

-- UE Security Capabilities (9.2.1.40): encryption algorithms, then integrity protection algorithms
abbrev pub sec_caps_same : Same (ℕ × ℕ) SecCaps
sec_caps_same = record { make = λ v. record { eea = v.0; eia = v.1 }; parts = λ v. (v.eea, v.eia); back = λ v. refl; again = λ v. refl }

abbrev pub sec_caps : AsnType SecCaps
sec_caps = named sec_caps_same (sequence (also (needed algorithms) (needed algorithms)))

abbrev pub AreRoots : ℕ → Type 0
AreRoots n = nat_le 1 n && nat_lt n (2 ^ 64) ≡ true

pub either_roots : (b : Bool) (m n : ℕ) → AreRoots m → AreRoots n → AreRoots (if b then m else n)
either_roots true m n p q = p
either_roots false m n p q = q

pub some_roots : (group : ℕ) → AreRoots (cause_roots group)
unfolding cause_roots
some_roots group = either_roots (group == 0) 36 _ refl (either_roots (group == 1) 2 _ refl (either_roots (group == 2) 4 _ refl (either_roots (group == 3) 7 6 refl refl)))

-- a CHOICE of five groups, and the cause of the group
abbrev pub grouped : AsnType (ℕ × EnumValue)
grouped = on (choice_index 5 3 refl) 75 (λ group. enumerated (cause_roots group) true (some_roots group))

-- Cause (9.2.1.3)
abbrev pub cause_same : Same (ℕ × EnumValue) Cause
cause_same = record { make = λ v. record { group = v.0; extended = v.1.extended; index = v.1.index }; parts = λ v. (v.group, record { extended = v.extended; index = v.index }); back = λ v. refl; again = λ v. refl }

abbrev pub cause : AsnType Cause
cause = named cause_same grouped

pub cause_sound : IsSound cause
cause_sound = (tt, λ group. (tt, leb-true 75 75 refl))

abbrev pub ids_of : Either (ℕ × ℕ) ℕ → UeIds
ids_of (First both) = Pair both.0 both.1
ids_of (Second mme) = Mme mme

abbrev pub parts_of : UeIds → Either (ℕ × ℕ) ℕ
parts_of (Pair mme enb) = First (mme, enb)
parts_of (Mme mme) = Second mme

pub ids_back : (v : Either (ℕ × ℕ) ℕ) → parts_of (ids_of v) ≡ v
ids_back (First both) = refl
ids_back (Second mme) = refl

pub ids_again : (v : UeIds) → ids_of (parts_of v) ≡ v
ids_again (Pair mme enb) = refl
ids_again (Mme mme) = refl

abbrev pub ue_ids_same : Same (Either (ℕ × ℕ) ℕ) UeIds
ue_ids_same = record { make = ids_of; parts = parts_of; back = ids_back; again = ids_again }

-- UE S1AP IDs (9.1.4.6): a CHOICE of both identities (9.2.3.18), and that of the MME alone
abbrev pub ue_ids : AsnType UeIds
ue_ids = named ue_ids_same (named either_same
    (choice (sequence (also (needed (integer 0 names.MOST_MME_UE_S1AP_ID refl)) (needed (integer 0 names.MOST_ENB_UE_S1AP_ID refl)))) (integer 0 names.MOST_MME_UE_S1AP_ID refl)))

-- E-RAB ID (9.2.1.2): INTEGER (0..15, ...)
abbrev pub erab_id : AsnType ℕ
erab_id = extensible reasons.OutOfRange (integer 0 15 refl)

-- Transport Layer Address (9.2.2.1): BIT STRING (SIZE (1..160, ...)), of which IPv4 addresses alone are taken
abbrev pub address : AsnType ℕ
address = extensible reasons.OutOfRange (named (record { make = λ v. v.1; parts = λ v. (tt, v); back = λ v. refl; again = λ v. refl }) (on (only reasons.OutOfRange 1 160 32 refl) 39 (λ size. bit_string 32)))

-- Allocation and Retention Priority (9.2.1.60): four bits of priority, one of capability, one of vulnerability
abbrev pub arp : AsnType ℕ
arp = sequence (needed (bit_string 6))

-- E-RAB Level QoS Parameters (9.2.1.15): QCI, and the priority; GBR QoS Information is optional, and not taken
abbrev pub qos_same : Same (ℕ × (ℕ × Unit {0})) Qos
qos_same = record { make = λ v. record { qci = v.0; arp = v.1.0 }; parts = λ v. (v.qci, (v.arp, tt)); back = λ v. refl; again = λ v. refl }

abbrev pub qos : AsnType Qos
qos = named qos_same (sequence (also (needed (integer 0 255 refl)) (also (needed arp) (absent reasons.OutOfRange))))

-- E-RAB Setup Item of a response (9.1.4.3): E-RAB ID, transport layer address, GTP-TEID of 4 octets
abbrev pub erab_done_same : Same (ℕ × (ℕ × ℕ)) ErabDone
erab_done_same = record { make = λ v. record { id = v.0; address = v.1.0; teid = v.1.1 }; parts = λ v. (v.id, (v.address, v.teid)); back = λ v. refl; again = λ v. refl }

unfoldable pub erab_done : AsnType ErabDone
erab_done = named erab_done_same (sequence (also (needed erab_id) (also (needed address) (needed (bit_string 32)))))

pub done_made : IsMadeOf erab_done (sequence (also (needed erab_id) (also (needed address) (needed (bit_string 32))))) erab_done_same
unfolding erab_done
done_made = made_of _ erab_done_same

pub done_sound : IsItemSound erab_done
unfolding erab_done
done_sound = (refl, leb-true _ _ refl, (tt, ((tt, λ size. (refl, leb-true 39 39 refl)), refl)))

-- NAS-PDU (9.2.3.5)
abbrev pub nas_pdu : AsnType (List ℕ)
nas_pdu = octet_string names.MOST_OCTETS_OF_NAS refl

-- what the items of requests begin with: E-RAB ID, QoS parameters, transport layer address, GTP-TEID of 4 octets
abbrev pub bearer : Fields (Unit {0} × (Unit {0} × (Unit {0} × Unit {0}))) (ℕ × (Qos × (ℕ × ℕ)))
bearer = also (needed erab_id) (also (needed qos) (also (needed address) (needed (bit_string 32))))

-- E-RAB to Be Setup Item of a request (9.1.4.1): the NAS-PDU is optional
unfoldable pub erab_to_setup : AsnType ErabToSetup
erab_to_setup = named (record { make = λ v. record { id = v.0.0; qci = v.0.1.0.qci; arp = v.0.1.0.arp; address = v.0.1.1.0; teid = v.0.1.1.1; nas = v.1 }; parts = λ v. ((v.id, (record { qci = v.qci; arp = v.arp }, (v.address, v.teid))), v.nas); back = λ v. refl; again = λ v. refl })
    (sequence (also bearer (optional nas_pdu)))

pub setup_sound : IsItemSound erab_to_setup
unfolding erab_to_setup
setup_sound = (refl, leb-true _ _ refl, ((tt, ((tt, (refl, tt)), ((tt, λ size. (refl, leb-true 39 39 refl)), refl))), tt))

-- E-RAB to Be Setup Item of bearers that are added (9.1.3.1): the NAS-PDU is always there
unfoldable pub erab_to_add : AsnType ErabToAdd
erab_to_add = named (record { make = λ v. record { id = v.0.0; qci = v.0.1.0.qci; arp = v.0.1.0.arp; address = v.0.1.1.0; teid = v.0.1.1.1; nas = v.1 }; parts = λ v. ((v.id, (record { qci = v.qci; arp = v.arp }, (v.address, v.teid))), v.nas); back = λ v. refl; again = λ v. refl })
    (sequence (also bearer (needed nas_pdu)))

pub add_sound : IsItemSound erab_to_add
unfolding erab_to_add
add_sound = (refl, leb-true _ _ refl, ((tt, ((tt, (refl, tt)), ((tt, λ size. (refl, leb-true 39 39 refl)), refl))), tt))

-- E-RAB to Be Setup List (9.1.4.1)
abbrev pub erabs_to_setup : AsnType (List ErabToSetup)
erabs_to_setup = list_of names.ERAB_TO_SETUP_ITEM reject refl erab_to_setup

-- E-RAB Setup List (9.1.4.3)
abbrev pub erabs_done : AsnType (List ErabDone)
erabs_done = list_of names.ERAB_SETUP_ITEM ignore refl erab_done

-- E-RAB to be Setup List of bearers that are added (9.1.3.1)
abbrev pub erabs_to_add : AsnType (List ErabToAdd)
erabs_to_add = list_of names.ERAB_TO_ADD_ITEM reject refl erab_to_add

-- E-RAB Setup List of bearers that were added (9.1.3.2)
abbrev pub erabs_added : AsnType (List ErabDone)
erabs_added = list_of names.ERAB_ADDED_ITEM ignore refl erab_done

-- UE Identity Index Value (9.2.3.10)
abbrev pub ue_index : AsnType ℕ
ue_index = bit_string 10

-- UE Paging Identity (9.2.3.13): a CHOICE of an S-TMSI and an IMSI, of which S-TMSIs alone are taken
abbrev pub paging_id : AsnType Stmsi
paging_id = extensible reasons.BadChoice (named (record { make = λ v. v.1; parts = λ v. (tt, v); back = λ v. refl; again = λ v. refl }) (on (only reasons.BadChoice 0 1 0 refl) 70 (λ index. stmsi)))

pub paging_id_sound : IsSound paging_id
paging_id_sound = (tt, λ index. ((refl, refl), leb-true 70 70 refl))

-- CN Domain (9.2.3.22): is it cs?
abbrev pub cn_domain : AsnType Bool
cn_domain = one_bit

-- TAI List Item, and List of TAIs (9.1.6)
unfoldable pub tai_item : AsnType Tai
tai_item = sequence (needed tai)

pub tai_item_sound : IsItemSound tai_item
unfolding tai_item
tai_item_sound = (refl, leb-true _ _ refl, (refl, refl))

abbrev pub tais : AsnType (List Tai)
tais = list_of names.TAI_ITEM ignore refl tai_item
