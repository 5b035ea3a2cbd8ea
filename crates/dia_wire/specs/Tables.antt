-- The messages: AVPs in their order (RFC 6733, 6.1 and 6.2; 3GPP TS 29.272, 7.2), as they are read and written. What stands
-- aside of the rows (▹) is written, and passed over when it is read.
use Rattle.std.specs.Prelude.{ℕ, true, List, codes}
use Rattle.echo_base.specs.Field.{number_run}
use Rattle.tlv_elements.specs.Grammar.{value, group, Aside, Rows, last, ◌▸◌, ◌▹◌}
use Rattle.dia_avps.specs.Frame.{tgpp, frame_run}
use Rattle.dia_avps.specs.Values.{session, unsigned, plmn, imsi}
use Rattle.dia_avps.specs.Groups.{Nothing, VectorFields, authentication_info, subscription_data}

-- ---- what stands aside

-- Auth-Session-State (RFC 6733, 8.11): no state is maintained
abbrev pub no_state : Aside
no_state = record { tag = 277; mark = 0; octets = number_run 4 1 }

-- Origin-Host (6.3)
abbrev pub origin_host : List ℕ → Aside
origin_host name = record { tag = 264; mark = 0; octets = name }

-- the realm of the MME and of the subscriber server
abbrev pub realm : List ℕ
realm = codes "echo"

-- Origin-Realm (6.4)
abbrev pub origin_realm : Aside
origin_realm = record { tag = 296; mark = 0; octets = realm }

-- Destination-Realm (6.6)
abbrev pub destination_realm : Aside
destination_realm = record { tag = 283; mark = 0; octets = realm }

-- Requested-EUTRAN-Authentication-Info (TS 29.272, 7.3.11): one vector (Number-Of-Requested-Vectors, 7.3.14)
abbrev pub requested : Aside
requested = record { tag = 1408; mark = tgpp; octets = frame_run 1410 tgpp (number_run 4 1) }

-- ULR-Flags (7.3.7): S6a/S6d-Indicator, and Initial-Attach-Indicator
abbrev pub update_flags : Aside
update_flags = record { tag = 1405; mark = tgpp; octets = number_run 4 34 }

-- ---- messages

-- a request of the MME: Session-Id, User-Name, and what is behind them
abbrev pub request : {A : Type 0} → Rows A → Rows (List ℕ × (ℕ × A))
request rest =
    value true 263 0 session ▸
    no_state ▹
    origin_host (codes "mme.echo") ▹
    origin_realm ▹
    destination_realm ▹
    value true 1 0 imsi ▸
    rest

-- an answer of the subscriber server: Session-Id, Result-Code, and what is behind them
abbrev pub answer : {A : Type 0} → Rows A → Rows (List ℕ × (ℕ × A))
answer rest =
    value true 263 0 session ▸
    value true 268 0 unsigned ▸
    no_state ▹
    origin_host (codes "hss.echo") ▹
    origin_realm ▹
    rest

abbrev pub AskFields : Type 0
AskFields = List ℕ × (ℕ × (ℕ × Nothing))

-- Authentication-Information-Request (7.2.5): Visited-PLMN-Id
abbrev pub ask_vectors : Rows AskFields
ask_vectors = request (value true 1407 tgpp plmn ▸ requested ▹ last)

-- Update-Location-Request (7.2.3): Visited-PLMN-Id
abbrev pub ask_location : Rows AskFields
ask_location = request (value true 1407 tgpp plmn ▸ update_flags ▹ last)

abbrev pub PlainFields : Type 0
PlainFields = List ℕ × (ℕ × Nothing)

-- Purge-UE-Request (7.2.13)
abbrev pub ask_purge : Rows PlainFields
ask_purge = request last

abbrev pub VectorsFields : Type 0
VectorsFields = List ℕ × (ℕ × ((VectorFields × Nothing) × Nothing))

-- Authentication-Information-Answer (7.2.6)
abbrev pub vectors : Rows VectorsFields
vectors = answer (group true 1413 tgpp authentication_info ▸ last)

abbrev pub LocatedFields : Type 0
LocatedFields = List ℕ × (ℕ × (((ℕ × (ℕ × Nothing)) × Nothing) × Nothing))

-- Update-Location-Answer (7.2.4)
abbrev pub located : Rows LocatedFields
located = answer (group true 1400 tgpp subscription_data ▸ last)

-- Purge-UE-Answer (7.2.14), and each answer that does not succeed
abbrev pub result_alone : Rows PlainFields
result_alone = answer last
