-- The messages of a device (TS 24.301, 8.2 and 8.3): their first octets, and their mandatory fields in order.
use Rattle.std.specs.Prelude.{◌≡◌, ℕ, ◌/◌, ◌%◌, ◌≤◌, ◌==◌, List, ◌∷◌, drop, Some, slice_get}
use Rattle.echo_base.specs.declared.reason.Reason.TheVariants as reasons
use Rattle.echo_base.specs.declared.identity.Identity.{Identity}
use Rattle.echo_base.specs.declared.refusal.Refusal.{Refusal}
use Rattle.echo_base.specs.Answer.{refused}
use Rattle.echo_base.specs.Format.{◌>>=◌, just, meant}
use Rattle.echo_base.specs.Field as octets
use Rattle.echo_base.specs.Field.{octet_in, octets_in, counted_in, long_counted_in}
use Rattle.nas_kinds.specs.declared.kind.Header.{Header}
use Rattle.nas_kinds.specs.declared.kind.Header.TheVariants.{Plain, Protected, Service}
use Rattle.nas_kinds.specs.declared.kind.Kind.{Kind}
use Rattle.nas_kinds.specs.declared.kind.Kind.TheVariants as kinds
use Rattle.nas_kinds.specs.declared.kind.Protocol.{Protocol}
use Rattle.nas_kinds.specs.declared.kind.Protocol.TheVariants.{Mobility, Session}
use Rattle.nas_kinds.specs.declared.kind.SessionKind.{SessionKind}
use Rattle.nas_kinds.specs.declared.kind.SessionKind.TheVariants as session_kinds
use Rattle.nas_kinds.specs.declared.nas_in.NasIn.{NasIn}
use Rattle.nas_kinds.specs.declared.nas_in.NasIn.TheVariants.{AttachRequest, AttachComplete, DetachRequest, AreaRequest, AuthResponse, SecurityComplete, SecurityReject, ServiceRequest, PdnRequest, PdnAccept}
use Rattle.nas_kinds.specs.Identity.{IsIdentity}

-- a field, or the refusal that is due, which has no place
abbrev pub Field : Type 0 → Type 1
Field A = octets.Field Refusal A

-- the refusal of a field that is not whole, or too short for what is used of it
abbrev pub short : Refusal
short = refused reasons.NasShort

-- ---- fields

-- EPS mobile identity (9.9.3.12)
unfoldable pub identity_in : Field Identity
identity_in = do
  octets ← counted_in short
  meant (IsIdentity octets) (refused reasons.NasIdentity)

-- UE network capability (9.9.3.34): its first two octets are the encryption and the integrity algorithms
abbrev pub AreAlgorithms : List ℕ → ℕ × ℕ → Type 0
AreAlgorithms octets algorithms = (more : List ℕ) × (octets ≡ algorithms.0 ∷ algorithms.1 ∷ more)

unfoldable pub capability_in : Field (ℕ × ℕ)
capability_in = do
  octets ← counted_in short
  meant (AreAlgorithms octets) short

-- ESM message container (9.9.3.15): an ESM message (9.2) begins with the bearer identity and discriminator, the procedure
-- transaction identity and the message type
abbrev pub IsTransaction : List ℕ → ℕ → Type 0
IsTransaction octets pti = (bearer : ℕ) × (type : ℕ) × (more : List ℕ) × (octets ≡ bearer ∷ pti ∷ type ∷ more)

unfoldable pub container_in : Field ℕ
container_in = do
  octets ← long_counted_in short
  meant (IsTransaction octets) short

-- ---- the tables: the messages that are read, by their message types (9.8), each with its mandatory fields (8.2, 8.3)

abbrev pub message_type : Kind → ℕ
message_type kinds.AttachRequest = 0x41
message_type kinds.AttachComplete = 0x43
message_type kinds.DetachRequest = 0x45
message_type kinds.AreaRequest = 0x48
message_type kinds.AuthResponse = 0x53
message_type kinds.SecurityComplete = 0x5e
message_type kinds.SecurityReject = 0x5f

abbrev pub session_type : SessionKind → ℕ
session_type session_kinds.PdnRequest = 0xd0
session_type session_kinds.PdnAccept = 0xc2

-- the message type of a message; a SERVICE REQUEST has none, and its first octet (9.2, 9.3.1) stands for it
abbrev pub type_of : NasIn → ℕ
type_of (AttachRequest identity eea eia pti) = message_type kinds.AttachRequest
type_of AttachComplete = message_type kinds.AttachComplete
type_of (DetachRequest off identity) = message_type kinds.DetachRequest
type_of (AreaRequest identity) = message_type kinds.AreaRequest
type_of (AuthResponse res) = message_type kinds.AuthResponse
type_of SecurityComplete = message_type kinds.SecurityComplete
type_of (SecurityReject cause) = message_type kinds.SecurityReject
type_of ServiceRequest = 0xc7
type_of (PdnRequest pti) = session_type session_kinds.PdnRequest
type_of PdnAccept = session_type session_kinds.PdnAccept

-- an octet that is none of these is refused as NasKind
unfoldable pub kind_in : Field Kind
kind_in = do
  octet ← octet_in short
  meant (λ kind. octet ≡ message_type kind) (refused (reasons.NasKind octet))

unfoldable pub fields_in : Kind → Field NasIn
-- 8.2.4: EPS attach type and NAS key set identifier, identity, capability, container
fields_in kinds.AttachRequest = do
  attach_type ← octet_in short
  identity ← identity_in
  capability ← capability_in
  pti ← container_in
  just (AttachRequest identity capability.0 capability.1 pti)
-- 8.2.2: container
fields_in kinds.AttachComplete = do
  container ← long_counted_in short
  just AttachComplete
-- 8.2.11.1: detach type (9.9.3.7: bit 4 is switch off) and NAS key set identifier, identity
fields_in kinds.DetachRequest = do
  detach_type ← octet_in short
  identity ← identity_in
  just (DetachRequest (detach_type / 8 % 2 == 1) identity)
-- 8.2.29: update type and NAS key set identifier, identity
fields_in kinds.AreaRequest = do
  update_type ← octet_in short
  identity ← identity_in
  just (AreaRequest identity)
-- 8.2.8: authentication response parameter (9.9.3.4)
fields_in kinds.AuthResponse = do
  res ← counted_in short
  just (AuthResponse res)
-- 8.2.21
fields_in kinds.SecurityComplete = just SecurityComplete
-- 8.2.22: EMM cause (9.9.3.9)
fields_in kinds.SecurityReject = do
  cause ← octet_in short
  just (SecurityReject cause)

-- The bearer identity of a PDN CONNECTIVITY REQUEST is not looked at. An ACTIVATE DEFAULT EPS BEARER CONTEXT ACCEPT is read where it
-- is that of bearer 6.
abbrev pub IsSessionKind : ℕ → ℕ → SessionKind → Type 0
IsSessionKind bearer octet session_kinds.PdnRequest = octet ≡ session_type session_kinds.PdnRequest
IsSessionKind bearer octet session_kinds.PdnAccept = (octet ≡ session_type session_kinds.PdnAccept) × (bearer ≡ 6)

-- any other is refused as NasKind
unfoldable pub session_kind_in : ℕ → Field SessionKind
session_kind_in bearer = do
  octet ← octet_in short
  meant (IsSessionKind bearer octet) (refused (reasons.NasKind octet))

unfoldable pub session_fields_in : ℕ → SessionKind → Field NasIn
-- 8.3.20: request type (9.9.4.14) and PDN type (9.9.4.10)
session_fields_in pti session_kinds.PdnRequest = do
  types ← octet_in short
  just (PdnRequest pti)
-- 8.3.4
session_fields_in pti session_kinds.PdnAccept = just PdnAccept

-- ---- whole messages

-- behind the first octet of a plain message: of mobility management a message type, of session management a procedure transaction
-- identity (9.4) and a message type; then the fields of its message
unfoldable pub message_in : Protocol → Field NasIn
message_in Mobility = kind_in >>= fields_in
message_in (Session bearer) = do
  pti ← octet_in short
  kind ← session_kind_in bearer
  session_fields_in pti kind

-- The first octet of a plain message: the protocol discriminator in its low half (9.2), which is 7, mobility management, or 2,
-- session management. The high half is 0, the security header type of a plain message (9.3.1), or the bearer identity (9.3.2).
abbrev pub IsProtocol : ℕ → Protocol → Type 0
IsProtocol octet Mobility = (octet % 16 ≡ 7) × (octet / 16 ≡ 0)
IsProtocol octet (Session bearer) = (octet % 16 ≡ 2) × (octet / 16 ≡ bearer)

unfoldable pub protocol_in : Field Protocol
protocol_in = do
  octet ← octet_in short
  meant (IsProtocol octet) (refused reasons.NasDiscriminator)

-- The first octet: that of a plain message, or of mobility management with the security header type 1 to 4, protected, or 12,
-- SERVICE REQUEST.
abbrev pub IsHeader : ℕ → Header → Type 0
IsHeader octet (Plain protocol) = IsProtocol octet protocol
IsHeader octet Protected = (octet % 16 ≡ 7) × (1 ≤ octet / 16) × (octet / 16 ≤ 4)
IsHeader octet Service = (octet % 16 ≡ 7) × (octet / 16 ≡ 12)

unfoldable pub header_in : Field Header
header_in = do
  octet ← octet_in short
  meant (IsHeader octet) (refused reasons.NasDiscriminator)

-- what is in front of the plain message in a protected one (8.2.23): a message authentication code (9.5) and a sequence number (9.6)
unfoldable pub security_in : Field (Unit {0})
security_in = do
  code ← octets_in short 4
  number ← octet_in short
  just tt

-- where the message type stands in a plain message: behind the first octet, or behind the procedure transaction identity too
abbrev pub type_place : Protocol → ℕ
type_place Mobility = 1
type_place (Session bearer) = 2

-- octets that begin with a plain message have its type in its place
abbrev pub HasPlainType : List ℕ → ℕ → Protocol → Type 0
HasPlainType octets type protocol = (first : ℕ) × (slice_get octets 0 ≡ Some first) × IsProtocol first protocol × (slice_get octets (type_place protocol) ≡ Some type)

-- so have any others: in a protected message the plain one stands behind six octets, and the type of a SERVICE REQUEST is its first
-- octet
abbrev pub HasType : List ℕ → ℕ → Header → Type 0
HasType octets type (Plain protocol) = HasPlainType octets type protocol
HasType octets type Protected = (first : ℕ) × (protocol : Protocol) × (slice_get octets 0 ≡ Some first) × IsHeader first Protected × HasPlainType (drop 6 octets) type protocol
HasType octets type Service = (slice_get octets 0 ≡ Some type) × IsHeader type Service

-- what is behind the first octet
unfoldable pub behind_in : Header → Field NasIn
behind_in (Plain protocol) = message_in protocol
behind_in Protected = do
  security ← security_in
  protocol ← protocol_in
  message_in protocol
-- 8.2.25: key set identifier and sequence number, a short message authentication code of two octets
behind_in Service = do
  behind ← octets_in short 3
  just ServiceRequest

unfoldable pub nas_in : Field NasIn
nas_in = header_in >>= behind_in

-- the octets are this message, whatever follows its mandatory fields
abbrev pub NasSpells : List ℕ → NasIn → Type 0
NasSpells octets message = (rest : List ℕ) × nas_in.Stands octets message rest

-- the octets are no message, and this refusal is that of the first field that is wrong
abbrev pub NasRefuses : List ℕ → Refusal → Type 0
NasRefuses octets e = nas_in.Refuses octets e

-- ---- the messages that take memory

-- a response, whose RES is kept
abbrev pub IsResponse : NasIn → Type 0
IsResponse message = (res : List ℕ) × (message ≡ AuthResponse res)

abbrev pub SpellsResponse : List ℕ → Type 0
SpellsResponse octets = (message : NasIn) × IsResponse message × NasSpells octets message
