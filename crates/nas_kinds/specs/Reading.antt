-- Reading a NAS message from left to right: a value and what is left, or the refusal of the first field that is wrong.
use Rattle.std.specs.Prelude.{ℕ, ◌+◌, ◌*◌, ◌/◌, ◌%◌, ◌==◌, ◌&&◌, nat_lt, List, [], ◌∷◌, length, drop, Option, Some, None, option_map, Result, if◌then◌else◌}
use Rattle.std.specs.Int.{w32, from_be_bytes}
use Rattle.echo_base.specs.declared.reason.Reason.TheVariants as reasons
use Rattle.echo_base.specs.declared.identity.Identity.{Identity}
use Rattle.echo_base.specs.declared.identity.Identity.TheVariants.{Imsi, Tmsi}
use Rattle.echo_base.specs.declared.refusal.Refusal.{Refusal}
use Rattle.echo_base.specs.Answer.{refused}
use Rattle.echo_base.specs.Reading.{◌>>=◌, done, known, value_of}
use Rattle.echo_base.specs.Field.{FieldReader, octet_at, octets_at, counted_at, long_counted_at}
use Rattle.nas_kinds.specs.declared.kind.Header.{Header}
use Rattle.nas_kinds.specs.declared.kind.Header.TheVariants.{Plain, Protected, Service}
use Rattle.nas_kinds.specs.declared.kind.Kind.{Kind}
use Rattle.nas_kinds.specs.declared.kind.Kind.TheVariants as kinds
use Rattle.nas_kinds.specs.declared.kind.Protocol.{Protocol}
use Rattle.nas_kinds.specs.declared.kind.Protocol.TheVariants.{Mobility, Session}
use Rattle.nas_kinds.specs.declared.kind.SessionKind.{SessionKind}
use Rattle.nas_kinds.specs.declared.kind.SessionKind.TheVariants as session_kinds
use Rattle.nas_kinds.specs.declared.nas_in.NasIn.{NasIn}
use Rattle.nas_kinds.specs.declared.nas_in.NasIn.TheVariants.{AttachRequest, AttachComplete, DetachRequest, AreaRequest, AuthResponse, SecurityComplete, SecurityReject, ServiceRequest, PdnRequest, PdnAccept}
use Rattle.nas_kinds.specs.Identity.{halves}
use Rattle.nas_kinds.specs.Kinds.{short}

-- a way to read a field
abbrev pub Reader : Type 0 → Type 0
Reader A = FieldReader Refusal A

-- ---- fields

-- the decimal number that goes on with these digits, if they are digits
abbrev pub decimal_from : ℕ → List ℕ → Option ℕ
decimal_from number [] = Some number
decimal_from number (digit ∷ digits) = if nat_lt 9 digit then None else decimal_from (10 * number + digit) digits

-- the IMSI that halves of octets are
abbrev pub imsi_of_halves : List ℕ → Option ℕ
imsi_of_halves [] = None
imsi_of_halves (type ∷ digits) = if type == 9 then decimal_from 0 digits else None

abbrev pub imsi_of : List ℕ → Option ℕ
imsi_of octets = if length octets == 8 then imsi_of_halves (halves octets) else None

-- the M-TMSI of the GUTI that the octets are
abbrev pub guti_of : List ℕ → Option ℕ
guti_of [] = None
guti_of (type ∷ octets) = if type == 0xf6 then (if length octets == 10 then Some (from_be_bytes w32 (drop 6 octets)) else None) else None

-- by an IMSI, or else by a GUTI
abbrev pub identity_by : Option ℕ → Option ℕ → Option Identity
identity_by (Some imsi) guti = Some (Imsi imsi)
identity_by None (Some tmsi) = Some (Tmsi tmsi)
identity_by None None = None

-- the identity that the octets are
unfoldable pub identity_of : List ℕ → Option Identity
identity_of octets = identity_by (imsi_of octets) (guti_of octets)

unfoldable pub identity_at : Reader Identity
identity_at = do
  octets ← counted_at short
  known (identity_of octets) (refused reasons.NasIdentity)

-- the first two octets
abbrev pub algorithms_of : List ℕ → Option (ℕ × ℕ)
algorithms_of [] = None
algorithms_of (eea ∷ []) = None
algorithms_of (eea ∷ eia ∷ more) = Some (eea, eia)

unfoldable pub capability_at : Reader (ℕ × ℕ)
capability_at = do
  octets ← counted_at short
  known (algorithms_of octets) short

-- the second of three octets
abbrev pub pti_of : List ℕ → Option ℕ
pti_of [] = None
pti_of (bearer ∷ []) = None
pti_of (bearer ∷ pti ∷ []) = None
pti_of (bearer ∷ pti ∷ type ∷ more) = Some pti

unfoldable pub container_at : Reader ℕ
container_at = do
  octets ← long_counted_at short
  known (pti_of octets) short

-- ---- messages

unfoldable pub attach_request_at : Reader NasIn
attach_request_at = do
  attach_type ← octet_at short
  identity ← identity_at
  capability ← capability_at
  pti ← container_at
  done (AttachRequest identity capability.0 capability.1 pti)

unfoldable pub attach_complete_at : Reader NasIn
attach_complete_at = do
  container ← long_counted_at short
  done AttachComplete

unfoldable pub detach_request_at : Reader NasIn
detach_request_at = do
  detach_type ← octet_at short
  identity ← identity_at
  done (DetachRequest (detach_type / 8 % 2 == 1) identity)

unfoldable pub area_request_at : Reader NasIn
area_request_at = do
  update_type ← octet_at short
  identity ← identity_at
  done (AreaRequest identity)

unfoldable pub auth_response_at : Reader NasIn
auth_response_at = do
  res ← counted_at short
  done (AuthResponse res)

unfoldable pub security_reject_at : Reader NasIn
security_reject_at = do
  cause ← octet_at short
  done (SecurityReject cause)

abbrev pub fields_at : Kind → Reader NasIn
fields_at kinds.AttachRequest = attach_request_at
fields_at kinds.AttachComplete = attach_complete_at
fields_at kinds.DetachRequest = detach_request_at
fields_at kinds.AreaRequest = area_request_at
fields_at kinds.AuthResponse = auth_response_at
fields_at kinds.SecurityComplete = done SecurityComplete
fields_at kinds.SecurityReject = security_reject_at

-- the message of that type
unfoldable pub kind_of : ℕ → Option Kind
kind_of octet = if octet == 0x41 then Some kinds.AttachRequest else (if octet == 0x43 then Some kinds.AttachComplete else (if octet == 0x45 then Some kinds.DetachRequest else (if octet == 0x48 then Some kinds.AreaRequest else (if octet == 0x53 then Some kinds.AuthResponse else (if octet == 0x5e then Some kinds.SecurityComplete else (if octet == 0x5f then Some kinds.SecurityReject else None))))))

unfoldable pub kind_at : Reader Kind
kind_at = do
  octet ← octet_at short
  known (kind_of octet) (refused (reasons.NasKind octet))

unfoldable pub mobility_at : Reader NasIn
mobility_at = kind_at >>= fields_at

-- the message of session management of that type, for that bearer
unfoldable pub session_kind_of : ℕ → ℕ → Option SessionKind
session_kind_of bearer octet = if octet == 0xd0 then Some session_kinds.PdnRequest else (if octet == 0xc2 && bearer == 6 then Some session_kinds.PdnAccept else None)

unfoldable pub session_kind_at : ℕ → Reader SessionKind
session_kind_at bearer = do
  octet ← octet_at short
  known (session_kind_of bearer octet) (refused (reasons.NasKind octet))

unfoldable pub pdn_request_at : ℕ → Reader NasIn
pdn_request_at pti = do
  types ← octet_at short
  done (PdnRequest pti)

abbrev pub session_fields_at : ℕ → SessionKind → Reader NasIn
session_fields_at pti session_kinds.PdnRequest = pdn_request_at pti
session_fields_at pti session_kinds.PdnAccept = done PdnAccept

unfoldable pub session_at : ℕ → Reader NasIn
session_at bearer = do
  pti ← octet_at short
  kind ← session_kind_at bearer
  session_fields_at pti kind

abbrev pub message_at : Protocol → Reader NasIn
message_at Mobility = mobility_at
message_at (Session bearer) = session_at bearer

-- ---- the first octet

-- what the first octet of a plain message says
unfoldable pub protocol_of : ℕ → Option Protocol
protocol_of octet = if octet == 0x07 then Some Mobility else (if octet % 16 == 2 then Some (Session (octet / 16)) else None)

unfoldable pub protocol_at : Reader Protocol
protocol_at = do
  octet ← octet_at short
  known (protocol_of octet) (refused reasons.NasDiscriminator)

-- what a first octet says
unfoldable pub header_of : ℕ → Option Header
header_of octet = if octet == 0x17 then Some Protected else (if octet == 0x27 then Some Protected else (if octet == 0x37 then Some Protected else (if octet == 0x47 then Some Protected else (if octet == 0xc7 then Some Service else option_map Plain (protocol_of octet)))))

unfoldable pub header_at : Reader Header
header_at = do
  octet ← octet_at short
  known (header_of octet) (refused reasons.NasDiscriminator)

-- what is in front of the plain message in a protected one
unfoldable pub security_at : Reader (Unit {0})
security_at = do
  code ← octets_at short 4
  number ← octet_at short
  done tt

unfoldable pub protected_at : Reader NasIn
protected_at = do
  security ← security_at
  protocol ← protocol_at
  message_at protocol

unfoldable pub service_at : Reader NasIn
service_at = do
  behind ← octets_at short 3
  done ServiceRequest

abbrev pub behind_at : Header → Reader NasIn
behind_at (Plain protocol) = message_at protocol
behind_at Protected = protected_at
behind_at Service = service_at

unfoldable pub nas_at : Reader NasIn
nas_at = header_at >>= behind_at

-- the message that octets begin with, or the refusal
unfoldable pub nas_of : List ℕ → Result NasIn Refusal
nas_of octets = value_of (nas_at octets)
