-- What is read of octets is in its ranges.
use Rattle.std.proofs.Common.{ℕ, ◌+◌, ◌*◌, ◌/◌, ◌%◌, ◌<◌, Bool, true, false, cond, List, [], ◌∷◌, length, take, drop, Option, Some, None, Ok, Err}
use Rattle.std.specs.Prelude.{IfSome, IfOk, nat_lt, ◌==◌}
use Rattle.std.proofs.lemmas.List.Elements.{All-take, All-drop, All-from_recursion, recursion_from_All}
use Rattle.echo_base.specs.declared.refusal.Refusal.{Refusal}
use Rattle.echo_base.specs.Field.{octet_at, octets_at, counted_at, long_counted_at}
use Rattle.echo_base.specs.Reading.{Read, ◌>>=◌, done, known, value_of}
use Rattle.echo_base.proofs.Answers.{bind}
use Rattle.device_types.specs.Octets.{AreOctets}
use Rattle.nas_kinds.specs.declared.kind.Header.{Header}
use Rattle.nas_kinds.specs.declared.kind.Header.TheVariants.{Plain, Protected, Service}
use Rattle.nas_kinds.specs.declared.kind.Kind.{Kind}
use Rattle.nas_kinds.specs.declared.kind.Kind.TheVariants as kinds
use Rattle.nas_kinds.specs.declared.kind.Protocol.{Protocol}
use Rattle.nas_kinds.specs.declared.kind.Protocol.TheVariants.{Mobility, Session}
use Rattle.nas_kinds.specs.declared.kind.SessionKind.{SessionKind}
use Rattle.nas_kinds.specs.declared.kind.SessionKind.TheVariants as session_kinds
use Rattle.nas_kinds.specs.declared.nas_in.NasIn.{NasIn}
use Rattle.nas_kinds.specs.declared.nas_in.NasIn.TheVariants.{AttachRequest, AttachComplete, DetachRequest, AreaRequest, AuthResponse, SecurityComplete, SecurityReject, ServiceRequest, PdnRequest, PdnAccept}
use Rattle.nas_kinds.specs.Reading.{Reader, identity_of, identity_at, algorithms_of, capability_at, pti_of, container_at, attach_request_at, attach_complete_at, detach_request_at, area_request_at, auth_response_at, security_reject_at, fields_at, kind_of, kind_at, mobility_at, session_kind_of, session_kind_at, pdn_request_at, session_fields_at, session_at, message_at, protocol_of, protocol_at, header_of, header_at, security_at, protected_at, service_at, behind_at, nas_at, nas_of}
use Rattle.nas_kinds.specs.Kinds.{short}

-- ---- readings of octets

-- what is read meets P, and what is left are octets
abbrev Yields : {A : Type 0} → (A → Type 0) → Read (List ℕ) Refusal A → Type 0
Yields P (Ok x) = P x.0 × AreOctets x.1
Yields P (Err e) = Unit {0}

abbrev IsRanged : {A : Type 0} → (A → Type 0) → Reader A → Type 0
IsRanged P f = (octets : List ℕ) → AreOctets octets → Yields P (f octets)

abbrev Any : {A : Type 0} → A → Type 0
Any v = Unit {0}

on_yields : {A B : Type 0} (P : A → Type 0) (Q : B → Type 0) (r : Read (List ℕ) Refusal A) (g : A → Reader B) → Yields P r → ((x : A) → P x → IsRanged Q (g x)) → Yields Q (bind r (λ x. g x.0 x.1))
on_yields P Q (Ok x) g h k = k x.0 h.0 x.1 h.1
on_yields P Q (Err e) g h k = tt

behind : {A B : Type 0} (P : A → Type 0) (Q : B → Type 0) (f : Reader A) (g : A → Reader B) → IsRanged P f → ((x : A) → P x → IsRanged Q (g x)) → IsRanged Q (f >>= g)
behind P Q f g h k = λ octets all. on_yields P Q (f octets) g (h octets all) k

done_ranged : {A : Type 0} (P : A → Type 0) (v : A) → P v → IsRanged P (done v)
done_ranged P v h = λ octets all. (h, all)

known_ranged : {A : Type 0} (P : A → Type 0) (o : Option A) (e : Refusal) → IfSome o P → IsRanged P (known o e)
known_ranged P (Some v) e h = λ octets all. (h, all)
known_ranged P None e h = λ octets all. tt

some_any : {A : Type 0} (o : Option A) → IfSome o Any
some_any (Some v) = tt
some_any None = tt

-- ---- fields

abbrev IsOctet : ℕ → Type 0
IsOctet octet = octet < 256

octet_ranged : IsRanged IsOctet (octet_at short)
unfolding octet_at
octet_ranged [] all = tt
octet_ranged (octet ∷ octets) all = let parts = recursion_from_All IsOctet (octet ∷ octets) all in (parts.0, All-from_recursion IsOctet octets parts.1)

octets_by : (n : ℕ) (octets : List ℕ) (few : Bool) → AreOctets octets → Yields AreOctets (cond few (Err short) (Ok (take n octets, drop n octets)))
octets_by n octets true all = tt
octets_by n octets false all = (All-take IsOctet n octets all, All-drop IsOctet n octets all)

octets_ranged : (n : ℕ) → IsRanged AreOctets (octets_at short n)
unfolding octets_at
octets_ranged n = λ octets all. octets_by n octets (nat_lt (length octets) n) all

counted_ranged : IsRanged AreOctets (counted_at short)
unfolding counted_at
counted_ranged = behind IsOctet AreOctets (octet_at short) (octets_at short) octet_ranged (λ n h. octets_ranged n)

long_counted_ranged : IsRanged AreOctets (long_counted_at short)
unfolding long_counted_at
long_counted_ranged = behind IsOctet AreOctets (octet_at short) _ octet_ranged (λ high h. behind IsOctet AreOctets (octet_at short) _ octet_ranged (λ low l. octets_ranged (256 * high + low)))

identity_ranged : IsRanged Any identity_at
unfolding identity_at
identity_ranged = behind AreOctets Any (counted_at short) _ counted_ranged (λ octets h. known_ranged Any (identity_of octets) _ (some_any (identity_of octets)))

abbrev ArePair : ℕ × ℕ → Type 0
ArePair v = (v.0 < 256) × (v.1 < 256)

algorithms_right : (octets : List ℕ) → AreOctets octets → IfSome (algorithms_of octets) ArePair
algorithms_right [] all = tt
algorithms_right (eea ∷ []) all = tt
algorithms_right (eea ∷ eia ∷ more) all = let parts = recursion_from_All IsOctet (eea ∷ eia ∷ more) all in (parts.0, parts.1.0)

capability_ranged : IsRanged ArePair capability_at
unfolding capability_at
capability_ranged = behind AreOctets ArePair (counted_at short) _ counted_ranged (λ octets h. known_ranged ArePair (algorithms_of octets) _ (algorithms_right octets h))

pti_right : (octets : List ℕ) → AreOctets octets → IfSome (pti_of octets) IsOctet
pti_right [] all = tt
pti_right (bearer ∷ []) all = tt
pti_right (bearer ∷ pti ∷ []) all = tt
pti_right (bearer ∷ pti ∷ type ∷ more) all = (recursion_from_All IsOctet (bearer ∷ pti ∷ type ∷ more) all).1.0

container_ranged : IsRanged IsOctet container_at
unfolding container_at
container_ranged = behind AreOctets IsOctet (long_counted_at short) _ long_counted_ranged (λ octets h. known_ranged IsOctet (pti_of octets) _ (pti_right octets h))

-- ---- messages

-- the fields that go into a body are in their ranges
abbrev pub IsNasRight : NasIn → Type 0
IsNasRight (AttachRequest identity eea eia pti) = (eea < 256) × (eia < 256) × (pti < 256)
IsNasRight AttachComplete = Unit {0}
IsNasRight (DetachRequest off identity) = Unit {0}
IsNasRight (AreaRequest identity) = Unit {0}
IsNasRight (AuthResponse res) = AreOctets res
IsNasRight SecurityComplete = Unit {0}
IsNasRight (SecurityReject cause) = Unit {0}
IsNasRight ServiceRequest = Unit {0}
IsNasRight (PdnRequest pti) = pti < 256
IsNasRight PdnAccept = Unit {0}

attach_ranged : IsRanged IsNasRight attach_request_at
unfolding attach_request_at
attach_ranged = behind IsOctet IsNasRight (octet_at short) _ octet_ranged (λ type t. behind Any IsNasRight identity_at _ identity_ranged (λ identity i. behind ArePair IsNasRight capability_at _ capability_ranged (λ capability c. behind IsOctet IsNasRight container_at _ container_ranged (λ pti p. done_ranged IsNasRight (AttachRequest identity capability.0 capability.1 pti) (c.0, c.1, p)))))

complete_ranged : IsRanged IsNasRight attach_complete_at
unfolding attach_complete_at
complete_ranged = behind AreOctets IsNasRight (long_counted_at short) _ long_counted_ranged (λ container c. done_ranged IsNasRight AttachComplete tt)

detach_ranged : IsRanged IsNasRight detach_request_at
unfolding detach_request_at
detach_ranged = behind IsOctet IsNasRight (octet_at short) _ octet_ranged (λ type t. behind Any IsNasRight identity_at _ identity_ranged (λ identity i. done_ranged IsNasRight (DetachRequest (type / 8 % 2 == 1) identity) tt))

area_ranged : IsRanged IsNasRight area_request_at
unfolding area_request_at
area_ranged = behind IsOctet IsNasRight (octet_at short) _ octet_ranged (λ type t. behind Any IsNasRight identity_at _ identity_ranged (λ identity i. done_ranged IsNasRight (AreaRequest identity) tt))

response_ranged : IsRanged IsNasRight auth_response_at
unfolding auth_response_at
response_ranged = behind AreOctets IsNasRight (counted_at short) _ counted_ranged (λ res r. done_ranged IsNasRight (AuthResponse res) r)

reject_ranged : IsRanged IsNasRight security_reject_at
unfolding security_reject_at
reject_ranged = behind IsOctet IsNasRight (octet_at short) _ octet_ranged (λ cause c. done_ranged IsNasRight (SecurityReject cause) tt)

fields_ranged : (kind : Kind) → IsRanged IsNasRight (fields_at kind)
fields_ranged kinds.AttachRequest = attach_ranged
fields_ranged kinds.AttachComplete = complete_ranged
fields_ranged kinds.DetachRequest = detach_ranged
fields_ranged kinds.AreaRequest = area_ranged
fields_ranged kinds.AuthResponse = response_ranged
fields_ranged kinds.SecurityComplete = done_ranged IsNasRight SecurityComplete tt
fields_ranged kinds.SecurityReject = reject_ranged

kind_ranged : IsRanged Any kind_at
unfolding kind_at
kind_ranged = behind IsOctet Any (octet_at short) _ octet_ranged (λ octet o. known_ranged Any (kind_of octet) _ (some_any (kind_of octet)))

mobility_ranged : IsRanged IsNasRight mobility_at
unfolding mobility_at
mobility_ranged = behind Any IsNasRight kind_at fields_at kind_ranged (λ kind k. fields_ranged kind)

session_kind_ranged : (bearer : ℕ) → IsRanged Any (session_kind_at bearer)
unfolding session_kind_at
session_kind_ranged bearer = behind IsOctet Any (octet_at short) _ octet_ranged (λ octet o. known_ranged Any (session_kind_of bearer octet) _ (some_any (session_kind_of bearer octet)))

pdn_ranged : (pti : ℕ) → IsOctet pti → IsRanged IsNasRight (pdn_request_at pti)
unfolding pdn_request_at
pdn_ranged pti p = behind IsOctet IsNasRight (octet_at short) _ octet_ranged (λ types t. done_ranged IsNasRight (PdnRequest pti) p)

session_fields_ranged : (pti : ℕ) → IsOctet pti → (kind : SessionKind) → IsRanged IsNasRight (session_fields_at pti kind)
session_fields_ranged pti p session_kinds.PdnRequest = pdn_ranged pti p
session_fields_ranged pti p session_kinds.PdnAccept = done_ranged IsNasRight PdnAccept tt

session_ranged : (bearer : ℕ) → IsRanged IsNasRight (session_at bearer)
unfolding session_at
session_ranged bearer = behind IsOctet IsNasRight (octet_at short) _ octet_ranged (λ pti p. behind Any IsNasRight (session_kind_at bearer) (session_fields_at pti) (session_kind_ranged bearer) (λ kind k. session_fields_ranged pti p kind))

message_ranged : (protocol : Protocol) → IsRanged IsNasRight (message_at protocol)
message_ranged Mobility = mobility_ranged
message_ranged (Session bearer) = session_ranged bearer

protocol_ranged : IsRanged Any protocol_at
unfolding protocol_at
protocol_ranged = behind IsOctet Any (octet_at short) _ octet_ranged (λ octet o. known_ranged Any (protocol_of octet) _ (some_any (protocol_of octet)))

header_ranged : IsRanged Any header_at
unfolding header_at
header_ranged = behind IsOctet Any (octet_at short) _ octet_ranged (λ octet o. known_ranged Any (header_of octet) _ (some_any (header_of octet)))

abbrev nothing : Unit {0}
nothing = tt

security_ranged : IsRanged Any security_at
unfolding security_at
security_ranged = behind AreOctets Any (octets_at short 4) _ (octets_ranged 4) (λ code c. behind IsOctet Any (octet_at short) _ octet_ranged (λ number n. done_ranged Any nothing tt))

protected_ranged : IsRanged IsNasRight protected_at
unfolding protected_at
protected_ranged = behind Any IsNasRight security_at _ security_ranged (λ security s. behind Any IsNasRight protocol_at message_at protocol_ranged (λ protocol p. message_ranged protocol))

service_ranged : IsRanged IsNasRight service_at
unfolding service_at
service_ranged = behind AreOctets IsNasRight (octets_at short 3) _ (octets_ranged 3) (λ behind b. done_ranged IsNasRight ServiceRequest tt)

behind_ranged : (header : Header) → IsRanged IsNasRight (behind_at header)
behind_ranged (Plain protocol) = message_ranged protocol
behind_ranged Protected = protected_ranged
behind_ranged Service = service_ranged

nas_ranged : IsRanged IsNasRight nas_at
unfolding nas_at
nas_ranged = behind Any IsNasRight header_at behind_at header_ranged (λ header h. behind_ranged header)

read_right : (read : Read (List ℕ) Refusal NasIn) → Yields IsNasRight read → IfOk (value_of read) IsNasRight
read_right (Ok x) h = h.0
read_right (Err e) h = tt

pub nas_right : (octets : List ℕ) → AreOctets octets → IfOk (nas_of octets) IsNasRight
unfolding nas_of
nas_right octets all = read_right (nas_at octets) (nas_ranged octets all)
