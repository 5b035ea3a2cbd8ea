-- Where the message type stands.
use Rattle.std.proofs.Common.{◌≡◌, ℕ, List, [], ◌∷◌, ◌++◌, length, drop, Some, refl, sym, ap, ◌∙◌, subst, append_assoc, length-append, arith}
use Rattle.std.specs.Prelude.{slice_get}
use Rattle.std.proofs.lemmas.List.{drop_at}
use Rattle.nas_kinds.specs.declared.kind.Header.{Header}
use Rattle.nas_kinds.specs.declared.kind.Header.TheVariants.{Plain, Protected, Service}
use Rattle.nas_kinds.specs.declared.kind.Kind.{Kind}
use Rattle.nas_kinds.specs.declared.kind.Kind.TheVariants.{AttachRequest, AttachComplete, DetachRequest, AreaRequest, AuthResponse, SecurityComplete, SecurityReject}
use Rattle.nas_kinds.specs.declared.kind.Protocol.{Protocol}
use Rattle.nas_kinds.specs.declared.kind.Protocol.TheVariants.{Mobility, Session}
use Rattle.nas_kinds.specs.declared.kind.SessionKind.{SessionKind}
use Rattle.nas_kinds.specs.declared.kind.SessionKind.TheVariants.{PdnRequest, PdnAccept}
use Rattle.nas_kinds.specs.declared.nas_in.NasIn.{NasIn}
use Rattle.nas_kinds.specs.Kinds.{type_of, message_type, fields_in, IsSessionKind, session_kind_in, session_fields_in, message_in, kind_in, protocol_in, header_in, security_in, behind_in, nas_in, IsHeader, type_place, HasPlainType, HasType, NasSpells}

-- the message with the fields of a kind is of that type
fields_type : (kind : Kind) (octets : List ℕ) (message : NasIn) (rest : List ℕ) → (fields_in kind).Stands octets message rest → type_of message ≡ message_type kind
unfolding fields_in
fields_type AttachRequest octets message rest s = ap type_of s.3.3.3.3.0
fields_type AttachComplete octets message rest s = ap type_of s.3.0
fields_type DetachRequest octets message rest s = ap type_of s.3.3.0
fields_type AreaRequest octets message rest s = ap type_of s.3.3.0
fields_type AuthResponse octets message rest s = ap type_of s.3.0
fields_type SecurityComplete octets message rest s = ap type_of s.0
fields_type SecurityReject octets message rest s = ap type_of s.3.0

-- behind the first octet of a message of mobility management stands its type
mobility_typed : (octets : List ℕ) (message : NasIn) (rest : List ℕ) → (message_in Mobility).Stands octets message rest → (behind : List ℕ) × (octets ≡ type_of message ∷ behind)
unfolding message_in kind_in
mobility_typed octets message rest s =
    let kind = s.2 in
    let type : type_of message ≡ kind.0 = fields_type s.0 s.1 message rest s.3 ∙ sym kind.3.0 in
    (kind.1, kind.2 ∙ ap (λ (n : ℕ). n ∷ kind.1) (sym type))

-- the message with the fields of a kind of session management is of that type
session_fields_type : (bearer pti octet : ℕ) (kind : SessionKind) (octets : List ℕ) (message : NasIn) (rest : List ℕ) → IsSessionKind bearer octet kind → (session_fields_in pti kind).Stands octets message rest → octet ≡ type_of message
unfolding session_fields_in
session_fields_type bearer pti octet PdnRequest octets message rest is s = is ∙ sym (ap type_of s.3.0)
session_fields_type bearer pti octet PdnAccept octets message rest is s = is.0 ∙ sym (ap type_of s.0)

-- and behind that of one of session management a procedure transaction identity, and its type
session_typed : (bearer : ℕ) (octets : List ℕ) (message : NasIn) (rest : List ℕ) → (message_in (Session bearer)).Stands octets message rest → (pti : ℕ) × (behind : List ℕ) × (octets ≡ pti ∷ type_of message ∷ behind)
unfolding message_in session_kind_in
session_typed bearer octets message rest s =
    let kind = s.3.2 in
    let type : kind.0 ≡ type_of message = session_fields_type bearer s.0 kind.0 s.3.0 s.3.1 message rest kind.3.0 s.3.3 in
    (s.0, kind.1, s.2 ∙ ap (λ (l : List ℕ). s.0 ∷ l) (kind.2 ∙ ap (λ (n : ℕ). n ∷ kind.1) type))

-- so the type stands in its place behind the first octet
plain_typed : (protocol : Protocol) (first : ℕ) (behind : List ℕ) (message : NasIn) (rest : List ℕ) → (message_in protocol).Stands behind message rest → slice_get (first ∷ behind) (type_place protocol) ≡ Some (type_of message)
plain_typed Mobility first behind message rest s = rw (mobility_typed behind message rest s).1 refl
plain_typed (Session bearer) first behind message rest s = rw (session_typed bearer behind message rest s).2 refl

-- a message in a protected one: behind a first octet, a message authentication code and a sequence number
protected_typed : (first : ℕ) (behind : List ℕ) (message : NasIn) (rest : List ℕ) → (behind_in Protected).Stands behind message rest → (protocol : Protocol) × HasPlainType (drop 6 (first ∷ behind)) (type_of message) protocol
unfolding behind_in security_in protocol_in
protected_typed first behind message rest s =
    let code = s.2 in
    let number = code.3 in
    let protocol = s.3 in
    let octet = protocol.2 in
    let front : List ℕ = first ∷ code.0 ++ number.0 ∷ [] in
    let inner : List ℕ = octet.0 ∷ octet.1 in
    let six : length front ≡ 6 = omega (arith, code.2.1, length-append code.0 (number.0 ∷ [])) in
    let whole : first ∷ behind ≡ front ++ inner = ap (λ (l : List ℕ). first ∷ l) (code.2.0 ∙ ap (λ (l : List ℕ). code.0 ++ l) (number.2 ∙ ap (λ (l : List ℕ). number.0 ∷ l) (number.3.1 ∙ octet.2)) ∙ sym (append_assoc code.0 (number.0 ∷ []) inner)) in
    let dropped : drop 6 (first ∷ behind) ≡ inner = ap (λ (l : List ℕ). drop 6 l) whole ∙ drop_at front inner 6 six in
    let type : slice_get inner (type_place protocol.0) ≡ Some (type_of message) = plain_typed protocol.0 octet.0 octet.1 message rest (subst (λ (l : List ℕ). (message_in protocol.0).Stands l message rest) (sym octet.3.1) protocol.3) in
    (protocol.0, subst (λ (l : List ℕ). HasPlainType l (type_of message) protocol.0) (sym dropped) (octet.0, refl, octet.3.0, type))

-- the message type in its place
placed : (header : Header) (first : ℕ) (message : NasIn) (behind rest : List ℕ) → IsHeader first header → (behind_in header).Stands behind message rest → HasType (first ∷ behind) (type_of message) header
unfolding behind_in
placed (Plain protocol) first message behind rest is s = (first, refl, is, plain_typed protocol first behind message rest s)
placed Protected first message behind rest is s = (let t = protected_typed first behind message rest s in (first, t.0, refl, is, t.1))
placed Service first message behind rest is s =
    let type : first ≡ 0xc7 = omega (arith, is.0, is.1) in
    rw (s.3.0, type) (refl, (refl, refl))

pub typed : (octets : List ℕ) (message : NasIn) → NasSpells octets message → (header : Header) × HasType octets (type_of message) header
unfolding nas_in header_in
typed octets message spelled =
    let s = spelled.1 in
    let first = s.2 in
    let whole : octets ≡ first.0 ∷ s.1 = first.2 ∙ ap (λ (l : List ℕ). first.0 ∷ l) first.3.1 in
    (s.0, subst (λ (l : List ℕ). HasType l (type_of message) s.0) (sym whole) (placed s.0 first.0 message s.1 spelled.0 first.3.0 s.3))
