-- Each reading of a message is exact.
use Rattle.std.proofs.Common.{◌≡◌, ◌↔◌, ◌/◌, ◌%◌, ◌&&◌, ℕ, false, cond, eqb, List, [], ◌∷◌, Option, Some, None, option_map, Result, Ok, Err, IsOkAnd, refl, sym, ap, ◌∙◌, subst, inl, inr, arith}
use Rattle.std.proofs.lemmas.Bool.{cases_Bool, eqb-true, eqb-false, ne_eqb, and_parts}
use Rattle.std.proofs.lemmas.Option.{same_Some}
use Rattle.echo_base.specs.declared.refusal.Refusal.{Refusal}
use Rattle.echo_base.specs.declared.refusal.Bad.{Bad}
use Rattle.echo_base.specs.declared.refusal.Bad.TheVariants.{Refused, OutOfMemory}
use Rattle.echo_base.specs.Answer.{IsAnswerTaking}
use Rattle.echo_base.specs.Format.{IsExactly, Decides}
use Rattle.echo_base.specs.Reading.{Read, value_of, GivesTaking}
use Rattle.echo_base.proofs.Formats.{just_exactly, behind, known_exactly, value_ok, value_err}
use Rattle.echo_base.proofs.Fields.{octet_exactly, octets_exactly, counted_exactly, long_counted_exactly}
use Rattle.nas_kinds.specs.declared.kind.Header.{Header}
use Rattle.nas_kinds.specs.declared.kind.Header.TheVariants.{Plain, Protected, Service}
use Rattle.nas_kinds.specs.declared.kind.Kind.{Kind}
use Rattle.nas_kinds.specs.declared.kind.Kind.TheVariants.{AttachRequest, AttachComplete, DetachRequest, AreaRequest, AuthResponse, SecurityComplete, SecurityReject}
use Rattle.nas_kinds.specs.declared.kind.Protocol.{Protocol}
use Rattle.nas_kinds.specs.declared.kind.Protocol.TheVariants.{Mobility, Session}
use Rattle.nas_kinds.specs.declared.kind.SessionKind.{SessionKind}
use Rattle.nas_kinds.specs.declared.kind.SessionKind.TheVariants.{PdnRequest, PdnAccept}
use Rattle.nas_kinds.specs.declared.nas_in.NasIn.{NasIn}
use Rattle.nas_kinds.specs.Identity.{IsIdentity}
use Rattle.nas_kinds.specs.Kinds.{short, AreAlgorithms, IsTransaction, identity_in, capability_in, container_in, message_type, kind_in, fields_in, IsSessionKind, session_kind_in, session_fields_in, message_in, IsProtocol, protocol_in, IsHeader, header_in, security_in, behind_in, nas_in, NasSpells, NasRefuses, IsResponse}
use Rattle.nas_kinds.specs.Reading.{identity_of, algorithms_of, pti_of, kind_of, session_kind_of, protocol_of, header_of, identity_at, capability_at, container_at, attach_request_at, attach_complete_at, detach_request_at, area_request_at, auth_response_at, security_reject_at, kind_at, fields_at, mobility_at, session_kind_at, pdn_request_at, session_fields_at, session_at, message_at, protocol_at, header_at, security_at, protected_at, service_at, behind_at, nas_at, nas_of}
use Rattle.nas_kinds.proofs.Identities.{if_some, identity_decides}

-- ---- fields

identity_exactly : IsExactly identity_in identity_at
unfolding identity_in identity_at
identity_exactly = behind _ _ _ _ (counted_exactly short) (λ octets. known_exactly (identity_of octets) (IsIdentity octets) _ (identity_decides octets))

algorithms_found : (octets : List ℕ) (w : ℕ × ℕ) → algorithms_of octets ≡ Some w → AreAlgorithms octets w
algorithms_found [] w h = absurd cc
algorithms_found (eea ∷ []) w h = absurd cc
algorithms_found (eea ∷ eia ∷ more) w h = (more, ap (λ (x : ℕ × ℕ). x.0 ∷ x.1 ∷ more) (same_Some _ _ h))

capability_exactly : IsExactly capability_in capability_at
unfolding capability_in capability_at
capability_exactly = behind _ _ _ _ (counted_exactly short) (λ octets. known_exactly (algorithms_of octets) (AreAlgorithms octets) _ (record { found = algorithms_found octets; only = λ w p. rw p.1 refl }))

pti_found : (octets : List ℕ) (w : ℕ) → pti_of octets ≡ Some w → IsTransaction octets w
pti_found [] w h = absurd cc
pti_found (bearer ∷ []) w h = absurd cc
pti_found (bearer ∷ pti ∷ []) w h = absurd cc
pti_found (bearer ∷ pti ∷ type ∷ more) w h = (bearer, type, more, ap (λ x. bearer ∷ x ∷ type ∷ more) (same_Some _ _ h))

container_exactly : IsExactly container_in container_at
unfolding container_in container_at
container_exactly = behind _ _ _ _ (long_counted_exactly short) (λ octets. known_exactly (pti_of octets) (IsTransaction octets) _ (record { found = pti_found octets; only = λ w p. rw p.3 refl }))

-- ---- the table

fields_exactly : (kind : Kind) → IsExactly (fields_in kind) (fields_at kind)
unfolding fields_in attach_request_at attach_complete_at detach_request_at area_request_at auth_response_at security_reject_at
fields_exactly AttachRequest = behind _ _ _ _ (octet_exactly short) (λ attach_type. behind _ _ _ _ identity_exactly (λ identity. behind _ _ _ _ capability_exactly (λ capability. behind _ _ _ _ container_exactly (λ pti. just_exactly _))))
fields_exactly AttachComplete = behind _ _ _ _ (long_counted_exactly short) (λ container. just_exactly _)
fields_exactly DetachRequest = behind _ _ _ _ (octet_exactly short) (λ detach_type. behind _ _ _ _ identity_exactly (λ identity. just_exactly _))
fields_exactly AreaRequest = behind _ _ _ _ (octet_exactly short) (λ update_type. behind _ _ _ _ identity_exactly (λ identity. just_exactly _))
fields_exactly AuthResponse = behind _ _ _ _ (counted_exactly short) (λ res. just_exactly _)
fields_exactly SecurityComplete = just_exactly _
fields_exactly SecurityReject = behind _ _ _ _ (octet_exactly short) (λ cause. just_exactly _)

-- one row of a table: the value of that octet, or else a later one
row_found : {B : Type 0} (P : ℕ → B → Type 0) (octet n : ℕ) (v w : B) (o : Option B) → P n v → (o ≡ Some w → P octet w) → cond (eqb octet n) (Some v) o ≡ Some w → P octet w
row_found P octet n v w o here later h =
    elim (cases_Bool (eqb octet n)) [
      | inl t ↦ subst (λ k. P k w) (sym (eqb-true octet n t)) (subst (P n) (same_Some v w (rw t at h)) here)
      | inr f ↦ later (rw f at h)
    ]

-- the messages have types of their own
kind_only : (kind : Kind) → kind_of (message_type kind) ≡ Some kind
unfolding kind_of
kind_only AttachRequest = refl
kind_only AttachComplete = refl
kind_only DetachRequest = refl
kind_only AreaRequest = refl
kind_only AuthResponse = refl
kind_only SecurityComplete = refl
kind_only SecurityReject = refl

abbrev HasType : ℕ → Kind → Type 0
HasType octet kind = octet ≡ message_type kind

kind_decides : (octet : ℕ) → Decides (kind_of octet) (HasType octet)
unfolding kind_of
kind_decides octet = record {
  found = λ w. row_found HasType octet _ AttachRequest w _ refl (row_found HasType octet _ AttachComplete w _ refl (row_found HasType octet _ DetachRequest w _ refl (row_found HasType octet _ AreaRequest w _ refl (row_found HasType octet _ AuthResponse w _ refl (row_found HasType octet _ SecurityComplete w _ refl (row_found HasType octet _ SecurityReject w _ refl (λ h. absurd cc)))))));
  only = λ w p. ap kind_of p ∙ kind_only w;
}

kind_exactly : IsExactly kind_in kind_at
unfolding kind_in kind_at
kind_exactly = behind _ _ _ _ (octet_exactly short) (λ octet. known_exactly (kind_of octet) (HasType octet) _ (kind_decides octet))

mobility_exactly : IsExactly (message_in Mobility) mobility_at
unfolding message_in mobility_at
mobility_exactly = behind _ _ _ _ kind_exactly fields_exactly

-- ---- the table of session management

accept_found : (bearer octet : ℕ) (w : SessionKind) → cond (eqb octet 0xc2 && eqb bearer 6) (Some PdnAccept) None ≡ Some w → IsSessionKind bearer octet w
accept_found bearer octet w h =
    let t = if_some (eqb octet 0xc2 && eqb bearer 6) (Some PdnAccept) w h in
    let both = and_parts (eqb octet 0xc2) (eqb bearer 6) t.0 in
    subst (IsSessionKind bearer octet) (same_Some _ _ t.1) (eqb-true octet 0xc2 both.0, eqb-true bearer 6 both.1)

session_kind_only : (bearer octet : ℕ) (w : SessionKind) → IsSessionKind bearer octet w → session_kind_of bearer octet ≡ Some w
unfolding session_kind_of
session_kind_only bearer octet PdnRequest p = rw p refl
session_kind_only bearer octet PdnAccept p = rw (p.0, p.1) refl

session_kind_decides : (bearer octet : ℕ) → Decides (session_kind_of bearer octet) (IsSessionKind bearer octet)
unfolding session_kind_of
session_kind_decides bearer octet = record {
  found = λ w. row_found (IsSessionKind bearer) octet _ PdnRequest w _ refl (accept_found bearer octet w);
  only = session_kind_only bearer octet;
}

session_kind_exactly : (bearer : ℕ) → IsExactly (session_kind_in bearer) (session_kind_at bearer)
unfolding session_kind_in session_kind_at
session_kind_exactly bearer = behind _ _ _ _ (octet_exactly short) (λ octet. known_exactly (session_kind_of bearer octet) (IsSessionKind bearer octet) _ (session_kind_decides bearer octet))

session_fields_exactly : (pti : ℕ) (kind : SessionKind) → IsExactly (session_fields_in pti kind) (session_fields_at pti kind)
unfolding session_fields_in pdn_request_at
session_fields_exactly pti PdnRequest = behind _ _ _ _ (octet_exactly short) (λ types. just_exactly _)
session_fields_exactly pti PdnAccept = just_exactly _

session_exactly : (bearer : ℕ) → IsExactly (message_in (Session bearer)) (session_at bearer)
unfolding message_in session_at
session_exactly bearer = behind _ _ _ _ (octet_exactly short) (λ pti. behind _ _ _ _ (session_kind_exactly bearer) (session_fields_exactly pti))

message_exactly : (protocol : Protocol) → IsExactly (message_in protocol) (message_at protocol)
message_exactly Mobility = mobility_exactly
message_exactly (Session bearer) = session_exactly bearer

-- ---- the first octet

-- an octet whose low half is 2
not_seven : (octet k : ℕ) → octet % 16 ≡ 2 → k % 16 ≡ 7 → eqb octet k ≡ false
not_seven octet k two seven = ne_eqb octet k (λ e. absurd (omega (arith, two, seven, e)))

session_found : (octet : ℕ) (w : Protocol) → cond (eqb (octet % 16) 2) (Some (Session (octet / 16))) None ≡ Some w → IsProtocol octet w
session_found octet w h =
    let t = if_some (eqb (octet % 16) 2) (Some (Session (octet / 16))) w h in
    subst (IsProtocol octet) (same_Some _ _ t.1) (eqb-true (octet % 16) 2 t.0, refl)

protocol_only : (octet : ℕ) (w : Protocol) → IsProtocol octet w → protocol_of octet ≡ Some w
unfolding protocol_of
protocol_only octet Mobility p = (let e : octet ≡ 0x07 = omega (arith, p.0, p.1) in rw e refl)
protocol_only octet (Session bearer) p = rw (not_seven octet 0x07 p.0 refl, p.0, p.1) refl

protocol_decides : (octet : ℕ) → Decides (protocol_of octet) (IsProtocol octet)
unfolding protocol_of
protocol_decides octet = record {
  found = λ w. row_found IsProtocol octet _ Mobility w _ (refl, refl) (session_found octet w);
  only = protocol_only octet;
}

protocol_exactly : IsExactly protocol_in protocol_at
unfolding protocol_in protocol_at
protocol_exactly = behind _ _ _ _ (octet_exactly short) (λ octet. known_exactly (protocol_of octet) (IsProtocol octet) _ (protocol_decides octet))

plain_only : (octet : ℕ) (protocol : Protocol) → IsProtocol octet protocol → header_of octet ≡ Some (Plain protocol)
unfolding header_of
plain_only octet Mobility p = (let e : octet ≡ 0x07 = omega (arith, p.0, p.1) in rw (e, protocol_only 0x07 Mobility (refl, refl)) refl)
plain_only octet (Session bearer) p = rw (not_seven octet 0x17 p.0 refl, not_seven octet 0x27 p.0 refl, not_seven octet 0x37 p.0 refl, not_seven octet 0x47 p.0 refl, not_seven octet 0xc7 p.0 refl, protocol_only octet (Session bearer) p) refl

protected_only : (octet : ℕ) → IsHeader octet Protected → header_of octet ≡ Some Protected
unfolding header_of
protected_only octet p =
    elim (cases_Bool (eqb octet 0x17)) [
      | inl t ↦ rw (eqb-true octet 0x17 t) refl
      | inr a ↦ elim (cases_Bool (eqb octet 0x27)) [
        | inl t ↦ rw (eqb-true octet 0x27 t) refl
        | inr b ↦ elim (cases_Bool (eqb octet 0x37)) [
          | inl t ↦ rw (eqb-true octet 0x37 t) refl
          | inr d ↦
              let x = eqb-false octet 0x17 a in
              let y = eqb-false octet 0x27 b in
              let z = eqb-false octet 0x37 d in
              let e : octet ≡ 0x47 = omega (arith, p.0, p.1, p.2, x, y, z) in
              rw e refl
        ]
      ]
    ]

header_only : (octet : ℕ) (w : Header) → IsHeader octet w → header_of octet ≡ Some w
unfolding header_of
header_only octet (Plain protocol) p = plain_only octet protocol p
header_only octet Protected p = protected_only octet p
header_only octet Service p = (let e : octet ≡ 0xc7 = omega (arith, p.0, p.1) in rw e refl)

plain_found : (octet : ℕ) (o : Option Protocol) (w : Header) → ((protocol : Protocol) → o ≡ Some protocol → IsProtocol octet protocol) → option_map Plain o ≡ Some w → IsHeader octet w
plain_found octet (Some protocol) w found h = subst (IsHeader octet) (same_Some _ _ h) (found protocol refl)
plain_found octet None w found h = absurd cc

header_decides : (octet : ℕ) → Decides (header_of octet) (IsHeader octet)
unfolding header_of
header_decides octet = record {
  found = λ w. row_found IsHeader octet _ Protected w _ (refl, omega arith, omega arith) (row_found IsHeader octet _ Protected w _ (refl, omega arith, omega arith) (row_found IsHeader octet _ Protected w _ (refl, omega arith, omega arith) (row_found IsHeader octet _ Protected w _ (refl, omega arith, omega arith) (row_found IsHeader octet _ Service w _ (refl, refl) (plain_found octet (protocol_of octet) w (protocol_decides octet).found)))));
  only = header_only octet;
}

header_exactly : IsExactly header_in header_at
unfolding header_in header_at
header_exactly = behind _ _ _ _ (octet_exactly short) (λ octet. known_exactly (header_of octet) (IsHeader octet) _ (header_decides octet))

security_exactly : IsExactly security_in security_at
unfolding security_in security_at
security_exactly = behind _ _ _ _ (octets_exactly short 4) (λ code. behind _ _ _ _ (octet_exactly short) (λ number. just_exactly _))

behind_exactly : (header : Header) → IsExactly (behind_in header) (behind_at header)
unfolding behind_in protected_at service_at
behind_exactly (Plain protocol) = message_exactly protocol
behind_exactly Protected = behind _ _ _ _ security_exactly (λ security. behind _ _ _ _ protocol_exactly message_exactly)
behind_exactly Service = behind _ _ _ _ (octets_exactly short 3) (λ behind. just_exactly _)

pub nas_exactly : IsExactly nas_in nas_at
unfolding nas_in nas_at
nas_exactly = behind _ _ _ _ header_exactly behind_exactly

-- ---- what a reader of the code gave

pub gives_answer : (result : Result NasIn Bad) (octets rest : List ℕ) → GivesTaking IsResponse result rest (nas_at octets) → IsAnswerTaking IsResponse (nas_of octets) result
unfolding nas_of
gives_answer (Ok message) octets rest h = rw h refl
gives_answer (Err (Refused e)) octets rest h = rw h refl
gives_answer (Err OutOfMemory) octets rest h = taken (nas_at octets) h
  where
    taken : (r : Read (List ℕ) Refusal NasIn) → IsOkAnd r (λ x. IsResponse x.0) → IsOkAnd (value_of r) IsResponse
    taken (Ok x) h = h
    taken (Err e) h = absurd h

pub message_exact : (octets : List ℕ) (message : NasIn) → (nas_of octets ≡ Ok message) ↔ NasSpells octets message
unfolding nas_of
message_exact octets message = (λ h. (let x = value_ok (nas_at octets) message h in (x.0, nas_exactly.found octets message x.0 x.1)), λ s. ap value_of (nas_exactly.only octets message s.0 s.1))

pub refusal_exact : (octets : List ℕ) (e : Refusal) → (nas_of octets ≡ Err e) ↔ NasRefuses octets e
unfolding nas_of
refusal_exact octets e = (λ h. nas_exactly.wrong octets e (value_err (nas_at octets) e h), λ r. ap value_of (nas_exactly.refused octets e r))
