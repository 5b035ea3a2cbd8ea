-- What octets are, read from left to right, is what they spell, or why they are refused.
use Rattle.std.proofs.Common.{◌≡◌, ◌⊎◌, ◌↔◌, ℕ, ◌≤◌, eqb, leb, Bool, true, false, cond, List, Option, Some, None, Ok, Err, IsOkAnd, refl, sym, ap, ◌∙◌, inl, inr, eq-eqb}
use Rattle.std.specs.Prelude.{Result}
use Rattle.std.proofs.lemmas.Bool.{eqb-true, leb-true, le-leb}
use Rattle.std.proofs.lemmas.Option.{same_Some}
use Rattle.echo_base.specs.declared.refusal.Refusal.{Refusal}
use Rattle.echo_base.specs.Format.{IsExactly, Decides}
use Rattle.echo_base.specs.declared.refusal.Bad.{Bad}
use Rattle.echo_base.specs.declared.refusal.Bad.TheVariants.{Refused, OutOfMemory}
use Rattle.echo_base.specs.Answer.{IsAnswerTaking}
use Rattle.echo_base.specs.Reading.{Read, value_of, GivesTaking}
use Rattle.echo_base.proofs.Answers.{bind_ok, bind_err, ok_of, ok_err, ok_is, ok_parts}
use Rattle.echo_base.proofs.Formats.{just_exactly, behind, known_exactly, value_ok, value_err}
use Rattle.echo_base.proofs.Fields.{octet_exactly, octets_exactly, number_exactly}
use Rattle.tlv_elements.specs.Element.{truncated}
use Rattle.tlv_elements.specs.Reading.{whole_at}
use Rattle.tlv_elements.specs.Grammar.{laws}
use Rattle.tlv_elements.specs.Piece.{passing, Passes}
use Rattle.tlv_elements.proofs.Pieces.{passing_decides}
use Rattle.tlv_elements.proofs.Exact.{AreLaws}
use Rattle.tlv_elements.proofs.Whole.{rows_are_laws, whole_found, whole_only, whole_wrong, whole_refused}
use Rattle.tlv_elements.proofs.Fields.{table_found, table_only, table_wrong, table_refused}
use Rattle.gtp2_ies.specs.Frame.{frame_in, gtp}
use Rattle.gtp2_ies.proofs.Frames.{gtp_is}
use Rattle.gtp2_wire.specs.declared.gtp.Gtp.{Gtp}
use Rattle.gtp2_wire.specs.declared.gtp.GtpBody.{GtpBody}
use Rattle.gtp2_wire.specs.declared.gtp.GtpBody.TheVariants as body
use Rattle.gtp2_wire.specs.declared.kind.Kind.{Kind}
use Rattle.gtp2_wire.specs.declared.kind.Kind.TheVariants as kinds
use Rattle.gtp2_wire.specs.Header.{Header}
use Rattle.gtp2_wire.specs.Kinds.{type_of, kind_of}
use Rattle.gtp2_wire.specs.Shapes.{shape_of, kind_rules}
use Rattle.gtp2_wire.specs.Messages.{rejection, body_by, body_at, SpellsBy, SpellsBody, RefusesBy, RefusesBody, nothing, header_in, header_at, with_head, is_behind, behind_in, behind_at, gtp_in, gtp_at, GtpSpells, GtpRefuses, gtp_of, TakesMemory}
use Rattle.gtp2_wire.proofs.ShapeLaws.{shape_is}

-- ---- what stands behind a header

kind_laws : (kind : Kind) (all : Bool) → AreLaws (laws frame_in gtp ((shape_of kind).rows all))
kind_laws kind all = rows_are_laws frame_in gtp gtp_is ((shape_of kind).rows all) ((shape_is kind).table all).0

by_found : (o : Option ℕ) (kind : Kind) (end : ℕ) (behind : Bool) (octets : List ℕ) (b : GtpBody) → body_by o kind end behind octets ≡ Ok b → SpellsBy o kind end behind octets b
by_found None kind end behind octets b h = table_found frame_in gtp gtp_is ((shape_of kind).rows true) ((shape_is kind).table true) (shape_is kind).needs (shape_of kind).make (shape_of kind).pick (shape_is kind).picks end behind octets b h
by_found (Some c) kind end behind octets b h =
    let x = bind_ok (whole_at gtp (kind_rules kind false) end behind octets) (λ right. Ok (body.Rejected (type_of kind) c)) b h in
    (whole_found frame_in gtp gtp_is (laws frame_in gtp ((shape_of kind).rows false)) (kind_laws kind false) ((shape_is kind).table false).1 end behind octets x.1, sym (ok_is _ b x.2))

by_only : (o : Option ℕ) (kind : Kind) (end : ℕ) (behind : Bool) (octets : List ℕ) (b : GtpBody) → SpellsBy o kind end behind octets b → body_by o kind end behind octets ≡ Ok b
by_only None kind end behind octets b s = table_only frame_in gtp gtp_is ((shape_of kind).rows true) ((shape_is kind).table true) (shape_of kind).make (shape_of kind).pick (shape_is kind).picks end behind octets b s
by_only (Some c) kind end behind octets b s = rw (whole_only frame_in gtp gtp_is (laws frame_in gtp ((shape_of kind).rows false)) (kind_laws kind false) ((shape_is kind).table false).1 end behind octets s.0.0 s.0.1) (ap ok_of (sym s.1))

by_wrong : (o : Option ℕ) (kind : Kind) (end : ℕ) (behind : Bool) (octets : List ℕ) (x : Refusal) → body_by o kind end behind octets ≡ Err x → RefusesBy o kind end behind octets x
by_wrong None kind end behind octets x h = table_wrong frame_in gtp gtp_is ((shape_of kind).rows true) ((shape_is kind).table true) (shape_is kind).needs (shape_of kind).make (shape_of kind).pick (shape_is kind).picks end behind octets x h
by_wrong (Some c) kind end behind octets x h =
    elim (bind_err (whole_at gtp (kind_rules kind false) end behind octets) (λ right. Ok (body.Rejected (type_of kind) c)) x h) [
      | inl a ↦ whole_wrong frame_in gtp gtp_is (laws frame_in gtp ((shape_of kind).rows false)) (kind_laws kind false) ((shape_is kind).table false).1 end behind octets x a
      | inr y ↦ absurd (ok_err (body.Rejected (type_of kind) c) x y.2)
    ]

by_refused : (o : Option ℕ) (kind : Kind) (end : ℕ) (behind : Bool) (octets : List ℕ) (x : Refusal) → RefusesBy o kind end behind octets x → body_by o kind end behind octets ≡ Err x
by_refused None kind end behind octets x r = table_refused frame_in gtp gtp_is ((shape_of kind).rows true) ((shape_is kind).table true) (shape_of kind).pick end behind octets x r
by_refused (Some c) kind end behind octets x r = rw (whole_refused frame_in gtp gtp_is (laws frame_in gtp ((shape_of kind).rows false)) (kind_laws kind false) ((shape_is kind).table false).1 end behind octets x r) refl

body_found : (kind : Kind) (end : ℕ) (behind : Bool) (octets : List ℕ) (b : GtpBody) → body_at kind end behind octets ≡ Ok b → SpellsBody kind end behind octets b
unfolding body_at
body_found kind end behind octets b h = by_found (rejection kind end octets) kind end behind octets b h

body_only : (kind : Kind) (end : ℕ) (behind : Bool) (octets : List ℕ) (b : GtpBody) → SpellsBody kind end behind octets b → body_at kind end behind octets ≡ Ok b
unfolding body_at
body_only kind end behind octets b s = by_only (rejection kind end octets) kind end behind octets b s

body_wrong : (kind : Kind) (end : ℕ) (behind : Bool) (octets : List ℕ) (x : Refusal) → body_at kind end behind octets ≡ Err x → RefusesBody kind end behind octets x
unfolding body_at
body_wrong kind end behind octets x h = by_wrong (rejection kind end octets) kind end behind octets x h

body_refused : (kind : Kind) (end : ℕ) (behind : Bool) (octets : List ℕ) (x : Refusal) → RefusesBody kind end behind octets x → body_at kind end behind octets ≡ Err x
unfolding body_at
body_refused kind end behind octets x r = by_refused (rejection kind end octets) kind end behind octets x r

-- ---- the header

kind_next : (octet : ℕ) (one : Kind) (others : Option Kind) (kind : Kind) → (others ≡ Some kind → octet ≡ type_of kind) → cond (eqb octet (type_of one)) (Some one) others ≡ Some kind → octet ≡ type_of kind
kind_next octet one others kind later h = by (eqb octet (type_of one)) refl h
  where
    by : (b : Bool) → eqb octet (type_of one) ≡ b → cond b (Some one) others ≡ Some kind → octet ≡ type_of kind
    by true e h = eqb-true octet (type_of one) e ∙ ap type_of (same_Some one kind h)
    by false e h = later h

kind_found : (octet : ℕ) (kind : Kind) → kind_of octet ≡ Some kind → octet ≡ type_of kind
kind_found octet kind =
    kind_next octet kinds.Create _ kind (
    kind_next octet kinds.Created _ kind (
    kind_next octet kinds.Modify _ kind (
    kind_next octet kinds.Modified _ kind (
    kind_next octet kinds.Delete _ kind (
    kind_next octet kinds.Deleted _ kind (
    kind_next octet kinds.Release _ kind (
    kind_next octet kinds.Released _ kind (
    λ h. absurd cc))))))))

kind_back : (kind : Kind) → kind_of (type_of kind) ≡ Some kind
kind_back kinds.Create = refl
kind_back kinds.Created = refl
kind_back kinds.Modify = refl
kind_back kinds.Modified = refl
kind_back kinds.Delete = refl
kind_back kinds.Deleted = refl
kind_back kinds.Release = refl
kind_back kinds.Released = refl

kind_decides : (octet : ℕ) → Decides (kind_of octet) (λ kind. octet ≡ type_of kind)
kind_decides octet = record { found = kind_found octet; only = λ kind e. rw e (kind_back kind) }

header_exactly : IsExactly header_in header_at
unfolding header_in header_at
header_exactly =
    behind _ _ _ _ (octet_exactly (truncated 0)) (λ first.
    behind _ _ _ _ (known_exactly (passing (eqb first 0x48) nothing) (Passes (first ≡ 0x48) nothing) _ (passing_decides (eqb first 0x48) nothing (first ≡ 0x48) (λ h. eqb-true first 0x48 h) (λ e. eq-eqb first 0x48 e))) (λ version.
    behind _ _ _ _ (octet_exactly (truncated 1)) (λ type.
    behind _ _ _ _ (known_exactly (kind_of type) (λ kind. type ≡ type_of kind) _ (kind_decides type)) (λ kind.
    behind _ _ _ _ (number_exactly (truncated 2) 2) (λ size.
    behind _ _ _ _ (known_exactly (passing (leb 8 size) nothing) (Passes (8 ≤ size) nothing) _ (passing_decides (leb 8 size) nothing (8 ≤ size) (λ h. leb-true 8 size h) (λ p. le-leb 8 size p))) (λ enough.
    behind _ _ _ _ (number_exactly (truncated 2) 4) (λ teid.
    behind _ _ _ _ (number_exactly (truncated 2) 3) (λ seq.
    behind _ _ _ _ (octet_exactly (truncated 2)) (λ spare.
    behind _ _ _ _ (octets_exactly (truncated 2) _) (λ octets.
    just_exactly _))))))))))

-- ---- whole messages

behind_exactly : (h : Header) → IsExactly (behind_in h) (behind_at h)
behind_exactly h = record {
  found = λ s g t e.
      let x = bind_ok (body_at h.kind h.end (is_behind s) h.octets) (λ b. Ok (with_head h b, s)) (g, t) e in
      let p = ok_parts (with_head h x.0) g s t x.2 in
      ((x.0, body_found h.kind h.end (is_behind s) h.octets x.0 x.1, sym p.0), p.1);
  only = λ s g t m. rw (body_only h.kind h.end (is_behind s) h.octets m.0.0 m.0.1, m.0.2, m.1) refl;
  wrong = λ s x e. unread s x (bind_err (body_at h.kind h.end (is_behind s) h.octets) (λ b. Ok (with_head h b, s)) x e);
  refused = λ s x r. rw (body_refused h.kind h.end (is_behind s) h.octets x r) refl;
}
  where
    unread : (s : List ℕ) (x : Refusal) → (body_at h.kind h.end (is_behind s) h.octets ≡ Err x) ⊎ ((b : GtpBody) × (body_at h.kind h.end (is_behind s) h.octets ≡ Ok b) × (ok_of {A = Gtp × List ℕ} (with_head h b, s) ≡ Err x)) → RefusesBody h.kind h.end (is_behind s) h.octets x
    unread s x (inl a) = body_wrong h.kind h.end (is_behind s) h.octets x a
    unread s x (inr y) = absurd (ok_err (with_head h y.0, s) x y.2)

pub gtp_exactly : IsExactly gtp_in gtp_at
unfolding gtp_in gtp_at
gtp_exactly = behind _ _ _ _ header_exactly behind_exactly

pub message_exact : (octets : List ℕ) (g : Gtp) → (gtp_of octets ≡ Ok g) ↔ GtpSpells octets g
message_exact octets g = (λ h. (let x = value_ok (gtp_at octets) g h in (x.0, gtp_exactly.found octets g x.0 x.1)), λ s. ap value_of (gtp_exactly.only octets g s.0 s.1))

pub refusal_exact : (octets : List ℕ) (x : Refusal) → (gtp_of octets ≡ Err x) ↔ GtpRefuses octets x
refusal_exact octets x = (λ h. gtp_exactly.wrong octets x (value_err (gtp_at octets) x h), λ r. ap value_of (gtp_exactly.refused octets x r))

-- ---- what a reader of the code gave

pub gives_answer : (result : Result Gtp Bad) (octets rest : List ℕ) → GivesTaking TakesMemory result rest (gtp_at octets) → IsAnswerTaking TakesMemory (gtp_of octets) result
gives_answer (Ok message) octets rest h = rw h refl
gives_answer (Err (Refused e)) octets rest h = rw h refl
gives_answer (Err OutOfMemory) octets rest h = taken (gtp_at octets) h
  where
    taken : (r : Read (List ℕ) Refusal Gtp) → IsOkAnd r (λ x. TakesMemory x.0) → IsOkAnd (value_of r) TakesMemory
    taken (Ok x) h = h
    taken (Err e) h = absurd h
