-- Each kind of message is one: its table is a table, all of it is needed where all is asked, and what is picked out of octets is what their values make.
use Rattle.std.proofs.Common.{◌≡◌, ◌∙◌, ℕ, Bool, true, List, [], length, Some, refl, arith}
use Rattle.tlv_elements.specs.Element.{Element}
use Rattle.tlv_elements.specs.Reading.{row_of}
use Rattle.tlv_elements.specs.Grammar.{Framed, first, HoldsAll}
use Rattle.tlv_elements.proofs.Whole.{IsTable}
use Rattle.tlv_elements.proofs.Fields.{NeedsAll, find_first}
use Rattle.gtp2_ies.specs.Frame.{frame_in, gtp}
use Rattle.gtp2_ies.specs.Picking.{found}
use Rattle.gtp2_ies.proofs.Frames.{gtp_is}
use Rattle.gtp2_wire.specs.declared.kind.Kind.{Kind}
use Rattle.gtp2_wire.specs.declared.kind.Kind.TheVariants as kinds
use Rattle.gtp2_wire.specs.Tables.{Nothing, CreateFields, CreatedFields, ModifyFields, ModifiedFields, create_bearer, created_bearer, modify_bearer, modified_bearer, create, created, modify, modified, delete, release, cause_alone}
use Rattle.gtp2_wire.specs.Shapes.{Shape, shape_of, make_create, make_created, make_modify, make_modified, make_delete, pick_create, pick_created, pick_modify, pick_modified, pick_delete}
use Rattle.gtp2_wire.proofs.ValueLaws.{exactly_is, cause_is, ebi_is, fteid_is, address_is, no_address_is, rates_is, qos_is, apn_is, imsi_is}

pub record IsShape (s : Shape) : Type 0 where
  pub table : (all : Bool) → IsTable frame_in gtp (s.rows all)
  pub needs : NeedsAll (s.rows true)
  pub picks : (end : ℕ) (octets : List ℕ) (es : List Element) (a : s.Fields) → Framed frame_in end octets es [] → HoldsAll frame_in (s.rows true) es a → s.pick end octets ≡ Some (s.make a)

-- ---- tables: each value is read as it is meant, and no two rows have one type

create_bearer_is : IsTable frame_in gtp create_bearer
unfolding row_of
create_bearer_is = ((ebi_is, refl, (qos_is, refl, tt)), omega arith, ((λ before e r. r.1), ((λ before e r. r.1), tt)))

created_bearer_is : (all : Bool) → IsTable frame_in gtp (created_bearer all)
unfolding row_of
created_bearer_is all = ((ebi_is, refl, (cause_is, refl, (fteid_is 0x81, refl, tt))), omega arith, ((λ before e r. r.1), ((λ before e r. r.1), ((λ before e r. r.1), tt))))

modify_bearer_is : IsTable frame_in gtp modify_bearer
unfolding row_of
modify_bearer_is = ((ebi_is, refl, (fteid_is 0x80, refl, tt)), omega arith, ((λ before e r. r.1), ((λ before e r. r.1), tt)))

modified_bearer_is : (all : Bool) → IsTable frame_in gtp (modified_bearer all)
unfolding row_of
modified_bearer_is all = ((ebi_is, refl, (cause_is, refl, tt)), omega arith, ((λ before e r. r.1), ((λ before e r. r.1), tt)))

create_is : IsTable frame_in gtp create
unfolding row_of
create_is = ((imsi_is, refl, (exactly_is 6, refl, (fteid_is 0x8a, refl, (apn_is, refl, (exactly_is 1, refl, (no_address_is, refl, (rates_is, refl, (create_bearer_is, refl, tt)))))))), omega arith, ((λ before e r. r.1), ((λ before e r. r.1), ((λ before e r. r.1), ((λ before e r. r.1), ((λ before e r. r.1), ((λ before e r. r.1), ((λ before e r. r.1), ((λ before e r. r.1), tt)))))))))

created_is : (all : Bool) → IsTable frame_in gtp (created all)
unfolding row_of
created_is all = ((cause_is, refl, (fteid_is 0x8b, refl, (address_is, refl, (created_bearer_is all, refl, tt)))), omega arith, ((λ before e r. r.1), ((λ before e r. r.1), ((λ before e r. r.1), ((λ before e r. r.1), tt)))))

modify_is : IsTable frame_in gtp modify
unfolding row_of
modify_is = ((modify_bearer_is, refl, tt), omega arith, ((λ before e r. r.1), tt))

modified_is : (all : Bool) → IsTable frame_in gtp (modified all)
unfolding row_of
modified_is all = ((cause_is, refl, (modified_bearer_is all, refl, tt)), omega arith, ((λ before e r. r.1), ((λ before e r. r.1), tt)))

delete_is : IsTable frame_in gtp delete
unfolding row_of
delete_is = ((ebi_is, refl, tt), omega arith, ((λ before e r. r.1), tt))

release_is : IsTable frame_in gtp release
release_is = (tt, omega arith, tt)

cause_alone_is : IsTable frame_in gtp cause_alone
unfolding row_of
cause_alone_is = ((cause_is, refl, tt), omega arith, ((λ before e r. r.1), tt))

-- ---- what is picked

pub is_found : (tag end : ℕ) (octets : List ℕ) (es : List Element) (e : Element) → Framed frame_in end octets es [] → first tag 0 es ≡ Some e → found tag end octets ≡ Some e
is_found tag end octets es e framed h = find_first frame_in gtp gtp_is end tag 0 (length octets) es octets (omega arith) framed ∙ h

create_picks : (end : ℕ) (octets : List ℕ) (es : List Element) (a : CreateFields) → Framed frame_in end octets es [] → HoldsAll frame_in create es a → pick_create end octets ≡ Some (make_create a)
create_picks end octets es a f h =
    let i = h.0 in
    let t = h.1.1.0 in
    let n = h.1.1.1.0 in
    let r = h.1.1.1.1.1.1.0 in
    let g = h.1.1.1.1.1.1.1.0 in
    let b = g.2.2.0 in
    rw (
      is_found 1 end octets es i.0 f i.1,
      (imsi_is i.0.value).only a.0 i.2,
      is_found 87 end octets es t.0 f t.1,
      (fteid_is 0x8a t.0.value).only a.1.1.0 t.2,
      is_found 71 end octets es n.0 f n.1,
      (apn_is n.0.value).only a.1.1.1.0 n.2,
      is_found 72 end octets es r.0 f r.1,
      (rates_is r.0.value).only a.1.1.1.1.1.1.0 r.2,
      is_found 93 end octets es g.0 f g.1,
      is_found 73 g.0.stop g.0.value g.2.0 b.0 g.2.1 b.1,
      (ebi_is b.0.value).only a.1.1.1.1.1.1.1.0.0 b.2,
    ) refl

created_picks : (end : ℕ) (octets : List ℕ) (es : List Element) (a : CreatedFields) → Framed frame_in end octets es [] → HoldsAll frame_in (created true) es a → pick_created end octets ≡ Some (make_created a)
created_picks end octets es a f h =
    let t = h.1.0 in
    let i = h.1.1.0 in
    let g = h.1.1.1.0 in
    let b = g.2.2.0 in
    let u = g.2.2.1.1.0 in
    rw (
      is_found 87 end octets es t.0 f t.1,
      (fteid_is 0x8b t.0.value).only a.1.0 t.2,
      is_found 79 end octets es i.0 f i.1,
      (address_is i.0.value).only a.1.1.0 i.2,
      is_found 93 end octets es g.0 f g.1,
      is_found 73 g.0.stop g.0.value g.2.0 b.0 g.2.1 b.1,
      (ebi_is b.0.value).only a.1.1.1.0.0 b.2,
      is_found 87 g.0.stop g.0.value g.2.0 u.0 g.2.1 u.1,
      (fteid_is 0x81 u.0.value).only a.1.1.1.0.1.1.0 u.2,
    ) refl

modify_picks : (end : ℕ) (octets : List ℕ) (es : List Element) (a : ModifyFields) → Framed frame_in end octets es [] → HoldsAll frame_in modify es a → pick_modify end octets ≡ Some (make_modify a)
modify_picks end octets es a f h =
    let g = h.0 in
    let b = g.2.2.0 in
    let u = g.2.2.1.0 in
    rw (
      is_found 93 end octets es g.0 f g.1,
      is_found 73 g.0.stop g.0.value g.2.0 b.0 g.2.1 b.1,
      (ebi_is b.0.value).only a.0.0 b.2,
      is_found 87 g.0.stop g.0.value g.2.0 u.0 g.2.1 u.1,
      (fteid_is 0x80 u.0.value).only a.0.1.0 u.2,
    ) refl

modified_picks : (end : ℕ) (octets : List ℕ) (es : List Element) (a : ModifiedFields) → Framed frame_in end octets es [] → HoldsAll frame_in (modified true) es a → pick_modified end octets ≡ Some (make_modified a)
modified_picks end octets es a f h =
    let g = h.1.0 in
    let b = g.2.2.0 in
    rw (
      is_found 93 end octets es g.0 f g.1,
      is_found 73 g.0.stop g.0.value g.2.0 b.0 g.2.1 b.1,
      (ebi_is b.0.value).only a.1.0.0 b.2,
    ) refl

delete_picks : (end : ℕ) (octets : List ℕ) (es : List Element) (a : ℕ × Nothing) → Framed frame_in end octets es [] → HoldsAll frame_in delete es a → pick_delete end octets ≡ Some (make_delete a)
delete_picks end octets es a f h = rw (is_found 73 end octets es h.0.0 f h.0.1, (ebi_is h.0.0.value).only a.0 h.0.2) refl

-- ---- all kinds

pub shape_is : (kind : Kind) → IsShape (shape_of kind)
shape_is kinds.Create = record { table = λ all. create_is; needs = (refl, (refl, (refl, (refl, (refl, (refl, (refl, ((refl, (refl, (refl, tt))), tt)))))))); picks = create_picks }
shape_is kinds.Created = record { table = created_is; needs = (refl, (refl, (refl, ((refl, (refl, (refl, (refl, tt)))), tt)))); picks = created_picks }
shape_is kinds.Modify = record { table = λ all. modify_is; needs = ((refl, (refl, (refl, tt))), tt); picks = modify_picks }
shape_is kinds.Modified = record { table = modified_is; needs = (refl, ((refl, (refl, (refl, tt))), tt)); picks = modified_picks }
shape_is kinds.Delete = record { table = λ all. delete_is; needs = (refl, tt); picks = delete_picks }
shape_is kinds.Deleted = record { table = λ all. cause_alone_is; needs = (refl, tt); picks = λ end octets es a f h. refl }
shape_is kinds.Release = record { table = λ all. release_is; needs = tt; picks = λ end octets es a f h. refl }
shape_is kinds.Released = record { table = λ all. cause_alone_is; needs = (refl, tt); picks = λ end octets es a f h. refl }
