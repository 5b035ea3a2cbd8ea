-- Each kind of message is one: its table is a table, all of it is needed, and what is picked out of octets is what their values make.
use Rattle.std.proofs.Common.{◌≡◌, ◌∙◌, ℕ, List, [], length, Some, refl, arith}
use Rattle.tlv_elements.specs.Element.{Element}
use Rattle.tlv_elements.specs.Reading.{row_of}
use Rattle.tlv_elements.specs.Grammar.{Framed, first, HoldsAll}
use Rattle.tlv_elements.proofs.Whole.{IsTable}
use Rattle.tlv_elements.proofs.Fields.{NeedsAll, find_first}
use Rattle.dia_avps.specs.Frame.{frame_in, dia, tgpp}
use Rattle.dia_avps.specs.Groups.{vector, authentication_info, ambr, subscription_data}
use Rattle.dia_avps.specs.Finding.{found}
use Rattle.dia_avps.proofs.Frames.{dia_is}
use Rattle.dia_avps.proofs.ValueLaws.{sized_is, session_is, unsigned_is, plmn_is, imsi_is}
use Rattle.dia_wire.specs.declared.kind.Kind.{Kind}
use Rattle.dia_wire.specs.declared.kind.Kind.TheVariants as kinds
use Rattle.dia_wire.specs.Commands.{code_of}
use Rattle.dia_wire.specs.Tables.{AskFields, PlainFields, VectorsFields, LocatedFields, ask_vectors, ask_location, ask_purge, vectors, located, result_alone}
use Rattle.dia_wire.specs.Shapes.{Shape, shape_of, make_ask_vectors, make_ask_location, make_ask_purge, make_vectors, make_located, make_purged, make_rejected, pick_ask_vectors, pick_ask_location, pick_ask_purge, pick_vectors, pick_located, pick_purged, pick_rejected}

pub record IsShape (s : Shape) : Type 0 where
  pub table : IsTable frame_in dia s.rows
  pub needs : NeedsAll s.rows
  pub picks : (end : ℕ) (octets : List ℕ) (es : List Element) (a : s.Fields) → Framed frame_in end octets es [] → HoldsAll frame_in s.rows es a → s.pick end octets ≡ Some (s.make a)

-- ---- tables: each value is read as it is meant, and no two rows have one code and vendor, nor a row that of what stands aside before it

vector_is : IsTable frame_in dia vector
unfolding row_of
vector_is = ((sized_is 16 16, refl, (sized_is 4 16, refl, (sized_is 16 16, refl, (sized_is 32 32, refl, tt)))), omega arith, ((λ before e r. r.1), ((λ before e r. r.1), ((λ before e r. r.1), ((λ before e r. r.1), tt)))))

authentication_info_is : IsTable frame_in dia authentication_info
unfolding row_of
authentication_info_is = ((vector_is, refl, tt), omega arith, ((λ before e r. r.1), tt))

ambr_is : IsTable frame_in dia ambr
unfolding row_of
ambr_is = ((unsigned_is, refl, (unsigned_is, refl, tt)), omega arith, ((λ before e r. r.1), ((λ before e r. r.1), tt)))

subscription_data_is : IsTable frame_in dia subscription_data
unfolding row_of
subscription_data_is = ((ambr_is, refl, tt), omega arith, ((λ before e r. r.1), tt))

ask_vectors_is : IsTable frame_in dia ask_vectors
unfolding row_of
ask_vectors_is = ((session_is, refl, (refl, (refl, (refl, (refl, (imsi_is, refl, (plmn_is, refl, (refl, tt)))))))), omega arith, ((λ before e r. r.1), ((λ before e r. r.1), ((λ before e r. r.1), tt))))

ask_location_is : IsTable frame_in dia ask_location
unfolding row_of
ask_location_is = ((session_is, refl, (refl, (refl, (refl, (refl, (imsi_is, refl, (plmn_is, refl, (refl, tt)))))))), omega arith, ((λ before e r. r.1), ((λ before e r. r.1), ((λ before e r. r.1), tt))))

ask_purge_is : IsTable frame_in dia ask_purge
unfolding row_of
ask_purge_is = ((session_is, refl, (refl, (refl, (refl, (refl, (imsi_is, refl, tt)))))), omega arith, ((λ before e r. r.1), ((λ before e r. r.1), tt)))

vectors_is : IsTable frame_in dia vectors
unfolding row_of
vectors_is = ((session_is, refl, (unsigned_is, refl, (refl, (refl, (refl, (authentication_info_is, refl, tt)))))), omega arith, ((λ before e r. r.1), ((λ before e r. r.1), ((λ before e r. r.1), tt))))

located_is : IsTable frame_in dia located
unfolding row_of
located_is = ((session_is, refl, (unsigned_is, refl, (refl, (refl, (refl, (subscription_data_is, refl, tt)))))), omega arith, ((λ before e r. r.1), ((λ before e r. r.1), ((λ before e r. r.1), tt))))

pub result_alone_is : IsTable frame_in dia result_alone
unfolding row_of
result_alone_is = ((session_is, refl, (unsigned_is, refl, (refl, (refl, (refl, tt))))), omega arith, ((λ before e r. r.1), ((λ before e r. r.1), tt)))

-- ---- what is picked

pub is_found : (code mark end : ℕ) (octets : List ℕ) (es : List Element) (e : Element) → Framed frame_in end octets es [] → first code mark es ≡ Some e → found code mark end octets ≡ Some e
is_found code mark end octets es e framed h = find_first frame_in dia dia_is end code mark (length octets) es octets (omega arith) framed ∙ h

ask_vectors_picks : (end : ℕ) (octets : List ℕ) (es : List Element) (a : AskFields) → Framed frame_in end octets es [] → HoldsAll frame_in ask_vectors es a → pick_ask_vectors end octets ≡ Some (make_ask_vectors a)
ask_vectors_picks end octets es a f h =
    let s = h.0 in
    let i = h.1.0 in
    let p = h.1.1.0 in
    rw (
      is_found 263 0 end octets es s.0 f s.1,
      (session_is s.0.value).only a.0 s.2,
      is_found 1 0 end octets es i.0 f i.1,
      (imsi_is i.0.value).only a.1.0 i.2,
      is_found 1407 tgpp end octets es p.0 f p.1,
      (plmn_is p.0.value).only a.1.1.0 p.2,
    ) refl

ask_location_picks : (end : ℕ) (octets : List ℕ) (es : List Element) (a : AskFields) → Framed frame_in end octets es [] → HoldsAll frame_in ask_location es a → pick_ask_location end octets ≡ Some (make_ask_location a)
ask_location_picks end octets es a f h =
    let s = h.0 in
    let i = h.1.0 in
    let p = h.1.1.0 in
    rw (
      is_found 263 0 end octets es s.0 f s.1,
      (session_is s.0.value).only a.0 s.2,
      is_found 1 0 end octets es i.0 f i.1,
      (imsi_is i.0.value).only a.1.0 i.2,
      is_found 1407 tgpp end octets es p.0 f p.1,
      (plmn_is p.0.value).only a.1.1.0 p.2,
    ) refl

ask_purge_picks : (end : ℕ) (octets : List ℕ) (es : List Element) (a : PlainFields) → Framed frame_in end octets es [] → HoldsAll frame_in ask_purge es a → pick_ask_purge end octets ≡ Some (make_ask_purge a)
ask_purge_picks end octets es a f h =
    let s = h.0 in
    let i = h.1.0 in
    rw (
      is_found 263 0 end octets es s.0 f s.1,
      (session_is s.0.value).only a.0 s.2,
      is_found 1 0 end octets es i.0 f i.1,
      (imsi_is i.0.value).only a.1.0 i.2,
    ) refl

vectors_picks : (end : ℕ) (octets : List ℕ) (es : List Element) (a : VectorsFields) → Framed frame_in end octets es [] → HoldsAll frame_in vectors es a → pick_vectors end octets ≡ Some (make_vectors a)
vectors_picks end octets es a f h =
    let s = h.0 in
    let g = h.1.1.0 in
    let v = g.2.2.0 in
    let m = v.2.2 in
    let fields = a.1.1.0.0 in
    rw (
      is_found 263 0 end octets es s.0 f s.1,
      (session_is s.0.value).only a.0 s.2,
      is_found 1413 tgpp end octets es g.0 f g.1,
      is_found 1414 tgpp g.0.stop g.0.value g.2.0 v.0 g.2.1 v.1,
      is_found 1447 tgpp v.0.stop v.0.value v.2.0 m.0.0 v.2.1 m.0.1,
      (sized_is 16 16 m.0.0.value).only fields.0 m.0.2,
      is_found 1448 tgpp v.0.stop v.0.value v.2.0 m.1.0.0 v.2.1 m.1.0.1,
      (sized_is 4 16 m.1.0.0.value).only fields.1.0 m.1.0.2,
      is_found 1449 tgpp v.0.stop v.0.value v.2.0 m.1.1.0.0 v.2.1 m.1.1.0.1,
      (sized_is 16 16 m.1.1.0.0.value).only fields.1.1.0 m.1.1.0.2,
      is_found 1450 tgpp v.0.stop v.0.value v.2.0 m.1.1.1.0.0 v.2.1 m.1.1.1.0.1,
      (sized_is 32 32 m.1.1.1.0.0.value).only fields.1.1.1.0 m.1.1.1.0.2,
    ) refl

located_picks : (end : ℕ) (octets : List ℕ) (es : List Element) (a : LocatedFields) → Framed frame_in end octets es [] → HoldsAll frame_in located es a → pick_located end octets ≡ Some (make_located a)
located_picks end octets es a f h =
    let s = h.0 in
    let g = h.1.1.0 in
    let r = g.2.2.0 in
    let m = r.2.2 in
    let rates = a.1.1.0.0 in
    rw (
      is_found 263 0 end octets es s.0 f s.1,
      (session_is s.0.value).only a.0 s.2,
      is_found 1400 tgpp end octets es g.0 f g.1,
      is_found 1435 tgpp g.0.stop g.0.value g.2.0 r.0 g.2.1 r.1,
      is_found 516 tgpp r.0.stop r.0.value r.2.0 m.0.0 r.2.1 m.0.1,
      (unsigned_is m.0.0.value).only rates.0 m.0.2,
      is_found 515 tgpp r.0.stop r.0.value r.2.0 m.1.0.0 r.2.1 m.1.0.1,
      (unsigned_is m.1.0.0.value).only rates.1.0 m.1.0.2,
    ) refl

purged_picks : (end : ℕ) (octets : List ℕ) (es : List Element) (a : PlainFields) → Framed frame_in end octets es [] → HoldsAll frame_in result_alone es a → pick_purged end octets ≡ Some (make_purged a)
purged_picks end octets es a f h =
    let s = h.0 in
    rw (
      is_found 263 0 end octets es s.0 f s.1,
      (session_is s.0.value).only a.0 s.2,
    ) refl

rejected_picks : (code end : ℕ) (octets : List ℕ) (es : List Element) (a : PlainFields) → Framed frame_in end octets es [] → HoldsAll frame_in result_alone es a → pick_rejected code end octets ≡ Some (make_rejected code a)
rejected_picks code end octets es a f h =
    let s = h.0 in
    let r = h.1.0 in
    rw (
      is_found 263 0 end octets es s.0 f s.1,
      (session_is s.0.value).only a.0 s.2,
      is_found 268 0 end octets es r.0 f r.1,
      (unsigned_is r.0.value).only a.1.0 r.2,
    ) refl

-- ---- all kinds

pub shape_is : (kind : Kind) → IsShape (shape_of kind)
shape_is kinds.AskVectors = record { table = ask_vectors_is; needs = (refl, (refl, (refl, tt))); picks = ask_vectors_picks }
shape_is kinds.AskLocation = record { table = ask_location_is; needs = (refl, (refl, (refl, tt))); picks = ask_location_picks }
shape_is kinds.AskPurge = record { table = ask_purge_is; needs = (refl, (refl, tt)); picks = ask_purge_picks }
shape_is kinds.Vectors = record { table = vectors_is; needs = (refl, (refl, ((refl, ((refl, (refl, (refl, (refl, (refl, tt))))), tt)), tt))); picks = vectors_picks }
shape_is kinds.Located = record { table = located_is; needs = (refl, (refl, ((refl, ((refl, (refl, (refl, tt))), tt)), tt))); picks = located_picks }
shape_is kinds.Purged = record { table = result_alone_is; needs = (refl, (refl, tt)); picks = purged_picks }
shape_is (kinds.Rejected command) = record { table = result_alone_is; needs = (refl, (refl, tt)); picks = rejected_picks (code_of command) }
