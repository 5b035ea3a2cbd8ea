-- Reading with slots is reading that keeps the IEs as they stand, with the slots that they fill.
use Rattle.std.proofs.Common.{◌≡◌, ℕ, zero, suc, ◌-◌, Bool, true, false, ◌||◌, cond, eqb, List, [], ◌∷◌, ◌++◌, length, map, replicate, Option, Some, None, is_some, option_map, Result, Ok, Err, refl, sym, ap, ◌∙◌, subst, inl, inr}
use Rattle.std.specs.List.{list_any}
use Rattle.std.proofs.lemmas.Bool.{cases_Bool, eqb-true, eq-eqb}
use Rattle.echo_base.specs.declared.reason.Reason.{Reason}
use Rattle.echo_base.specs.declared.reason.Reason.TheVariants as reasons
use Rattle.aper_fields.specs.Reading.{Input, Read, number_at, open_at, whole_at, contained_at}
use Rattle.aper_fields.specs.Format as formats
use Rattle.aper_fields.specs.Format.{either, just}
use Rattle.echo_base.proofs.Answers.{bind, bind_same, bind_assoc, ok_of}
use Rattle.protocol_ies.specs.declared.tables.IeRow.{IeRow}
use Rattle.s1ap_pdu.specs.declared.tables.MessageKind.{MessageKind}
use Rattle.s1ap_pdu.specs.declared.tables.MessageKind.TheVariants as kind
use Rattle.s1ap_pdu.specs.Messages.{rows_of}
use Rattle.aper_fields.specs.SequenceReading.{Reader, ◌>>=◌, done, zero_bit_at, criticality_at}
use Rattle.s1ap_pdu.proofs.Distinct.{ids_distinct}
use Rattle.aper_fields.specs.Many.{many_at, inside, inside_at, looked_up_at, answer}
use Rattle.aper_fields.proofs.Maps.{Maps, behind_maps, whole_maps, contained_maps}
use Rattle.s1ap_pdu.specs.Values.{FieldValue, value_type}
use Rattle.s1ap_pdu.specs.Grammar.{Ie, Named, Other, found, new_id, has_ie, ie_in}
use Rattle.protocol_ies.specs.Tables.{place_of}
use Rattle.protocol_ies.specs.Slots.{empty, is_filled, free_id, noted}
use Rattle.s1ap_pdu.specs.Reading.{content_at, ie_at, fields_at, header_at, ies_at, pdu_at}
use Rattle.s1ap_pdu.specs.Rows.{Slots}
use Rattle.aper_fields.specs.Asn1.{format, reading}
use Rattle.s1ap_pdu.proofs.Places.{position-here, position-later, slot_is, slot_set}
use Rattle.s1ap_pdu.proofs.Frame.{ie_kept_at, ies_kept_at, pdu_kept_at, ie_exactly}

-- ---- what stands under an id

abbrev pub or_else : Option FieldValue → Option FieldValue → Option FieldValue
or_else (Some v) o = Some v
or_else None o = o

pub found-append : (id : ℕ) (ies : List Ie) (ie : Ie) → found id (ies ++ ie ∷ []) ≡ or_else (found id ies) (found id (ie ∷ []))
unfolding found
found-append id [] ie = refl
found-append id (Named n v ∷ ies) ie =
    elim (cases_Bool (eqb n id)) [
      | inl t ↦ rw t refl
      | inr f ↦ rw f (found-append id ies ie)
    ]
found-append id (Other n ∷ ies) ie = found-append id ies ie

-- each IE with a value is one of the table
abbrev pub IsOf : MessageKind → List Ie → Type 0
IsOf kind [] = Unit {0}
IsOf kind (Named id v ∷ ies) = (has_ie kind id ≡ true) × IsOf kind ies
IsOf kind (Other id ∷ ies) = IsOf kind ies

absent : (kind : MessageKind) (ies : List Ie) (id : ℕ) → IsOf kind ies → has_ie kind id ≡ false → found id ies ≡ None
unfolding found
absent kind [] id of lacks = refl
absent kind (Named n v ∷ ies) id of lacks =
    elim (cases_Bool (eqb n id)) [
      | inl t ↦ absurd (let h : true ≡ false = sym (ap (has_ie kind) (sym (eqb-true n id t)) ∙ of.0) ∙ lacks in cc)
      | inr f ↦ rw f (absent kind ies id of.1 lacks)
    ]
absent kind (Other n ∷ ies) id of lacks = absent kind ies id of lacks

some_later : (o : Option ℕ) → is_some (option_map suc o) ≡ is_some o
some_later None = refl
some_later (Some k) = refl

-- a table has an id where it has a place for it
has_place : (rows : List IeRow) (id : ℕ) → list_any (λ row. eqb row.id id) rows ≡ is_some (place_of rows id)
has_place [] id = refl
has_place (row ∷ rows) id =
    elim (cases_Bool (eqb row.id id)) [
      | inl t ↦ ap (λ b. b || list_any (λ (r : IeRow). eqb r.id id) rows) t ∙ sym (ap is_some (position-here (λ (r : IeRow). eqb r.id id) row rows t))
      | inr f ↦ ap (λ b. b || list_any (λ (r : IeRow). eqb r.id id) rows) f ∙ has_place rows id ∙ sym (some_later (place_of rows id)) ∙ sym (ap is_some (position-later (λ (r : IeRow). eqb r.id id) row rows f))
    ]

-- ---- slots

-- the slots that IEs fill
abbrev pub slots_of : MessageKind → List Ie → Slots
slots_of kind ies = map (λ row. found row.id ies) (rows_of kind) ++ replicate (6 - length (rows_of kind)) None

abbrev entry : List IeRow → Ie → Option (ℕ × FieldValue)
entry rows (Named id v) = option_map (λ k. (k, v)) (place_of rows id)
entry rows (Other id) = None

filled_is : (kind : MessageKind) (ies : List Ie) (id : ℕ) (place : Option ℕ) → IsOf kind ies → place_of (rows_of kind) id ≡ place → is_filled place (slots_of kind ies) ≡ is_some (found id ies)
filled_is kind ies id None of e = sym (ap is_some (absent kind ies id of (has_place (rows_of kind) id ∙ ap is_some e)))
filled_is kind ies id (Some k) of e = ap is_some (slot_is (λ i. found i ies) (rows_of kind) (replicate (6 - length (rows_of kind)) None) id k e)

abbrev tried : ℕ → Bool → Result ℕ Reason
tried id b = cond b (Err (reasons.RepeatedIe id)) (Ok id)

free_is : (kind : MessageKind) (ies : List Ie) (id : ℕ) → IsOf kind ies → free_id (rows_of kind) (slots_of kind ies) id ≡ new_id ies id
free_is kind ies id of = ap (tried id) (filled_is kind ies id (place_of (rows_of kind) id) of refl)

-- ---- what stands

-- an IE that may stand behind others: one of the table whose id is new
abbrev pub IsNew : MessageKind → List Ie → Ie → Type 0
IsNew kind before (Named id v) = (has_ie kind id ≡ true) × (found id before ≡ None)
IsNew kind before (Other id) = Unit {0}

no_value : (o : Option FieldValue) (id wanted : ℕ) → cond (is_some o) (Err (reasons.RepeatedIe wanted)) (Ok wanted) ≡ Ok id → (o ≡ None) × (wanted ≡ id)
no_value None id wanted e = (refl, cc)
no_value (Some v) id wanted e = absurd cc

-- the content of an IE: with a value where the table has the id
content_new : (kind : MessageKind) (before : List Ie) (id : ℕ) (content : Input) (b : Bool) (at : ℕ) (ie : Ie) (run : List Bool) → has_ie kind id ≡ b → found id before ≡ None → (either b (formats.◌>>=◌ (inside content (format (value_type id))) (λ v. just (Named id v))) (just (Other id))).Spells at ie run → IsNew kind before ie
content_new kind before id content true at ie run has new s = subst (IsNew kind before) (sym s.5.0) (has, new)
content_new kind before id content false at ie run has new s = subst (IsNew kind before) (sym s.0) tt

pub spelled_new : (kind : MessageKind) (before : List Ie) (at : ℕ) (ie : Ie) (run : List Bool) → (ie_in kind before).Spells at ie run → IsNew kind before ie
unfolding ie_in
spelled_new kind before at ie run s =
    let look = no_value (found s.4.0 before) s.0 s.4.0 s.4.1 in
    let new : found s.0 before ≡ None = ap (λ i. found i before) (sym look.1) ∙ look.0 in
    content_new kind before s.0 s.5.5.0 (has_ie kind s.0) 0 ie _ refl new s.5.5.5

-- ---- one IE

looked_same : {B : Type 0} (look other : ℕ → Result B Reason) (f : Reader ℕ) → ((n : ℕ) → other n ≡ look n) → (i : Input) → looked_up_at other f i ≡ looked_up_at look f i
looked_same look other f same i = bind_same (f i) (λ x. answer (other x.0) i x.1) (λ x. answer (look x.0) i x.1) (λ x. ap (λ (r : Result _ Reason). answer r i x.1) (same x.0))

content_maps : (kind : MessageKind) (id : ℕ) (content : Input) (place : Option ℕ) → place_of (rows_of kind) id ≡ place → Maps (entry (rows_of kind)) (λ i. cond (has_ie kind id) ((inside_at content (reading (value_type id)) >>= λ v. done (Named id v)) i) (done (Other id) i)) (content_at place id content)
content_maps kind id content None e i =
    let b : has_ie kind id ≡ false = has_place (rows_of kind) id ∙ ap is_some e in
    rw b refl
content_maps kind id content (Some k) e i =
    let b : has_ie kind id ≡ true = has_place (rows_of kind) id ∙ ap is_some e in
    rw b (bind_same (inside_at content (reading (value_type id)) i) (λ x. Ok (Some (k, x.0), x.1)) (λ x. Ok (entry (rows_of kind) (Named id x.0), x.1)) (λ x. ap (λ (o : Option ℕ). ok_of (option_map (λ p. (p, x.0)) o, x.1)) (sym e)) ∙ sym (bind_assoc (inside_at content (reading (value_type id)) i) (λ x. Ok (Named id x.0, x.1)) (λ y. Ok (entry (rows_of kind) y.0, y.1))))

ie_maps : (kind : MessageKind) (before : List Ie) → IsOf kind before → Maps (entry (rows_of kind)) (ie_kept_at kind before) (ie_at (rows_of kind) (slots_of kind before))
unfolding ie_at ie_kept_at
ie_maps kind before of i =
    let rows = rows_of kind in
    let tail : ℕ → Reader (Option (ℕ × FieldValue)) = λ id. criticality_at >>= λ criticality. open_at >>= λ content. content_at (place_of rows id) id content in
    ap (λ r. bind r (λ x. tail x.0 x.1)) (looked_same (new_id before) (free_id rows (slots_of kind before)) (number_at 0 65535) (λ id. free_is kind before id of) i)
    ∙ behind_maps (entry rows) (looked_up_at (new_id before) (number_at 0 65535)) _ tail
    (λ id. behind_maps (entry rows) criticality_at _ _ (λ criticality. behind_maps (entry rows) open_at _ _ (λ content. content_maps kind id content (place_of rows id) refl))) i

-- ---- so many IEs

-- one of the table, or without a value
abbrev HasRow : MessageKind → Ie → Type 0
HasRow kind (Named id v) = has_ie kind id ≡ true
HasRow kind (Other id) = Unit {0}

has_row : (kind : MessageKind) (before : List Ie) (ie : Ie) → IsNew kind before ie → HasRow kind ie
has_row kind before (Named id v) new = new.0
has_row kind before (Other id) new = tt

-- behind others, with one more
more_of : (kind : MessageKind) (before : List Ie) (ie : Ie) → IsOf kind before → HasRow kind ie → IsOf kind (before ++ ie ∷ [])
more_of kind [] (Named id v) of has = (has, tt)
more_of kind [] (Other id) of has = tt
more_of kind (Named n v ∷ before) ie of has = (of.0, more_of kind before ie of.1 has)
more_of kind (Other n ∷ before) ie of has = more_of kind before ie of has

or_none : (o : Option FieldValue) → or_else o None ≡ o
or_none None = refl
or_none (Some v) = refl

same_slots : (kind : MessageKind) (f g : ℕ → Option FieldValue) → ((id : ℕ) → f id ≡ g id) → map (λ row. f row.id) (rows_of kind) ++ replicate (6 - length (rows_of kind)) None ≡ map (λ row. g row.id) (rows_of kind) ++ replicate (6 - length (rows_of kind)) None
same_slots kind f g same =
    let e : f ≡ g = λ i id. same id i in
    ap (λ (h : ℕ → Option FieldValue). map (λ row. h row.id) (rows_of kind) ++ replicate (6 - length (rows_of kind)) None) e

some_place : (o : Option ℕ) → is_some o ≡ true → (k : ℕ) × (o ≡ Some k)
some_place None e = absurd cc
some_place (Some k) e = (k, refl)

-- a value that was noted is in its slot
noted_is : (kind : MessageKind) (before : List Ie) (ie : Ie) → IsNew kind before ie → noted (slots_of kind before) (entry (rows_of kind) ie) ≡ slots_of kind (before ++ ie ∷ [])
unfolding found
noted_is kind before (Named id v) new =
    let place = some_place (place_of (rows_of kind) id) (sym (has_place (rows_of kind) id) ∙ new.0) in
    let here : found id (before ++ Named id v ∷ []) ≡ Some v = found-append id before (Named id v) ∙ rw (new.1, eq-eqb id id refl) refl in
    let there : (other : ℕ) → eqb id other ≡ false → found other (before ++ Named id v ∷ []) ≡ found other before = λ other differ. found-append other before (Named id v) ∙ rw differ (or_none (found other before)) in
    ap (λ (o : Option ℕ). noted (slots_of kind before) (option_map (λ k. (k, v)) o)) place.1
    ∙ slot_set (λ n. found n before) (λ n. found n (before ++ Named id v ∷ [])) (Some v) (rows_of kind) (replicate (6 - length (rows_of kind)) None) id place.0 (ids_distinct kind) here there place.1
noted_is kind before (Other id) new = same_slots kind (λ n. found n before) (λ n. found n (before ++ Other id ∷ [])) (λ n. sym (found-append n before (Other id) ∙ or_none (found n before)))

kept_new : (kind : MessageKind) (before : List Ie) (i j : Input) (ie : Ie) → ie_kept_at kind before i ≡ Ok (ie, j) → IsNew kind before ie
kept_new kind before i j ie e = let s = (ie_exactly kind before).spells.found i j ie e in spelled_new kind before i.offset ie s.0 s.1

next_maps : (kind : MessageKind) (n : ℕ) (before : List Ie) → IsOf kind before → ((ie : Ie) → IsOf kind (before ++ ie ∷ []) → Maps (slots_of kind) (many_at (ie_kept_at kind) n (before ++ ie ∷ [])) (fields_at (rows_of kind) n (slots_of kind (before ++ ie ∷ [])))) → (r : Read Ie) → ((ie : Ie) (j : Input) → r ≡ Ok (ie, j) → IsNew kind before ie) → bind r (λ x. fields_at (rows_of kind) n (noted (slots_of kind before) (entry (rows_of kind) x.0)) x.1) ≡ bind r (λ x. bind (many_at (ie_kept_at kind) n (before ++ x.0 ∷ []) x.1) (λ y. Ok (slots_of kind y.0, y.1)))
next_maps kind n before of rest (Err e) new = refl
next_maps kind n before of rest (Ok x) new =
    let one = new x.0 x.1 refl in
    ap (λ (s : Slots). fields_at (rows_of kind) n s x.1) (noted_is kind before x.0 one) ∙ rest x.0 (more_of kind before x.0 of (has_row kind before x.0 one)) x.1

fields_maps : (kind : MessageKind) (n : ℕ) (before : List Ie) → IsOf kind before → Maps (slots_of kind) (many_at (ie_kept_at kind) n before) (fields_at (rows_of kind) n (slots_of kind before))
unfolding fields_at many_at
fields_maps kind zero before of i = refl
fields_maps kind (suc n) before of i =
    ap (λ r. bind r (λ x. fields_at (rows_of kind) n (noted (slots_of kind before) x.0) x.1)) (ie_maps kind before of i)
    ∙ bind_assoc (ie_kept_at kind before i) (λ x. Ok (entry (rows_of kind) x.0, x.1)) (λ x. fields_at (rows_of kind) n (noted (slots_of kind before) x.0) x.1)
    ∙ next_maps kind n before of (λ ie of. fields_maps kind n (before ++ ie ∷ []) of) (ie_kept_at kind before i) (λ ie j e. kept_new kind before i j ie e)
    ∙ sym (bind_assoc (ie_kept_at kind before i) (λ x. many_at (ie_kept_at kind) n (before ++ x.0 ∷ []) x.1) (λ x. Ok (slots_of kind x.0, x.1)))

-- ---- the message

no_slots : (kind : MessageKind) → slots_of kind [] ≡ empty
unfolding found
no_slots kind.InitialUeMessage = refl
no_slots _ = refl

ies_maps : (kind : MessageKind) → Maps (slots_of kind) (ies_kept_at kind) (ies_at kind)
unfolding ies_at ies_kept_at
ies_maps kind =
    behind_maps (slots_of kind) (zero_bit_at reasons.SequenceExtension) _ _
    (λ extension. behind_maps (slots_of kind) (number_at 0 65535) _ _
    (λ count i. ap (λ (s : Slots). fields_at (rows_of kind) count s i) (sym (no_slots kind)) ∙ fields_maps kind count [] tt i))

-- a kind of message, and the slots that the IEs fill
abbrev pub with_slots : MessageKind × List Ie → MessageKind × Slots
with_slots x = (x.0, slots_of x.0 x.1)

pdu_maps : Maps with_slots pdu_kept_at pdu_at
unfolding pdu_at pdu_kept_at
pdu_maps =
    behind_maps with_slots header_at _ _
    (λ kind i. ap (λ r. bind r (λ x. Ok ((kind, x.0), x.1))) (contained_maps (slots_of kind) (ies_kept_at kind) (ies_at kind) (ies_maps kind) i)
    ∙ bind_assoc (contained_at (ies_kept_at kind) i) (λ x. Ok (slots_of kind x.0, x.1)) (λ x. Ok ((kind, x.0), x.1))
    ∙ sym (bind_assoc (contained_at (ies_kept_at kind) i) (λ x. Ok ((kind, x.0), x.1)) (λ x. Ok (with_slots x.0, x.1))))

-- a whole message, read with slots
pub whole_is : (c : Input) → whole_at pdu_at c ≡ bind (whole_at pdu_kept_at c) (λ x. Ok (with_slots x))
whole_is = whole_maps with_slots pdu_kept_at pdu_at pdu_maps
