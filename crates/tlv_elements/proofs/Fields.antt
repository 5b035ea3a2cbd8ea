-- What the elements hold is what a reader finds in the octets.
use Rattle.std.proofs.Common.{◌≡◌, ℕ, zero, suc, ◌≤◌, ◌&&◌, ◌||◌, not, eqb, Bool, true, false, cond, List, [], ◌∷◌, ◌++◌, length, Option, Some, None, Result, Ok, Err, refl, sym, ap, ◌∙◌, subst, inl, inr, arith}
use Rattle.std.proofs.lemmas.Bool.{eqb-true}
use Rattle.std.proofs.lemmas.Option.{same_Some}
use Rattle.echo_base.specs.declared.refusal.Refusal.{Refusal}
use Rattle.echo_base.specs.Field.{Field}
use Rattle.echo_base.proofs.Answers.{bind_ok, bind_err, ok_of, ok_is, ok_err}
use Rattle.tlv_elements.specs.Element.{Element, Protocol, Rule}
use Rattle.tlv_elements.specs.Reading.{is_of, sought, find_within, whole_at, or_wrong, table_at}
use Rattle.tlv_elements.specs.Grammar.{Law, Framed, is_there, law_of, RightBy, AreRight, lacks, SpellsWhole, Row, value, group, Rows, last, ◌▸◌, ◌▹◌, law, laws, first, Holds, HoldsAll, and_then, field_at, fields_at, rules, SpellsTable, RefusesWhole}
use Rattle.tlv_elements.proofs.Exact.{IsFrame}
use Rattle.tlv_elements.proofs.Whole.{AreAmong, RowIs, RowsAre, IsTable, rows_are_laws, whole_found, whole_only, whole_wrong, whole_refused}

-- ---- the first element

find_on : (p : Protocol) (end tag mark n : ℕ) (left : List ℕ) (e : Element) (u : List ℕ) → p.frame_at end left ≡ Ok (e, u) → find_within p end tag mark (suc n) left ≡ cond (eqb tag e.tag && eqb mark e.mark) (Some e) (find_within p end tag mark n u)
unfolding find_within
find_on p end tag mark n left e u h = rw h refl

find_empty : (p : Protocol) (end tag mark n : ℕ) → ((e : Element) (u : List ℕ) → p.frame_at end [] ≡ Ok (e, u) → ⊥) → find_within p end tag mark n [] ≡ None
unfolding find_within
find_empty p end tag mark zero none = refl
find_empty p end tag mark (suc n) none = by (p.frame_at end []) refl
  where
    by : (r : Result (Element × List ℕ) Refusal) → p.frame_at end [] ≡ r → sought tag mark (find_within p end tag mark n) r ≡ None
    by (Ok x) h = absurd (none x.0 x.1 h)
    by (Err x) h = refl

pub find_first : (F : ℕ → Field Refusal Element) (p : Protocol) → IsFrame F p → (end tag mark n : ℕ) (es : List Element) (left : List ℕ) → length left ≤ n → Framed F end left es [] → find_within p end tag mark n left ≡ first tag mark es
find_first F p is end tag mark n [] left few framed = rw framed (find_empty p end tag mark n (λ e u h. (let less = is.shorter end [] e u h in omega arith)))
find_first F p is end tag mark zero (e ∷ es) left few framed =
    let f = (is.exact end).only left e framed.0 framed.1 in
    let less = is.shorter end left e framed.0 f in
    absurd (omega arith)
find_first F p is end tag mark (suc n) (e ∷ es) left few framed =
    let f = (is.exact end).only left e framed.0 framed.1 in
    let less = is.shorter end left e framed.0 f in
    find_on p end tag mark n left e framed.0 f ∙ ap (λ o. cond (eqb tag e.tag && eqb mark e.mark) (Some e) o) (find_first F p is end tag mark n es framed.0 (omega arith) framed.2)

-- ---- what they hold is found

mutual
  pub field_only : {A : Type 0} (F : ℕ → Field Refusal Element) (p : Protocol) → IsFrame F p → (row : Row A) → RowIs F p row → (end : ℕ) (octets : List ℕ) (es : List Element) → Framed F end octets es [] → (a : A) → Holds F row es a → field_at p row end octets ≡ Some a
  field_only F p is (value needed tag mark form) d end octets es framed a h = ap (λ o. and_then o (λ e. form.decode e.value)) (find_first F p is end tag mark (length octets) es octets (omega arith) framed ∙ h.1) ∙ (d h.0.value).only a h.2
  field_only F p is (group needed tag mark rows) d end octets es framed a h = ap (λ o. and_then o (λ e. fields_at p rows e.stop e.value)) (find_first F p is end tag mark (length octets) es octets (omega arith) framed ∙ h.1) ∙ fields_only F p is rows d.0 h.0.stop h.0.value h.2.0 h.2.1 a h.2.2

  pub fields_only : {A : Type 0} (F : ℕ → Field Refusal Element) (p : Protocol) → IsFrame F p → (rows : Rows A) → RowsAre F p rows → (end : ℕ) (octets : List ℕ) (es : List Element) → Framed F end octets es [] → (a : A) → HoldsAll F rows es a → fields_at p rows end octets ≡ Some a
  fields_only F p is last d end octets es framed a h = refl
  fields_only F p is (row ▸ rest) d end octets es framed a h = rw (field_only F p is row d.0 end octets es framed a.0 h.0, fields_only F p is rest d.2 end octets es framed a.1 h.1) refl
  fields_only F p is (aside ▹ rest) d end octets es framed a h = fields_only F p is rest d.1 end octets es framed a h

-- ---- where nothing is missing, they hold something

there_first : (rule : Rule) (es : List Element) → is_there rule es ≡ true → (e : Element) × (first rule.tag rule.mark es ≡ Some e)
there_first rule [] h = absurd cc
there_first rule (x ∷ es) h = by (is_of rule x.tag x.mark) refl h (there_first rule es)
  where
    by : (b : Bool) → is_of rule x.tag x.mark ≡ b → (b || is_there rule es) ≡ true → (is_there rule es ≡ true → (e : Element) × (first rule.tag rule.mark es ≡ Some e)) → (e : Element) × (first rule.tag rule.mark (x ∷ es) ≡ Some e)
    by true is h later = (x, rw is refl)
    by false is h later = (let l = later h in (l.0, rw is l.1))

-- the first under a tag and a mark is right under them
first_right : (ls : List Law) (tag mark : ℕ) (before es : List Element) (e : Element) → AreRight ls before es → first tag mark es ≡ Some e → (front : List Element) × RightBy (law_of ls tag mark) front e
first_right ls tag mark before [] e right h = absurd cc
first_right ls tag mark before (x ∷ es) e right h = by (eqb tag x.tag) (eqb mark x.mark) refl refl h (first_right ls tag mark (before ++ x ∷ []) es e right.1)
  where
    by : (a b : Bool) → eqb tag x.tag ≡ a → eqb mark x.mark ≡ b → cond (a && b) (Some x) (first tag mark es) ≡ Some e → (first tag mark es ≡ Some e → (front : List Element) × RightBy (law_of ls tag mark) front e) → (front : List Element) × RightBy (law_of ls tag mark) front e
    by true true a b h later =
        let t : tag ≡ x.tag = eqb-true _ _ a in
        let m : mark ≡ x.mark = eqb-true _ _ b in
        (before, rw (t, m) (subst (λ y. RightBy (law_of ls x.tag x.mark) before y) (same_Some x e h) right.0))
    by true false a b h later = later h
    by false b a c h later = later h

lacks_none : (l : Law) (ls : List Law) (es : List Element) → lacks (l ∷ ls) es ≡ None → l.rule.needed ≡ true → (is_there l.rule es ≡ true) × (lacks ls es ≡ None)
lacks_none l ls es h needed = by (is_there l.rule es) refl (sym (ap (λ b. cond (b && not (is_there l.rule es)) (Some l.rule.tag) (lacks ls es)) needed) ∙ h)
  where
    by : (b : Bool) → is_there l.rule es ≡ b → cond (true && not b) (Some l.rule.tag) (lacks ls es) ≡ None → (is_there l.rule es ≡ true) × (lacks ls es ≡ None)
    by true is h = (is, h)
    by false is h = absurd cc

-- each row is needed, also those of groups
abbrev mutual
  pub NeedsRow : {A : Type 0} → Row A → Type 0
  NeedsRow (value needed tag mark form) = needed ≡ true
  NeedsRow (group needed tag mark rows) = (needed ≡ true) × NeedsAll rows

  pub NeedsAll : {A : Type 0} → Rows A → Type 0
  NeedsAll last = Unit {0}
  NeedsAll (row ▸ rest) = NeedsRow row × NeedsAll rest
  NeedsAll (aside ▹ rest) = NeedsAll rest

is_needed : {A : Type 0} (F : ℕ → Field Refusal Element) (p : Protocol) (row : Row A) → NeedsRow row → (law F p row).rule.needed ≡ true
is_needed F p (value needed tag mark form) n = n
is_needed F p (group needed tag mark rows) n = n.0

mutual
  pub row_holds : {A : Type 0} (F : ℕ → Field Refusal Element) (p : Protocol) (row : Row A) → RowIs F p row → NeedsRow row → (es : List Element) (e : Element) → first (law F p row).rule.tag (law F p row).rule.mark es ≡ Some e → (law F p row).Is e → (a : A) × Holds F row es a
  row_holds F p (value needed tag mark form) d n es e h is = (is.0, (e, h, is.1))
  row_holds F p (group needed tag mark rows) d n es e h is =
      let a = rows_hold F p (laws F p rows) rows d.0 d.2 n.1 is.1.0 is.1.1.0.1 is.1.1.2 in
      (a.0, (e, h, (is.1.0, is.1.1.0.0, a.1)))

  pub rows_hold : {A : Type 0} (F : ℕ → Field Refusal Element) (p : Protocol) (ls : List Law) (rows : Rows A) → RowsAre F p rows → AreAmong F p ls rows → NeedsAll rows → (es : List Element) → AreRight ls [] es → lacks (laws F p rows) es ≡ None → (a : A) × HoldsAll F rows es a
  rows_hold F p ls last d among n es right none = (tt, tt)
  rows_hold F p ls (row ▸ rest) d among n es right none =
      let k = lacks_none (law F p row) (laws F p rest) es none (is_needed F p row n.0) in
      let t = there_first (law F p row).rule es k.0 in
      let r = first_right ls (law F p row).rule.tag (law F p row).rule.mark [] es t.0 right t.1 in
      let a = row_holds F p row d.0 n.0 es t.0 t.1 (among.0 r.0 t.0 r.1) in
      let b = rows_hold F p ls rest d.2 among.1 n.1 es right k.1 in
      ((a.0, b.0), (a.1, b.1))
  rows_hold F p ls (aside ▹ rest) d among n es right none = rows_hold F p ls rest d.1 among n es right none

-- a table whose rows are all needed: what was read holds one list of fields, and the reader finds it
pub table_holds : {A : Type 0} (F : ℕ → Field Refusal Element) (p : Protocol) → IsFrame F p → (rows : Rows A) → IsTable F p rows → NeedsAll rows → (end : ℕ) (behind : Bool) (octets : List ℕ) (es : List Element) → SpellsWhole F (laws F p rows) end behind octets es → (a : A) × (fields_at p rows end octets ≡ Some a) × HoldsAll F rows es a
table_holds F p is rows d n end behind octets es s =
    let a = rows_hold F p (laws F p rows) rows d.0 d.2 n es s.0.1 s.2 in
    (a.0, fields_only F p is rows d.0 end octets es s.0.0 a.0 a.1, a.1)

-- ---- reading by a table is what it spells

pub table_found : {A B : Type 0} (F : ℕ → Field Refusal Element) (p : Protocol) → IsFrame F p → (rows : Rows A) → IsTable F p rows → NeedsAll rows → (make : A → B) (pick : ℕ → List ℕ → Option B) → ((end : ℕ) (octets : List ℕ) (es : List Element) (a : A) → Framed F end octets es [] → HoldsAll F rows es a → pick end octets ≡ Some (make a)) → (end : ℕ) (behind : Bool) (octets : List ℕ) (b : B) → table_at p (rules F p rows) pick end behind octets ≡ Ok b → SpellsTable F p rows make end behind octets b
unfolding table_at
table_found {A} {B} F p is rows d n make pick picks end behind octets b h =
    let x = bind_ok (whole_at p (rules F p rows) end behind octets) (λ right. or_wrong (pick end octets)) b h in
    let s = whole_found F p is (laws F p rows) (rows_are_laws F p is rows d.0) d.1 end behind octets x.1 in
    let t = table_holds F p is rows d n end behind octets s.0 s.1 in
    let e : ok_of {E = Refusal} (make t.0) ≡ Ok b = sym (ap or_wrong (picks end octets s.0 t.0 s.1.0.0 t.2)) ∙ x.2 in
    (s.0, s.1, (t.0, t.2, sym (ok_is (make t.0) b e)))

pub table_only : {A B : Type 0} (F : ℕ → Field Refusal Element) (p : Protocol) → IsFrame F p → (rows : Rows A) → IsTable F p rows → (make : A → B) (pick : ℕ → List ℕ → Option B) → ((end : ℕ) (octets : List ℕ) (es : List Element) (a : A) → Framed F end octets es [] → HoldsAll F rows es a → pick end octets ≡ Some (make a)) → (end : ℕ) (behind : Bool) (octets : List ℕ) (b : B) → SpellsTable F p rows make end behind octets b → table_at p (rules F p rows) pick end behind octets ≡ Ok b
unfolding table_at
table_only {A} {B} F p is rows d make pick picks end behind octets b s =
    rw (whole_only F p is (laws F p rows) (rows_are_laws F p is rows d.0) d.1 end behind octets s.0 s.1, picks end octets s.0 s.2.0 s.1.0.0 s.2.1) (ap ok_of (sym s.2.2))

pub table_wrong : {A B : Type 0} (F : ℕ → Field Refusal Element) (p : Protocol) → IsFrame F p → (rows : Rows A) → IsTable F p rows → NeedsAll rows → (make : A → B) (pick : ℕ → List ℕ → Option B) → ((end : ℕ) (octets : List ℕ) (es : List Element) (a : A) → Framed F end octets es [] → HoldsAll F rows es a → pick end octets ≡ Some (make a)) → (end : ℕ) (behind : Bool) (octets : List ℕ) (x : Refusal) → table_at p (rules F p rows) pick end behind octets ≡ Err x → RefusesWhole F p (laws F p rows) end behind octets x
unfolding table_at
table_wrong {A} {B} F p is rows d n make pick picks end behind octets x h =
    elim (bind_err (whole_at p (rules F p rows) end behind octets) (λ right. or_wrong (pick end octets)) x h) [
      | inl a ↦ whole_wrong F p is (laws F p rows) (rows_are_laws F p is rows d.0) d.1 end behind octets x a
      | inr y ↦
          (let s = whole_found F p is (laws F p rows) (rows_are_laws F p is rows d.0) d.1 end behind octets y.1 in
          let t = table_holds F p is rows d n end behind octets s.0 s.1 in
          let e : ok_of {E = Refusal} (make t.0) ≡ Err x = sym (ap or_wrong (picks end octets s.0 t.0 s.1.0.0 t.2)) ∙ y.2 in
          absurd (ok_err (make t.0) x e))
    ]

pub table_refused : {A B : Type 0} (F : ℕ → Field Refusal Element) (p : Protocol) → IsFrame F p → (rows : Rows A) → IsTable F p rows → (pick : ℕ → List ℕ → Option B) (end : ℕ) (behind : Bool) (octets : List ℕ) (x : Refusal) → RefusesWhole F p (laws F p rows) end behind octets x → table_at p (rules F p rows) pick end behind octets ≡ Err x
unfolding table_at
table_refused F p is rows d pick end behind octets x r = rw (whole_refused F p is (laws F p rows) (rows_are_laws F p is rows d.0) d.1 end behind octets x r) refl
