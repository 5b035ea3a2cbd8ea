-- All of the octets by a table, with what is told at their end; values and groups; tables.
use Rattle.std.proofs.Common.{◌≡◌, ◌⊎◌, ℕ, ◌≤◌, Bool, true, false, cond, List, [], length, Option, Some, None, is_some, Ok, Err, refl, sym, ap, ◌∙◌, subst, inl, inr, arith}
use Rattle.echo_base.specs.declared.reason.Reason.TheVariants as reasons
use Rattle.echo_base.specs.declared.refusal.Refusal.{Refusal}
use Rattle.echo_base.specs.Format.{Decides}
use Rattle.echo_base.specs.Field.{Field}
use Rattle.echo_base.proofs.Answers.{bind_ok, bind_err, ok_of, err_of, ok_err, err_is}
use Rattle.tlv_elements.specs.Element.{Element, Protocol, refusal_at}
use Rattle.tlv_elements.specs.Reading.{Seen, row_of, none_seen, walk_at, lacking, told, completed, whole_at}
use Rattle.tlv_elements.specs.Grammar.{Form, Law, RightBy, law_of, lacks, SpellsWhole, RefusesEnd, RefusesWhole, rules_of_laws, value_law, group_law, is_bare, wrong_at, check_value, Row, value, group, Rows, last, ◌▸◌, ◌▹◌, law, laws}
use Rattle.tlv_elements.proofs.Exact.{IsFrame, IsLaw, AreLaws, marks_none, walk_found, walk_wrong, walk_only, walk_refused, lacking_marked}

-- ---- what is told at the end

told_ok : (p : Protocol) (end : ℕ) (behind : Bool) (o : Option ℕ) → cond behind (err_of {A = Unit {0}} (refusal_at reasons.TrailingBytes end)) (told p end o) ≡ Ok tt → (behind ≡ false) × (o ≡ None)
told_ok p end true o h = absurd (ok_err {A = Unit {0}} tt _ (sym h))
told_ok p end false None h = (refl, refl)
told_ok p end false (Some tag) h = absurd (ok_err {A = Unit {0}} tt _ (sym h))

told_err : (p : Protocol) (end : ℕ) (behind : Bool) (o : Option ℕ) (x : Refusal) → cond behind (err_of {A = Unit {0}} (refusal_at reasons.TrailingBytes end)) (told p end o) ≡ Err x → ((behind ≡ true) × (x ≡ refusal_at reasons.TrailingBytes end)) ⊎ ((behind ≡ false) × ((tag : ℕ) × (o ≡ Some tag) × (x ≡ refusal_at (p.missing tag) end)))
told_err p end true o x h = inl (refl, sym (err_is {A = Unit {0}} _ x h))
told_err p end false None x h = absurd (ok_err {A = Unit {0}} tt x h)
told_err p end false (Some tag) x h = inr (refl, (tag, refl, sym (err_is {A = Unit {0}} _ x h)))

-- ---- all of the octets

pub whole_found : (F : ℕ → Field Refusal Element) (p : Protocol) → IsFrame F p → (ls : List Law) → AreLaws ls → length ls ≤ 8 → (end : ℕ) (behind : Bool) (octets : List ℕ) → whole_at p (rules_of_laws ls) end behind octets ≡ Ok tt → (es : List Element) × SpellsWhole F ls end behind octets es
unfolding whole_at
whole_found F p is ls are few end behind octets h =
    let rules = rules_of_laws ls in
    let x = bind_ok (walk_at p rules end (length octets) none_seen octets) (completed p rules end behind) tt h in
    let w = walk_found F p is ls are end (length octets) octets [] none_seen x.0 (marks_none ls 8 few) (omega arith) x.1 in
    let t = told_ok p end behind (lacking rules x.0) x.2 in
    (w.0, ((w.1, w.2), t.0, sym (lacking_marked ls w.0 x.0 w.3) ∙ t.1))

pub whole_wrong : (F : ℕ → Field Refusal Element) (p : Protocol) → IsFrame F p → (ls : List Law) → AreLaws ls → length ls ≤ 8 → (end : ℕ) (behind : Bool) (octets : List ℕ) (x : Refusal) → whole_at p (rules_of_laws ls) end behind octets ≡ Err x → RefusesWhole F p ls end behind octets x
unfolding whole_at
whole_wrong F p is ls are few end behind octets x h =
    let rules = rules_of_laws ls in
    elim (bind_err (walk_at p rules end (length octets) none_seen octets) (completed p rules end behind) x h) [
      | inl a ↦ inl (walk_wrong F p is ls are end (length octets) octets [] none_seen x (marks_none ls 8 few) (omega arith) a)
      | inr b ↦
          (let w = walk_found F p is ls are end (length octets) octets [] none_seen b.0 (marks_none ls 8 few) (omega arith) b.1 in
          let t = told_err p end behind (lacking rules b.0) x b.2 in
          inr (w.0, (w.1, w.2), subst (λ o. ((behind ≡ true) × (x ≡ refusal_at reasons.TrailingBytes end)) ⊎ ((behind ≡ false) × ((tag : ℕ) × (o ≡ Some tag) × (x ≡ refusal_at (p.missing tag) end)))) (lacking_marked ls w.0 b.0 w.3) t))
    ]

pub whole_only : (F : ℕ → Field Refusal Element) (p : Protocol) → IsFrame F p → (ls : List Law) → AreLaws ls → length ls ≤ 8 → (end : ℕ) (behind : Bool) (octets : List ℕ) (es : List Element) → SpellsWhole F ls end behind octets es → whole_at p (rules_of_laws ls) end behind octets ≡ Ok tt
unfolding whole_at
whole_only F p is ls are few end behind octets es s =
    let w = walk_only F p is ls are end (length octets) es octets [] none_seen (marks_none ls 8 few) (omega arith) s.0.0 s.0.1 in
    rw (w.1, s.1, lacking_marked ls es w.0 w.2, s.2) refl

pub whole_refused : (F : ℕ → Field Refusal Element) (p : Protocol) → IsFrame F p → (ls : List Law) → AreLaws ls → length ls ≤ 8 → (end : ℕ) (behind : Bool) (octets : List ℕ) (x : Refusal) → RefusesWhole F p ls end behind octets x → whole_at p (rules_of_laws ls) end behind octets ≡ Err x
unfolding whole_at
whole_refused F p is ls are few end behind octets x (inl w) = rw (walk_refused F p is ls are end (length octets) w.0 octets [] none_seen w.1.0 x (marks_none ls 8 few) (omega arith) w.1.1.0 w.1.1.1 w.1.1.2 w.1.1.3) refl
whole_refused F p is ls are few end behind octets x (inr w) =
    let k = walk_only F p is ls are end (length octets) w.0 octets [] none_seen (marks_none ls 8 few) (omega arith) w.1.0 w.1.1 in
    rw k.1 (by k.0 (lacking_marked ls w.0 k.0 k.2) w.2)
  where
    by : (seen : Seen) → lacking (rules_of_laws ls) seen ≡ lacks ls w.0 → RefusesEnd p ls end behind w.0 x → completed p (rules_of_laws ls) end behind seen ≡ Err x
    by seen e (inl t) = rw t.0 (ap err_of (sym t.1))
    by seen e (inr t) = rw (t.0, e, t.1.1) (ap err_of (sym t.1.2))

-- ---- a value

pub value_is_law : {V : Type 0} (p : Protocol) (needed : Bool) (tag mark : ℕ) (form : Form V) → ((octets : List ℕ) → Decides (form.decode octets) (form.Means octets)) → IsLaw (value_law p needed tag mark form)
value_is_law {V} p needed tag mark form decides = record {
  found = λ e h. by_found e (form.decode e.value) refl h;
  only = λ e s. (let o : form.decode e.value ≡ Some s.0 = (decides e.value).only s.0 s.1 in rw o refl);
  wrong = λ e x h. by_wrong e (form.decode e.value) refl x h;
  refused = λ e x r. by_refused e (form.decode e.value) refl x r;
}
  where
    by_found : (e : Element) (o : Option V) → form.decode e.value ≡ o → cond (is_some o) (ok_of {A = Unit {0}} tt) (Err (wrong_at p e)) ≡ Ok tt → (v : V) × form.Means e.value v
    by_found e (Some v) is h = (v, (decides e.value).found v is)
    by_found e None is h = absurd (ok_err {A = Unit {0}} tt _ (sym h))

    by_wrong : (e : Element) (o : Option V) → form.decode e.value ≡ o → (x : Refusal) → cond (is_some o) (ok_of {A = Unit {0}} tt) (Err (wrong_at p e)) ≡ Err x → ((v : V) → form.Means e.value v → ⊥) × (x ≡ wrong_at p e)
    by_wrong e (Some v) is x h = absurd (ok_err {A = Unit {0}} tt x h)
    by_wrong e None is x h = (λ v s. (let n = (decides e.value).only v s in cc), sym (err_is {A = Unit {0}} _ x h))

    by_refused : (e : Element) (o : Option V) → form.decode e.value ≡ o → (x : Refusal) → ((v : V) → form.Means e.value v → ⊥) × (x ≡ wrong_at p e) → check_value p form e ≡ Err x
    by_refused e (Some v) is x r = absurd (r.0 v ((decides e.value).found v is))
    by_refused e None is x r = rw is (ap err_of (sym r.1))

-- ---- a group

pub group_is_law : (F : ℕ → Field Refusal Element) (p : Protocol) → IsFrame F p → (needed : Bool) (tag mark : ℕ) (ls : List Law) → AreLaws ls → length ls ≤ 8 → IsLaw (group_law F p needed tag mark ls)
group_is_law F p is needed tag mark ls are few = record {
  found = λ e h. by_found e (is_bare p e.value) refl h;
  only = λ e s. rw (s.0, whole_only F p is ls are few e.stop false e.value s.1.0 s.1.1) refl;
  wrong = λ e x h. by_wrong e (is_bare p e.value) refl x h;
  refused = λ e x r. by_refused e x r;
}
  where
    by_found : (e : Element) (b : Bool) → is_bare p e.value ≡ b → cond b (Err (wrong_at p e)) (whole_at p (rules_of_laws ls) e.stop false e.value) ≡ Ok tt → (is_bare p e.value ≡ false) × ((es : List Element) × SpellsWhole F ls e.stop false e.value es)
    by_found e true b h = absurd (ok_err {A = Unit {0}} tt _ (sym h))
    by_found e false b h = (b, whole_found F p is ls are few e.stop false e.value h)

    by_wrong : (e : Element) (b : Bool) → is_bare p e.value ≡ b → (x : Refusal) → cond b (Err (wrong_at p e)) (whole_at p (rules_of_laws ls) e.stop false e.value) ≡ Err x → ((is_bare p e.value ≡ true) × (x ≡ wrong_at p e)) ⊎ ((is_bare p e.value ≡ false) × RefusesWhole F p ls e.stop false e.value x)
    by_wrong e true b x h = inl (b, sym (err_is {A = Unit {0}} _ x h))
    by_wrong e false b x h = inr (b, whole_wrong F p is ls are few e.stop false e.value x h)

    by_refused : (e : Element) (x : Refusal) → ((is_bare p e.value ≡ true) × (x ≡ wrong_at p e)) ⊎ ((is_bare p e.value ≡ false) × RefusesWhole F p ls e.stop false e.value x) → cond (is_bare p e.value) (Err (wrong_at p e)) (whole_at p (rules_of_laws ls) e.stop false e.value) ≡ Err x
    by_refused e x (inl r) = rw r.0 (ap err_of (sym r.1))
    by_refused e x (inr r) = rw r.0 (whole_refused F p is ls are few e.stop false e.value x r.1)

-- ---- tables

-- what is right under the tag and mark of a row is of the row's form
abbrev pub AreAmong : {A : Type 0} → (ℕ → Field Refusal Element) → Protocol → List Law → Rows A → Type 0
AreAmong F p ls last = Unit {0}
AreAmong F p ls (row ▸ rest) = ((before : List Element) (e : Element) → RightBy (law_of ls (law F p row).rule.tag (law F p row).rule.mark) before e → (law F p row).Is e) × AreAmong F p ls rest
AreAmong F p ls (aside ▹ rest) = AreAmong F p ls rest

-- what is asked of a table: each value is read as it is written, no two rows have one tag and mark, nor has a row that of what stands aside before it,
-- and there are at most eight
abbrev mutual
  pub RowIs : {A : Type 0} → (ℕ → Field Refusal Element) → Protocol → Row A → Type 0
  RowIs F p (value needed tag mark form) = (octets : List ℕ) → Decides (form.decode octets) (form.Means octets)
  RowIs F p (group needed tag mark rows) = RowsAre F p rows × (length (laws F p rows) ≤ 8) × AreAmong F p (laws F p rows) rows

  pub RowsAre : {A : Type 0} → (ℕ → Field Refusal Element) → Protocol → Rows A → Type 0
  RowsAre F p last = Unit {0}
  RowsAre F p (row ▸ rest) = RowIs F p row × (row_of (rules_of_laws (laws F p rest)) (law F p row).rule.tag (law F p row).rule.mark ≡ None) × RowsAre F p rest
  RowsAre F p (aside ▹ rest) = (row_of (rules_of_laws (laws F p rest)) aside.tag aside.mark ≡ None) × RowsAre F p rest

abbrev pub IsTable : {A : Type 0} → (ℕ → Field Refusal Element) → Protocol → Rows A → Type 0
IsTable F p rows = RowsAre F p rows × (length (laws F p rows) ≤ 8) × AreAmong F p (laws F p rows) rows

mutual
  pub row_is_law : {A : Type 0} (F : ℕ → Field Refusal Element) (p : Protocol) → IsFrame F p → (row : Row A) → RowIs F p row → IsLaw (law F p row)
  row_is_law F p is (value needed tag mark form) d = value_is_law p needed tag mark form d
  row_is_law F p is (group needed tag mark rows) d = group_is_law F p is needed tag mark (laws F p rows) (rows_are_laws F p is rows d.0) d.1

  pub rows_are_laws : {A : Type 0} (F : ℕ → Field Refusal Element) (p : Protocol) → IsFrame F p → (rows : Rows A) → RowsAre F p rows → AreLaws (laws F p rows)
  rows_are_laws F p is last d = tt
  rows_are_laws F p is (row ▸ rest) d = (row_is_law F p is row d.0, d.1, rows_are_laws F p is rest d.2)
  rows_are_laws F p is (aside ▹ rest) d = rows_are_laws F p is rest d.1
