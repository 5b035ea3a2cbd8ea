-- What is written by a table is read by it as the same.
use Rattle.std.proofs.Common.{◌≡◌, ℕ, ◌&&◌, ◌||◌, Bool, true, false, cond, List, [], ◌∷◌, ◌++◌, Some, None, refl, sym, subst, eq-eqb}
use Rattle.std.proofs.lemmas.List.{append_assoc}
use Rattle.echo_base.specs.declared.refusal.Refusal.{Refusal}
use Rattle.echo_base.specs.Field.{Field}
use Rattle.tlv_elements.specs.Element.{Element, Protocol, Rule}
use Rattle.tlv_elements.specs.Reading.{is_of, row_of}
use Rattle.tlv_elements.specs.Grammar.{Law, Framed, is_there, or_later, law_of, RightBy, IsRight, AreRight, lacks, SpellsWhole, SpellsTable, rules_of_laws, is_bare, Row, value, group, Aside, Rows, last, ◌▸◌, ◌▹◌, law, laws, first, Holds, HoldsAll, row_run, rows_run}
use Rattle.tlv_elements.proofs.Exact.{not_first}
use Rattle.tlv_elements.proofs.Whole.{RowIs, RowsAre, IsTable}

-- ---- what is asked

-- a frame that is written is read as it
pub record IsWritten (F : ℕ → Field Refusal Element) (frame : ℕ → ℕ → List ℕ → List ℕ) (Fits : ℕ → ℕ → List ℕ → Type 0) : Type 0 where
  pub framed : (end tag mark : ℕ) (v t : List ℕ) → Fits tag mark v → (e : Element) × (F end).Stands (frame tag mark v ++ t) e t × (e.tag ≡ tag) × (e.mark ≡ mark) × (e.value ≡ v)

-- what is right under the tag and mark of a row, and stands behind none of it, is right there; what stands aside has no row
abbrev mutual
  pub NamedRow : {A : Type 0} → (ℕ → Field Refusal Element) → Protocol → Row A → Type 0
  NamedRow F p (value needed tag mark form) = Unit {0}
  NamedRow F p (group needed tag mark rows) = NamedAll F p (laws F p rows) rows

  pub NamedAll : {A : Type 0} → (ℕ → Field Refusal Element) → Protocol → List Law → Rows A → Type 0
  NamedAll F p ls last = Unit {0}
  NamedAll F p ls (row ▸ rest) = ((before : List Element) (e : Element) → is_there (law F p row).rule before ≡ false → (law F p row).Is e → RightBy (law_of ls (law F p row).rule.tag (law F p row).rule.mark) before e) × NamedRow F p row × NamedAll F p ls rest
  NamedAll F p ls (aside ▹ rest) = (row_of (rules_of_laws ls) aside.tag aside.mark ≡ None) × NamedAll F p ls rest

-- each value is written as what it means
abbrev mutual
  pub WrittenRow : {A : Type 0} → Row A → Type 0
  WrittenRow {A} (value needed tag mark form) = (v : A) → form.IsValue v → form.Means (form.run v) v
  WrittenRow (group needed tag mark rows) = WrittenAll rows

  pub WrittenAll : {A : Type 0} → Rows A → Type 0
  WrittenAll last = Unit {0}
  WrittenAll (row ▸ rest) = WrittenRow row × WrittenAll rest
  WrittenAll (aside ▹ rest) = WrittenAll rest

-- what can be written
abbrev mutual
  pub FitsRow : {A : Type 0} → Protocol → (ℕ → ℕ → List ℕ → List ℕ) → (ℕ → ℕ → List ℕ → Type 0) → Row A → A → Type 0
  FitsRow p frame Fits (value needed tag mark form) a = form.IsValue a × Fits tag mark (form.run a)
  FitsRow p frame Fits (group needed tag mark rows) a = FitsAll p frame Fits rows a × Fits tag mark (rows_run frame rows a) × (is_bare p (rows_run frame rows a) ≡ false)

  pub FitsAll : {A : Type 0} → Protocol → (ℕ → ℕ → List ℕ → List ℕ) → (ℕ → ℕ → List ℕ → Type 0) → Rows A → A → Type 0
  FitsAll p frame Fits last a = Unit {0}
  FitsAll p frame Fits (row ▸ rest) a = FitsRow p frame Fits row a.0 × FitsAll p frame Fits rest a.1
  FitsAll p frame Fits (aside ▹ rest) a = Fits aside.tag aside.mark aside.octets × FitsAll p frame Fits rest a

-- ---- an element for each row, and for what stands aside

abbrev mutual
  pub HoldsAt : {A : Type 0} → (ℕ → Field Refusal Element) → Row A → Element → A → Type 0
  HoldsAt F (value needed tag mark form) e a = form.Means e.value a
  HoldsAt F (group needed tag mark rows) e a = (inner : List Element) × Framed F e.stop e.value inner [] × HoldsAll F rows inner a

abbrev pub Pair : {A : Type 0} → (ℕ → Field Refusal Element) → Protocol → Row A → Element → A → Type 0
Pair F p row e a = (e.tag ≡ (law F p row).rule.tag) × (e.mark ≡ (law F p row).rule.mark) × (law F p row).Is e × HoldsAt F row e a

abbrev pub IsAside : Aside → Element → Type 0
IsAside aside e = (e.tag ≡ aside.tag) × (e.mark ≡ aside.mark)

abbrev pub Pairs : {A : Type 0} → (ℕ → Field Refusal Element) → Protocol → Rows A → List Element → A → Type 0
Pairs F p last es a = es ≡ []
Pairs F p (row ▸ rest) es a = (e : Element) × ((later : List Element) × (es ≡ e ∷ later) × Pair F p row e a.0 × Pairs F p rest later a.1)
Pairs F p (aside ▹ rest) es a = (e : Element) × ((later : List Element) × (es ≡ e ∷ later) × IsAside aside e × Pairs F p rest later a)

-- none of the rows has come
abbrev Fresh : {A : Type 0} → (ℕ → Field Refusal Element) → Protocol → Rows A → List Element → Type 0
Fresh F p last before = Unit {0}
Fresh F p (row ▸ rest) before = (is_there (law F p row).rule before ≡ false) × Fresh F p rest before
Fresh F p (aside ▹ rest) before = Fresh F p rest before

fresh_first : {A : Type 0} (F : ℕ → Field Refusal Element) (p : Protocol) (rows : Rows A) → Fresh F p rows []
fresh_first F p last = tt
fresh_first F p (row ▸ rest) = (refl, fresh_first F p rest)
fresh_first F p (aside ▹ rest) = fresh_first F p rest

not_there : (rule : Rule) (before : List Element) (e : Element) → is_there rule before ≡ false → is_of rule e.tag e.mark ≡ false → is_there rule (before ++ e ∷ []) ≡ false
not_there rule [] e h n = rw n refl
not_there rule (x ∷ before) e h n = by (is_of rule x.tag x.mark) refl h (λ h. not_there rule before e h n)
  where
    by : (b : Bool) → is_of rule x.tag x.mark ≡ b → (b || is_there rule before) ≡ false → (is_there rule before ≡ false → is_there rule (before ++ e ∷ []) ≡ false) → (is_of rule x.tag x.mark || is_there rule (before ++ e ∷ [])) ≡ false
    by true is h later = absurd cc
    by false is h later = rw is (later h)

fresh_more : {A : Type 0} (F : ℕ → Field Refusal Element) (p : Protocol) (rows : Rows A) (before : List Element) (e : Element) → row_of (rules_of_laws (laws F p rows)) e.tag e.mark ≡ None → Fresh F p rows before → Fresh F p rows (before ++ e ∷ [])
fresh_more F p last before e none f = tt
fresh_more F p (row ▸ rest) before e none f =
    let n = not_first (law F p row) (laws F p rest) e.tag e.mark none in
    (not_there (law F p row).rule before e f.0 n.0, fresh_more F p rest before e n.1 f.1)
fresh_more F p (aside ▹ rest) before e none f = fresh_more F p rest before e none f

-- an element with the tag and the mark of a row is of it
pub of_itself : (rule : Rule) (e : Element) → e.tag ≡ rule.tag → e.mark ≡ rule.mark → is_of rule e.tag e.mark ≡ true
of_itself rule e t m = rw (eq-eqb rule.tag e.tag (sym t), eq-eqb rule.mark e.mark (sym m)) refl

there_in : (rule : Rule) (before : List Element) (e : Element) (later : List Element) → is_of rule e.tag e.mark ≡ true → is_there rule (before ++ e ∷ later) ≡ true
there_in rule [] e later is = rw is refl
there_in rule (x ∷ before) e later is = rw (there_in rule before e later is) (or_true (is_of rule x.tag x.mark))
  where
    or_true : (b : Bool) → (b || true) ≡ true
    or_true true = refl
    or_true false = refl

first_in : (rule : Rule) (before : List Element) (e : Element) (later : List Element) → is_there rule before ≡ false → is_of rule e.tag e.mark ≡ true → first rule.tag rule.mark (before ++ e ∷ later) ≡ Some e
first_in rule [] e later none is = rw is refl
first_in rule (x ∷ before) e later none is = by (is_of rule x.tag x.mark) refl none (λ n. first_in rule before e later n is)
  where
    by : (b : Bool) → is_of rule x.tag x.mark ≡ b → (b || is_there rule before) ≡ false → (is_there rule before ≡ false → first rule.tag rule.mark (before ++ e ∷ later) ≡ Some e) → cond (is_of rule x.tag x.mark) (Some x) (first rule.tag rule.mark (before ++ e ∷ later)) ≡ Some e
    by true h n on = absurd cc
    by false h n on = rw h (on n)

held : {A : Type 0} (F : ℕ → Field Refusal Element) (p : Protocol) (row : Row A) (es : List Element) (e : Element) (a : A) → first (law F p row).rule.tag (law F p row).rule.mark es ≡ Some e → HoldsAt F row e a → Holds F row es a
held F p (value needed tag mark form) es e a h m = (e, h, m)
held F p (group needed tag mark rows) es e a h m = (e, h, m)

-- an element without a row is right
right_aside : (ls : List Law) (tag mark : ℕ) (before : List Element) (e : Element) → row_of (rules_of_laws ls) tag mark ≡ None → RightBy (law_of ls tag mark) before e
right_aside [] tag mark before e none = tt
right_aside (l ∷ ls) tag mark before e none =
    let n = not_first l ls tag mark none in
    subst (λ b. RightBy (or_later b l (law_of ls tag mark)) before e) (sym n.0) (right_aside ls tag mark before e n.1)

-- an element for each row, and for what stands aside, in their order: all are right, none is missing, and they hold the fields
all_right : {A : Type 0} (F : ℕ → Field Refusal Element) (p : Protocol) (ls : List Law) (rows : Rows A) → RowsAre F p rows → NamedAll F p ls rows → (before es : List Element) (a : A) → Fresh F p rows before → Pairs F p rows es a → AreRight ls before es × (lacks (laws F p rows) (before ++ es) ≡ None) × HoldsAll F rows (before ++ es) a
all_right F p ls last d n before es a f h = rw h (tt, refl, tt)
all_right F p ls (row ▸ rest) d n before es a f h =
    let e = h.0 in
    let later = h.1.0 in
    let pair = h.1.2 in
    let l = law F p row in
    let is = of_itself l.rule e pair.0 pair.1 in
    let none : row_of (rules_of_laws (laws F p rest)) e.tag e.mark ≡ None = rw (pair.0, pair.1) d.1 in
    let right : IsRight ls before e = subst (λ t. RightBy (law_of ls t e.mark) before e) (sym pair.0) (subst (λ m. RightBy (law_of ls l.rule.tag m) before e) (sym pair.1) (n.0 before e f.0 pair.2)) in
    let on = all_right F p ls rest d.2 n.2 (before ++ e ∷ []) later a.1 (fresh_more F p rest before e none f.1) h.1.3 in
    let join : (before ++ e ∷ []) ++ later ≡ before ++ e ∷ later = append_assoc before (e ∷ []) later in
    rw h.1.1 ((right, on.0), rw (there_in l.rule before e later is, and_false l.rule.needed) (subst (λ x. lacks (laws F p rest) x ≡ None) join on.1), (held F p row (before ++ e ∷ later) e a.0 (first_in l.rule before e later f.0 is) pair.3, subst (λ x. HoldsAll F rest x a.1) join on.2))
  where
    and_false : (b : Bool) → (b && false) ≡ false
    and_false true = refl
    and_false false = refl
all_right F p ls (aside ▹ rest) d n before es a f h =
    let e = h.0 in
    let later = h.1.0 in
    let is = h.1.2 in
    let none : row_of (rules_of_laws (laws F p rest)) e.tag e.mark ≡ None = rw (is.0, is.1) d.0 in
    let right : IsRight ls before e = subst (λ t. RightBy (law_of ls t e.mark) before e) (sym is.0) (subst (λ m. RightBy (law_of ls aside.tag m) before e) (sym is.1) (right_aside ls aside.tag aside.mark before e n.0)) in
    let on = all_right F p ls rest d.1 n.1 (before ++ e ∷ []) later a (fresh_more F p rest before e none f) h.1.3 in
    let join : (before ++ e ∷ []) ++ later ≡ before ++ e ∷ later = append_assoc before (e ∷ []) later in
    rw h.1.1 ((right, on.0), subst (λ x. lacks (laws F p rest) x ≡ None) join on.1, subst (λ x. HoldsAll F rest x a) join on.2)

-- ---- what is written

mutual
  pub row_pair : {A : Type 0} (F : ℕ → Field Refusal Element) (p : Protocol) (frame : ℕ → ℕ → List ℕ → List ℕ) (Fits : ℕ → ℕ → List ℕ → Type 0) → IsWritten F frame Fits → (row : Row A) → RowIs F p row → NamedRow F p row → WrittenRow row → (end : ℕ) (a : A) (t : List ℕ) → FitsRow p frame Fits row a → (e : Element) × (F end).Stands (row_run frame row a ++ t) e t × Pair F p row e a
  row_pair F p frame Fits w (value needed tag mark form) d n written end a t fits =
      let x = w.framed end tag mark (form.run a) t fits.1 in
      let m : form.Means x.0.value a = rw x.4 (written a fits.0) in
      (x.0, x.1, (x.2, x.3, (a, m), m))
  row_pair F p frame Fits w (group needed tag mark rows) d n written end a t fits =
      let x = w.framed end tag mark (rows_run frame rows a) t fits.1 in
      let inner = rows_pairs F p frame Fits w (laws F p rows) rows d.0 n written x.0.stop a fits.0 in
      let all = all_right F p (laws F p rows) rows d.0 n [] inner.0 a (fresh_first F p rows) inner.2 in
      let framed : Framed F x.0.stop x.0.value inner.0 [] = rw x.4 inner.1 in
      (x.0, x.1, (x.2, x.3, (rw x.4 fits.2, (inner.0, ((framed, all.0), refl, all.1))), (inner.0, framed, all.2)))

  pub rows_pairs : {A : Type 0} (F : ℕ → Field Refusal Element) (p : Protocol) (frame : ℕ → ℕ → List ℕ → List ℕ) (Fits : ℕ → ℕ → List ℕ → Type 0) → IsWritten F frame Fits → (ls : List Law) (rows : Rows A) → RowsAre F p rows → NamedAll F p ls rows → WrittenAll rows → (end : ℕ) (a : A) → FitsAll p frame Fits rows a → (es : List Element) × Framed F end (rows_run frame rows a) es [] × Pairs F p rows es a
  rows_pairs F p frame Fits w ls last d n written end a fits = ([], refl, refl)
  rows_pairs F p frame Fits w ls (row ▸ rest) d n written end a fits =
      let r = row_pair F p frame Fits w row d.0 n.1 written.0 end a.0 (rows_run frame rest a.1) fits.0 in
      let o = rows_pairs F p frame Fits w ls rest d.2 n.2 written.1 end a.1 fits.1 in
      (r.0 ∷ o.0, (rows_run frame rest a.1, r.1, o.1), (r.0, (o.0, refl, r.2, o.2)))
  rows_pairs F p frame Fits w ls (aside ▹ rest) d n written end a fits =
      let x = w.framed end aside.tag aside.mark aside.octets (rows_run frame rest a) fits.0 in
      let o = rows_pairs F p frame Fits w ls rest d.1 n.1 written end a fits.1 in
      (x.0 ∷ o.0, (rows_run frame rest a, x.1, o.1), (x.0, (o.0, refl, (x.2, x.3), o.2)))

-- the octets that are written for fields are a whole table, whose elements hold them
pub written_holds : {A : Type 0} (F : ℕ → Field Refusal Element) (p : Protocol) (frame : ℕ → ℕ → List ℕ → List ℕ) (Fits : ℕ → ℕ → List ℕ → Type 0) → IsWritten F frame Fits → (rows : Rows A) → IsTable F p rows → NamedAll F p (laws F p rows) rows → WrittenAll rows → (end : ℕ) (a : A) → FitsAll p frame Fits rows a → (es : List Element) × SpellsWhole F (laws F p rows) end false (rows_run frame rows a) es × HoldsAll F rows es a
written_holds F p frame Fits w rows d n written end a fits =
    let es = rows_pairs F p frame Fits w (laws F p rows) rows d.0 n written end a fits in
    let all = all_right F p (laws F p rows) rows d.0 n [] es.0 a (fresh_first F p rows) es.2 in
    (es.0, ((es.1, all.0), refl, all.1), all.2)

-- they spell what make makes of the fields
pub written_spells : {A B : Type 0} (F : ℕ → Field Refusal Element) (p : Protocol) (frame : ℕ → ℕ → List ℕ → List ℕ) (Fits : ℕ → ℕ → List ℕ → Type 0) → IsWritten F frame Fits → (rows : Rows A) → IsTable F p rows → NamedAll F p (laws F p rows) rows → WrittenAll rows → (make : A → B) (end : ℕ) (a : A) → FitsAll p frame Fits rows a → SpellsTable F p rows make end false (rows_run frame rows a) (make a)
written_spells F p frame Fits w rows d n written make end a fits =
    let x = written_holds F p frame Fits w rows d n written end a fits in
    (x.0, x.1, (a, x.2, refl))
