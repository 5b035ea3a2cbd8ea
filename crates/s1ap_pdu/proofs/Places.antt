-- The slots of a table and the IEs that stand under its ids.
use Rattle.std.proofs.Common.{◌≡◌, ℕ, suc, ◌+◌, ◌<◌, Bool, true, false, cond, eqb, ltb, List, [], ◌∷◌, ◌++◌, length, map, get_or, Option, Some, None, option_map, refl, sym, ap, ◌∙◌, subst, inl, inr, arith}
use Rattle.std.specs.List.{position, position_or_len, IsDistinct, AllByRecursion}
use Rattle.std.proofs.Math.ListN.{set}
use Rattle.std.proofs.lemmas.Bool.{cases_Bool, cases_lt, lt-ltb, le-ltb, eqb-true, eqb-false, ne_eqb}
use Rattle.protocol_ies.specs.declared.tables.IeRow.{IeRow}
use Rattle.s1ap_pdu.specs.Values.{FieldValue}
use Rattle.protocol_ies.specs.Tables.{place_of}

abbrev Slot : Type 0
Slot = Option FieldValue

-- ---- the place of a row

-- the first place in a list with a head
placed : (n m : ℕ) → cond (ltb (1 + n) (suc m)) (Some (1 + n)) None ≡ option_map suc (cond (ltb n m) (Some n) None)
placed n m =
    elim (cases_lt n m) [
      | inl lt ↦ rw (lt-ltb n m lt, lt-ltb (1 + n) (suc m) (omega arith)) (ap Some (omega arith))
      | inr le ↦ rw (le-ltb n m le, le-ltb (1 + n) (suc m) (omega arith)) refl
    ]

pub position-here : {A : Type 0} (p : A → Bool) (x : A) (xs : List A) → p x ≡ true → position p (x ∷ xs) ≡ Some 0
position-here p x xs t = rw (t, lt-ltb 0 (suc (length xs)) (omega arith)) refl

pub position-later : {A : Type 0} (p : A → Bool) (x : A) (xs : List A) → p x ≡ false → position p (x ∷ xs) ≡ option_map suc (position p xs)
position-later p x xs f = rw f (placed (position_or_len p xs) (length xs))

abbrev nowhere : Option ℕ
nowhere = None

none_some : (k : ℕ) → option_map suc nowhere ≡ Some k → ⊥
none_some k e = cc

later : (o : Option ℕ) (k : ℕ) → option_map suc o ≡ Some k → (j : ℕ) × (o ≡ Some j) × (k ≡ suc j)
later None k e = absurd (none_some k e)
later (Some j) k e = (j, refl, cc)

pub slot_is : (f : ℕ → Slot) (rows : List IeRow) (rest : List Slot) (id k : ℕ) → place_of rows id ≡ Some k → get_or (map (λ row. f row.id) rows ++ rest) k None ≡ f id
slot_is f [] rest id k e = absurd cc
slot_is f (row ∷ rows) rest id k e =
    elim (cases_Bool (eqb row.id id)) [
      | inl t ↦
          let here : k ≡ 0 = let h : Some 0 ≡ Some k = sym (position-here (λ (r : IeRow). eqb r.id id) row rows t) ∙ e in cc in
          rw here (ap f (eqb-true row.id id t))
      | inr n ↦
          let x = later (place_of rows id) k (sym (position-later (λ (r : IeRow). eqb r.id id) row rows n) ∙ e) in
          rw x.2 (slot_is f rows rest id x.0 x.1)
    ]

-- rows of other ids
others : (f g : ℕ → Slot) (id : ℕ) (rows : List IeRow) → AllByRecursion (λ other. eqb id other ≡ false) (map (λ row. row.id) rows) → ((other : ℕ) → eqb id other ≡ false → g other ≡ f other) → map (λ row. f row.id) rows ≡ map (λ row. g row.id) rows
others f g id [] differ there = refl
others f g id (row ∷ rows) differ there = ap (λ (s : Slot). s ∷ map (λ r. f r.id) rows) (sym (there row.id differ.0)) ∙ ap (λ (l : List Slot). g row.id ∷ l) (others f g id rows differ.1 there)

-- a value put into the slot of its row; the others have other ids
pub slot_set : (f g : ℕ → Slot) (v : Slot) (rows : List IeRow) (rest : List Slot) (id k : ℕ) → IsDistinct eqb (map (λ row. row.id) rows) → g id ≡ v → ((other : ℕ) → eqb id other ≡ false → g other ≡ f other) → place_of rows id ≡ Some k → set (map (λ row. f row.id) rows ++ rest) k v ≡ map (λ row. g row.id) rows ++ rest
unfolding IsDistinct
slot_set f g v [] rest id k distinct here there e = absurd cc
slot_set f g v (row ∷ rows) rest id k distinct here there e =
    elim (cases_Bool (eqb row.id id)) [
      | inl t ↦
          let first : k ≡ 0 = let h : Some 0 ≡ Some k = sym (position-here (λ (r : IeRow). eqb r.id id) row rows t) ∙ e in cc in
          let is : row.id ≡ id = eqb-true row.id id t in
          let differ : AllByRecursion (λ other. eqb id other ≡ false) (map (λ (r : IeRow). r.id) rows) = subst (λ (i : ℕ). AllByRecursion (λ other. eqb i other ≡ false) (map (λ (r : IeRow). r.id) rows)) is distinct.0 in
          rw first (ap (λ (s : Slot). s ∷ (map (λ r. f r.id) rows ++ rest)) (sym here ∙ ap g (sym is)) ∙ ap (λ (l : List Slot). g row.id ∷ (l ++ rest)) (others f g id rows differ there))
      | inr n ↦
          let x = later (place_of rows id) k (sym (position-later (λ (r : IeRow). eqb r.id id) row rows n) ∙ e) in
          let other : g row.id ≡ f row.id = there row.id (ne_eqb id row.id (λ z. eqb-false row.id id n (sym z))) in
          rw x.2 (ap (λ (s : Slot). s ∷ set (map (λ r. f r.id) rows ++ rest) x.0 v) (sym other) ∙ ap (λ (l : List Slot). g row.id ∷ l) (slot_set f g v rows rest id x.0 distinct.1 here there x.1))
    ]
