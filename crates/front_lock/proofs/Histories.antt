-- Turns by seat number, and beginnings of histories.
use Rattle.std.proofs.Common.{◌≡◌, ◌≢◌, ℕ, zero, suc, ◌<◌, ◌≤◌, ◌==◌, ◌||◌, Bool, true, false, List, [], ◌∷◌, ◌++◌, length, refl, sym, ap, ◌∙◌, arith, cond, eq-eqb, eqb-true, ne_eqb, true≢false, length-append}
use Rattle.std.specs.Prelude.{nat_le}
use Rattle.std.proofs.lemmas.List.{append-nil}
use Rattle.std.proofs.lemmas.List.Elements.{filter-append}
use Rattle.std.proofs.lemmas.Bool.Decides.{nat_tests}
use mathlib.Core.List.{IsPrefix}
use mathlib.Core.Logic.{dite}
use native.Mathlib.Decide.{ℕ_discrete}
use base.Growing.{prefix_refl}
use Rattle.front_lock.specs.Numbers.{turns_of, speaks_for, list_of, with_turn, empty_lists, longer_of, shorter_of}

pub off : false ≡ true → ⊥
off e = true≢false (sym e)

module _ {X : Type 0} where
  pub turns_of-append : (by : X → ℕ) (k : ℕ) (xs ys : List X) → turns_of by k (xs ++ ys) ≡ turns_of by k xs ++ turns_of by k ys
  turns_of-append by k xs ys = filter-append (λ x. k == by x) xs ys

  -- a turn of another number
  pub turns_of-else : (by : X → ℕ) (k : ℕ) (xs : List X) (x : X) → k ≢ by x → turns_of by k (xs ++ x ∷ []) ≡ turns_of by k xs
  turns_of-else by k xs x ne = turns_of-append by k xs (x ∷ []) ∙ (ap (λ t. turns_of by k xs ++ cond t (x ∷ []) []) (ne_eqb k (by x) ne) ∙ append-nil (turns_of by k xs))

  pub turns_of-here : (by : X → ℕ) (k : ℕ) (xs : List X) (x : X) → k ≡ by x → turns_of by k (xs ++ x ∷ []) ≡ turns_of by k xs ++ x ∷ []
  turns_of-here by k xs x e = turns_of-append by k xs (x ∷ []) ∙ ap (λ t. turns_of by k xs ++ cond t (x ∷ []) []) (eq-eqb k (by x) e)

  pub speaks_for-with_turn : (n k : ℕ) (x : X) (mine : List (ℕ × List X)) → speaks_for k (with_turn n x mine) ≡ speaks_for k mine
  speaks_for-with_turn n k x [] = refl
  speaks_for-with_turn n k x (e ∷ es) = go (n == e.0) (speaks_for-with_turn n k x es)
    where
      go : (t : Bool) → speaks_for k (with_turn n x es) ≡ speaks_for k es → speaks_for k (cond t ((e.0, e.1 ++ x ∷ []) ∷ es) (e ∷ with_turn n x es)) ≡ speaks_for k (e ∷ es)
      go true i = refl
      go false i = ap (λ b. (k == e.0) || b) i

  -- the list of another number
  pub list_of-with_turn_else : (n k : ℕ) (x : X) (mine : List (ℕ × List X)) → k ≢ n → list_of k (with_turn n x mine) ≡ list_of k mine
  list_of-with_turn_else n k x [] ne = refl
  list_of-with_turn_else n k x (e ∷ es) ne = go (n == e.0) refl (list_of-with_turn_else n k x es ne)
    where
      go : (t : Bool) → (n == e.0) ≡ t → list_of k (with_turn n x es) ≡ list_of k es → list_of k (cond t ((e.0, e.1 ++ x ∷ []) ∷ es) (e ∷ with_turn n x es)) ≡ list_of k (e ∷ es)
      go true i h = rw (ne_eqb k e.0 (λ q. ne (q ∙ sym (eqb-true n e.0 i)))) refl
      go false i h = ap (λ l. cond (k == e.0) e.1 l) h

  pub list_of-with_turn_here : (n : ℕ) (x : X) (mine : List (ℕ × List X)) → speaks_for n mine ≡ true → list_of n (with_turn n x mine) ≡ list_of n mine ++ x ∷ []
  list_of-with_turn_here n x [] is = absurd (off is)
  list_of-with_turn_here n x (e ∷ es) is = go (n == e.0) refl is (list_of-with_turn_here n x es)
    where
      go : (t : Bool) → (n == e.0) ≡ t → (t || speaks_for n es) ≡ true → (speaks_for n es ≡ true → list_of n (with_turn n x es) ≡ list_of n es ++ x ∷ []) → list_of n (cond t ((e.0, e.1 ++ x ∷ []) ∷ es) (e ∷ with_turn n x es)) ≡ cond t e.1 (list_of n es) ++ x ∷ []
      go true i s h = rw i refl
      go false i s h = rw i (h s)

  pub list_of-append : (k : ℕ) (m n : List (ℕ × List X)) → list_of k (m ++ n) ≡ cond (speaks_for k m) (list_of k m) (list_of k n)
  list_of-append k [] n = refl
  list_of-append k (e ∷ es) n = go (k == e.0) (list_of-append k es n)
    where
      go : (t : Bool) → list_of k (es ++ n) ≡ cond (speaks_for k es) (list_of k es) (list_of k n)
          → cond t e.1 (list_of k (es ++ n)) ≡ cond (t || speaks_for k es) (cond t e.1 (list_of k es)) (list_of k n)
      go true h = refl
      go false h = h

  pub list_of-empty_lists : (k n : ℕ) → list_of {X = X} k (empty_lists n) ≡ []
  list_of-empty_lists k zero = refl
  list_of-empty_lists k (suc n) = go (k == n) (list_of-empty_lists k n)
    where
      go : (t : Bool) → list_of {X = X} k (empty_lists n) ≡ [] → cond t [] (list_of {X = X} k (empty_lists n)) ≡ []
      go true h = refl
      go false h = h

  -- a list for one number
  pub list_of-one : (k n : ℕ) → list_of {X = X} k ((n, []) ∷ []) ≡ []
  list_of-one k n = go (k == n)
    where
      go : (t : Bool) → cond {A = List X} t [] [] ≡ []
      go true = refl
      go false = refl

  -- of two beginnings of one list the shorter begins the other
  pub prefix_shorter : (xs ys zs : List X) → IsPrefix xs zs → IsPrefix ys zs → length xs ≤ length ys → IsPrefix xs ys
  prefix_shorter [] ys zs p q le = (ys, refl)
  prefix_shorter (x ∷ xs) [] zs p q le = absurd (omega arith)
  prefix_shorter (x ∷ xs) (y ∷ ys) [] p q le = absurd (cc (p.1))
  prefix_shorter (x ∷ xs) (y ∷ ys) (z ∷ zs) p q le =
      let heads : x ≡ y = cc (p.1, q.1) in
      let rest = prefix_shorter xs ys zs (p.0, cc (p.1)) (q.0, cc (q.1)) (omega arith) in
      (rest.0, cc (heads, rest.1))

  -- the longer and the shorter of two beginnings of a list
  pub record Ordered (xs ys zs : List X) : Type 0 where
    pub first : IsPrefix xs (longer_of xs ys)
    pub second : IsPrefix ys (longer_of xs ys)
    pub longer : IsPrefix (longer_of xs ys) zs
    pub shorter : IsPrefix (shorter_of xs ys) zs

  pub in_order : (xs ys zs : List X) → IsPrefix xs zs → IsPrefix ys zs → Ordered xs ys zs
  in_order xs ys zs p q = go (nat_le (length xs) (length ys)) refl
    where
      go : (t : Bool) → nat_le (length xs) (length ys) ≡ t → Ordered xs ys zs
      go true e = let le : length xs ≤ length ys = grind (arith, nat_tests) in record { first = rw e (prefix_shorter xs ys zs p q le); second = rw e (prefix_refl ys); longer = rw e q; shorter = rw e p }
      go false e = let le : length ys ≤ length xs = grind (arith, nat_tests) in record { first = rw e (prefix_refl xs); second = rw e (prefix_shorter ys xs zs q p le); longer = rw e p; shorter = rw e q }

  pub shorter_of-le-longer_of : (xs ys : List X) → length (shorter_of xs ys) ≤ length (longer_of xs ys)
  shorter_of-le-longer_of xs ys = go (nat_le (length xs) (length ys)) refl
    where
      go : (t : Bool) → nat_le (length xs) (length ys) ≡ t → length (shorter_of xs ys) ≤ length (longer_of xs ys)
      go true e = let le : length xs ≤ length ys = grind (arith, nat_tests) in rw e le
      go false e = let le : length ys ≤ length xs = grind (arith, nat_tests) in rw e le

  nil_of : (l : List X) → length l ≡ 0 → l ≡ []
  nil_of [] e = refl
  nil_of (x ∷ l) e = absurd (omega arith)

  -- where a beginning has all turns of number k, each longer beginning has just these
  pub turns_of-between : (by : X → ℕ) (k : ℕ) (xs ys zs : List X) → IsPrefix xs ys → IsPrefix ys zs → turns_of by k xs ≡ turns_of by k zs → turns_of by k ys ≡ turns_of by k zs
  turns_of-between by k xs ys zs p q e =
      let one : turns_of by k ys ≡ turns_of by k xs ++ turns_of by k p.0 = ap (turns_of by k) (sym p.1) ∙ turns_of-append by k xs p.0 in
      let two : turns_of by k zs ≡ turns_of by k ys ++ turns_of by k q.0 = ap (turns_of by k) (sym q.1) ∙ turns_of-append by k ys q.0 in
      let l = ap length one ∙ length-append (turns_of by k xs) (turns_of by k p.0) in
      let m = ap length two ∙ length-append (turns_of by k ys) (turns_of by k q.0) in
      let n = ap length e in
      let none : turns_of by k q.0 ≡ [] = nil_of (turns_of by k q.0) (omega arith) in
      sym (two ∙ (ap (λ t. turns_of by k ys ++ t) none ∙ append-nil (turns_of by k ys)))

module _ (X : Type 0) where
  pub speaks_for_below : (k n : ℕ) → speaks_for {X = X} k (empty_lists n) ≡ true → k < n
  speaks_for_below k zero e = absurd (off e)
  speaks_for_below k (suc n) e = go (k == n) refl e (speaks_for_below k n)
    where
      go : (t : Bool) → (k == n) ≡ t → (t || speaks_for {X = X} k (empty_lists n)) ≡ true → (speaks_for {X = X} k (empty_lists n) ≡ true → k < n) → k < suc n
      go true i s h = let q = eqb-true k n i in omega arith
      go false i s h = let q = h s in omega arith

  pub speaks_for_all : (k n : ℕ) → k < n → speaks_for {X = X} k (empty_lists n) ≡ true
  speaks_for_all k zero lt = absurd (omega arith)
  speaks_for_all k (suc n) lt = go (k == n) refl (speaks_for_all k n)
    where
      go : (t : Bool) → (k == n) ≡ t → (k < n → speaks_for {X = X} k (empty_lists n) ≡ true) → (t || speaks_for {X = X} k (empty_lists n)) ≡ true
      go true i h = refl
      go false i h = h (dite (ℕ_discrete k n) (λ q. absurd (true≢false (sym (eq-eqb k n q) ∙ i))) (λ ne. omega arith))

  -- a list for one number
  pub speaks_for_one : (k n : ℕ) → speaks_for {X = X} k ((n, []) ∷ []) ≡ true → k ≡ n
  speaks_for_one k n e = go (k == n) refl e
    where
      go : (t : Bool) → (k == n) ≡ t → (t || false) ≡ true → k ≡ n
      go true i s = eqb-true k n i
      go false i s = absurd (off s)

  pub speaks_for_itself : (k : ℕ) → speaks_for {X = X} k ((k, []) ∷ []) ≡ true
  speaks_for_itself k = ap (λ t. t || false) (eq-eqb k k refl)
