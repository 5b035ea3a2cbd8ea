-- An element of a list is changed.
use Rattle.std.proofs.Common.{◌≡◌, ◌≢◌, ℕ, zero, suc, ◌<◌, ◌≤◌, List, [], ◌∷◌, ◌++◌, append_assoc, length-append, length, set, get_or, Some, Result, Ok, Err, refl, sym, ap, ◌∙◌, arith, subst}
use Rattle.std.specs.Prelude.{slice_get, IfOk, IfErr}
use mathlib.Core.Logic.{dite}
use native.Mathlib.Decide.{ℕ_discrete}
use Rattle.std.proofs.lemmas.Option.{slice_get_within, slice_get-get_or}

module _ {A : Type 0} where
  pub get_here : (l : List A) (i : ℕ) (x : A) → i < length l → x ≡ get_or l i x → slice_get l i ≡ Some x
  get_here l i x lt e = slice_get-get_or l i x lt ∙ ap Some (sym e)

  pub get_set : (l : List A) (i : ℕ) (x : A) → i < length l → slice_get (set l i x) i ≡ Some x
  get_set [] i x lt = absurd (omega arith)
  get_set (y ∷ l) zero x lt = refl
  get_set (y ∷ l) (suc i) x lt = get_set l i x (omega arith)

  pub get_set_else : (l : List A) (i k : ℕ) (x : A) → k ≢ i → slice_get (set l i x) k ≡ slice_get l k
  get_set_else [] i k x ne = refl
  get_set_else (y ∷ l) zero zero x ne = absurd (ne refl)
  get_set_else (y ∷ l) zero (suc k) x ne = refl
  get_set_else (y ∷ l) (suc i) zero x ne = refl
  get_set_else (y ∷ l) (suc i) (suc k) x ne = get_set_else l i k x (λ e. ne (ap suc e))

  pub length_set : (l : List A) (i : ℕ) (x : A) → length (set l i x) ≡ length l
  length_set [] i x = refl
  length_set (y ∷ l) zero x = refl
  length_set (y ∷ l) (suc i) x = ap suc (length_set l i x)

  pub some_one : (x y : A) → Some x ≡ Some y → x ≡ y
  some_one x y e = cc e

pub of_set : {A C : Type 0} (P : A → C → Type 0) (fs : List A) (ss : List C) (i : ℕ) (f : A) (n : C) → i < length ss → slice_get fs i ≡ Some f → P f n
    → ((k : ℕ) (p : A) (q : C) → slice_get fs k ≡ Some p → slice_get ss k ≡ Some q → P p q)
    → (k : ℕ) (p : A) (q : C) → slice_get fs k ≡ Some p → slice_get (set ss i n) k ≡ Some q → P p q
of_set {A = A} {C = C} P fs ss i f n lt here new old k p q there at = dite (ℕ_discrete k i)
    (λ same.
    let one : f ≡ p = some_one f p (sym here ∙ (ap (slice_get fs) (sym same) ∙ there)) in
    let two : n ≡ q = some_one n q (sym (get_set ss i n lt) ∙ (ap (slice_get (set ss i n)) (sym same) ∙ at)) in
    subst (λ (t : A × C). P t.0 t.1) (λ j. (one j, two j)) new)
    (λ ne. old k p q there (sym (get_set_else ss i k n ne) ∙ at))

pub if_ok : {A E : Type 0} (P Q : A → Type 0) (r : Result A E) → ((a : A) → P a → Q a) → IfOk r P → IfOk r Q
if_ok P Q (Ok a) f h = f a h
if_ok P Q (Err e) f h = h

pub if_err : {A E : Type 0} (P Q : E → Type 0) (r : Result A E) → ((e : E) → P e → Q e) → IfErr r P → IfErr r Q
if_err P Q (Ok a) f h = h
if_err P Q (Err e) f h = f e h

-- ---- the last element

pub get_at : {A : Type 0} (xs ys : List A) (x : A) → slice_get (xs ++ x ∷ ys) (length xs) ≡ Some x
get_at [] ys x = refl
get_at (y ∷ xs) ys x = get_at xs ys x

pub get_below : {A : Type 0} (xs ys : List A) (i : ℕ) → i < length xs → slice_get (xs ++ ys) i ≡ slice_get xs i
get_below [] ys i h = absurd (omega arith)
get_below (x ∷ xs) ys zero h = refl
get_below (x ∷ xs) ys (suc i) h = get_below xs ys i (omega arith)

-- what stands in a list with one more is one of those before it, or that one
pub last_or_before : {A : Type 0} (xs : List A) (last x : A) (i : ℕ) → slice_get (xs ++ last ∷ []) i ≡ Some x → (i < length xs → slice_get xs i ≡ Some x) × (length xs ≤ i → (i ≡ length xs) × (last ≡ x))
last_or_before xs last x i got =
    let within = slice_get_within (xs ++ last ∷ []) i x got in
    let count = length-append xs (last ∷ []) in (
      λ below. sym (get_below xs (last ∷ []) i below) ∙ got,
      λ past.
          let place : i ≡ length xs = omega arith in
          (place, some_one last x (sym (get_at xs [] last) ∙ (ap (slice_get (xs ++ last ∷ [])) (sym place) ∙ got))),
    )

-- so many were taken off; the last of the rest goes too
pub one_off : {A : Type 0} (all before after gone : List A) (x : A) → before ≡ after ++ x ∷ [] → before ++ gone ≡ all → after ++ x ∷ gone ≡ all
one_off all before after gone x e whole = sym (append_assoc after (x ∷ []) gone) ∙ ap (λ l. l ++ gone) (sym e) ∙ whole
