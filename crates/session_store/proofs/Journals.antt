-- Lawful journals: a beginning of one, and one with an entry more.
use Rattle.std.proofs.Common.{◌≡◌, ℕ, zero, suc, ◌≤◌, ◌<◌, ⊎_elim, List, [], ◌∷◌, ◌++◌, length, take, Some, refl, sym, ap, ◌∙◌, subst, arith, length-append}
use Rattle.std.specs.Prelude.{slice_get}
use Rattle.std.proofs.lemmas.Bool.{cases_lt}
use Rattle.std.proofs.lemmas.List.{take-append-le, take_all}
use Rattle.std.proofs.lemmas.Option.{slice_get_within}
use Rattle.device_types.specs.declared.step.Entry.{Entry}
use Rattle.device_types.proofs.Journals.{last_more, get_before}
use Rattle.session_store.specs.Law.{IsLawful}

-- ---- lists

get_take : {X : Type 0} (xs : List X) (n i : ℕ) (x : X) → slice_get (take n xs) i ≡ Some x → (i < n) × (slice_get xs i ≡ Some x)
get_take [] zero i x h = absurd (cc)
get_take [] (suc n) i x h = absurd (cc)
get_take (y ∷ ys) zero i x h = absurd (cc)
get_take (y ∷ ys) (suc n) zero x h = (omega arith, h)
get_take (y ∷ ys) (suc n) (suc i) x h = let r = get_take ys n i x h in (omega (arith, r.0), r.1)

take_take : {X : Type 0} (xs : List X) (n i : ℕ) → i ≤ n → take i (take n xs) ≡ take i xs
take_take xs n zero h = refl
take_take [] zero (suc i) h = refl
take_take [] (suc n) (suc i) h = refl
take_take (x ∷ xs) zero (suc i) h = absurd (omega arith)
take_take (x ∷ xs) (suc n) (suc i) h = ap (λ ys. x ∷ ys) (take_take xs n i (omega arith))

-- ---- lawful journals

pub lawful_front : (follows : List Entry → Entry → Type 0) (journal : List Entry) (n : ℕ) → IsLawful follows journal → IsLawful follows (take n journal)
lawful_front follows journal n l = λ v entry g.
    let r = get_take journal n v entry g in
    subst (λ (J : List Entry). follows J entry) (sym (take_take journal n v (omega (arith, r.0)))) (l v entry r.1)

pub last_or_before : {X : Type 0} (xs : List X) (last x : X) (i : ℕ) → slice_get (xs ++ last ∷ []) i ≡ Some x → (i < length xs → slice_get xs i ≡ Some x) × (length xs ≤ i → (i ≡ length xs) × (last ≡ x))
last_or_before xs last x i g =
    let within = slice_get_within (xs ++ last ∷ []) i x g in
    let count = length-append xs (last ∷ []) in (
      λ before. sym (get_before xs (last ∷ []) i before) ∙ g,
      λ past.
          let place : i ≡ length xs = omega arith in
          let found : Some last ≡ Some x = sym (last_more xs last) ∙ ap (slice_get (xs ++ last ∷ [])) (sym place) ∙ g in
          (place, cc),
    )

pub lawful_more : (follows : List Entry → Entry → Type 0) (journal : List Entry) (entry : Entry) → IsLawful follows journal → follows journal entry → IsLawful follows (journal ++ entry ∷ [])
lawful_more follows journal entry l f = λ v x g.
    let r = last_or_before journal entry x v g in
    ⊎_elim
    (λ (before : v < length journal).
    subst (λ (J : List Entry). follows J x) (sym (take-append-le v journal (entry ∷ []) (omega arith))) (l v x (r.0 before)))
    (λ (past : length journal ≤ v).
    let last = r.1 past in
    let all : take v (journal ++ entry ∷ []) ≡ journal = take-append-le v journal (entry ∷ []) (omega (arith, last.0)) ∙ take_all v journal past in
    subst (λ (J : List Entry). follows J x) (sym all) (subst (λ (e : Entry). follows journal e) last.1 f))
    (cases_lt v (length journal))
