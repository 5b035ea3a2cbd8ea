-- The step is that of any row that fits.
use Rattle.std.proofs.Common.{◌≡◌, ◌+◌, ◌≤◌, ⊎_elim, Bool, true, false, cond, List, [], ◌∷◌, ◌++◌, Some, None, refl, ap, ◌∙◌, arith, rules}
use Rattle.std.specs.Prelude.{unwrap_or, option_map}
use Rattle.std.specs.Option.{option_or}
use Rattle.std.specs.List.{count_by}
use Rattle.std.proofs.lemmas.Grind.{common_steps}
use Rattle.device_types.specs.declared.subscriber.Subscriber.{Subscriber}
use Rattle.device_types.specs.declared.session.Session.{Session}
use Rattle.device_types.specs.declared.input.Input.{Input}
use Rattle.device_types.specs.declared.step.Step.{Step}
use Rattle.device_types.specs.Acts.{made, run}
use Rattle.device_types.specs.Rule.{Rule, fitting}
use Rattle.device_types.specs.Second.{second_rules, changed}
use Rattle.device_types.specs.StepTable.{fit_count, step_table, table_step, step_of, Follows}
use Rattle.device_types.proofs.Apart.{apart}

count-cons : (r : Rule) (rs : List Rule) → count_by (λ x. x.fits) (r ∷ rs) ≡ cond r.fits 1 0 + count_by (λ x. x.fits) rs
count-cons r rs = search (rules, common_steps)

-- where a row fits, some row is counted
counted : (rs : List Rule) (s : Session) (t : Step) → Follows rs s t → 1 ≤ count_by (λ x. x.fits) rs
counted [] s t f = absurd f
counted (r ∷ rs) s t f =
    rw (count-cons r rs)
    (⊎_elim
    (λ (a : (r.fits ≡ true) × (t ≡ run r.acts s)). rw a.0 (omega arith))
    (λ (b : Follows rs s t). let more = counted rs s t b in omega arith)
    f)

-- where no two rows fit, the first that fits is the only one
only_one : (rs : List Rule) (s : Session) (t : Step) → count_by (λ x. x.fits) rs ≤ 1 → Follows rs s t → fitting rs s ≡ Some t
only_one [] s t n f = absurd f
only_one (r ∷ rs) s t n f =
    ⊎_elim
    (λ (a : (r.fits ≡ true) × (t ≡ run r.acts s)). rw (a.0, a.1) refl)
    (λ (b : Follows rs s t).
    let some = counted rs s t b in
    let sum : cond r.fits 1 0 + count_by (λ x. x.fits) rs ≤ 1 = rw (← count-cons r rs) n in
    by_test r.fits some sum (only_one rs s t (omega arith) b))
    f
  where
    by_test : (b : Bool) → 1 ≤ count_by (λ x. x.fits) rs → cond b 1 0 + count_by (λ x. x.fits) rs ≤ 1 → fitting rs s ≡ Some t → cond b (Some (run r.acts s)) (fitting rs s) ≡ Some t
    by_test true some sum e = absurd (omega arith)
    by_test false some sum e = e

-- where no row fits, there is no step
none_fits : (rs : List Rule) (s : Session) → count_by (λ x. x.fits) rs ≡ 0 → fitting rs s ≡ None
none_fits [] s h = refl
none_fits (r ∷ rs) s h = by_test r.fits (none_fits rs s) (rw (← count-cons r rs) h)
  where
    by_test : (b : Bool) → (count_by (λ x. x.fits) rs ≡ 0 → fitting rs s ≡ None) → cond b 1 0 + count_by (λ x. x.fits) rs ≡ 0 → cond b (Some (run r.acts s)) (fitting rs s) ≡ None
    by_test true k e = absurd (omega arith)
    by_test false k e = k (omega arith)

count-append : (xs ys : List Rule) → count_by (λ x. x.fits) (xs ++ ys) ≡ count_by (λ x. x.fits) xs + count_by (λ x. x.fits) ys
count-append xs ys = search (rules, common_steps)

-- how many fit of each of two lists
counts : (row : Subscriber) (s : Session) (input : Input) → fit_count row s input ≡ count_by (λ x. x.fits) (second_rules row s input) + count_by (λ x. x.fits) (step_table row s input)
counts row s input = count-append (second_rules row s input) (step_table row s input)

pub step_of_second : (row : Subscriber) (s : Session) (input : Input) (t : Step) → Follows (second_rules row s input) s t → step_of row s input ≡ t
unfolding step_of
step_of_second row s input t f =
    let sum = counts row s input in
    let low = apart row s input in
    ap (λ o. unwrap_or (option_or o (option_map (changed s input) (table_step row s input))) (made s [])) (only_one (second_rules row s input) s t (omega arith) f)

pub step_of_row : (row : Subscriber) (s : Session) (input : Input) (t : Step) → Follows (step_table row s input) s t → step_of row s input ≡ changed s input t
unfolding step_of
step_of_row row s input t f =
    let own = second_rules row s input in
    let base = step_table row s input in
    let sum = counts row s input in
    let low = apart row s input in
    let some = counted base s t f in
    ap (λ o. unwrap_or (option_or o (option_map (changed s input) (table_step row s input))) (made s [])) (none_fits own s (omega arith))
    ∙ ap (λ o. unwrap_or (option_map (changed s input) o) (made s [])) (only_one base s t (omega arith) f)

pub step_of_none : (row : Subscriber) (s : Session) (input : Input) → fit_count row s input ≡ 0 → step_of row s input ≡ made s []
unfolding step_of
step_of_none row s input h =
    let own = second_rules row s input in
    let base = step_table row s input in
    let sum = counts row s input in
    ap (λ o. unwrap_or (option_or o (option_map (changed s input) (table_step row s input))) (made s [])) (none_fits own s (omega arith))
    ∙ ap (λ o. unwrap_or (option_map (changed s input) o) (made s [])) (none_fits base s (omega arith))
