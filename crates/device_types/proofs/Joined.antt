-- The step table by procedures, and lists of rows behind one another.
use Rattle.std.proofs.Common.{◌≡◌, true, false, cond, List, [], ◌∷◌, ◌++◌, Some, refl, ◌∙◌, ap}
use Rattle.std.specs.Option.{option_or}
use Rattle.device_types.specs.declared.subscriber.Subscriber.{Subscriber}
use Rattle.device_types.specs.declared.session.Session.{Session}
use Rattle.device_types.specs.declared.input.Input.{Input}
use Rattle.device_types.specs.Acts.{run}
use Rattle.device_types.specs.Rule.{Rule, fitting}
use Rattle.device_types.specs.StepTable.{attach_rules, service_rules, area_rules, detach_rules, step_table, table_step}

pub fitting-append : (xs ys : List Rule) (s : Session) → fitting (xs ++ ys) s ≡ option_or (fitting xs s) (fitting ys s)
fitting-append [] ys s = refl
fitting-append (r ∷ xs) ys s =
    elim r.fits as (λ b. cond b (Some (run r.acts s)) (fitting (xs ++ ys) s) ≡ option_or (cond b (Some (run r.acts s)) (fitting xs s)) (fitting ys s))
    [ true ↦ refl | false ↦ fitting-append xs ys s ]

pub by_procedures : (row : Subscriber) (s : Session) (input : Input) → table_step row s input ≡ option_or (option_or (option_or (fitting (attach_rules row s input) s) (fitting (service_rules s input) s)) (fitting (area_rules row s input) s)) (fitting (detach_rules s input) s)
unfolding step_table
by_procedures row s input =
    let a = attach_rules row s input in
    let b = service_rules s input in
    let c = area_rules row s input in
    let d = detach_rules s input in
    fitting-append ((a ++ b) ++ c) d s
    ∙ ap (λ o. option_or o (fitting d s)) (fitting-append (a ++ b) c s ∙ ap (λ o. option_or o (fitting c s)) (fitting-append a b s))
