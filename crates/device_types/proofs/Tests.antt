-- What two tests of the step table say: that of an area, and that of a session in which no answer is awaited.
use Rattle.std.proofs.Common.{◌≡◌, ℕ, ◌==◌, suc, zero, ◌≤◌, Bool, true, false, ◌||◌, List, [], ◌∷◌, Some, filter, refl, sym, ap, ◌∙◌, arith}
use Rattle.std.specs.Prelude.{◌↔◌, slice_get}
use Rattle.std.specs.List.{list_any}
use Rattle.std.proofs.lemmas.Grind.{common_steps}
use Rattle.device_types.specs.declared.input.Input.{Input}
use Rattle.device_types.specs.declared.session.Session.{Session}
use Rattle.device_types.specs.declared.session.Stage.{Stage}
use Rattle.device_types.specs.declared.session.Stage.TheVariants as stages
use Rattle.device_types.specs.declared.subscriber.Subscriber.{Subscriber}
use Rattle.device_types.specs.Awaited.{awaited_in, awaited_by}
use Rattle.device_types.specs.Journal.{is_awaited}
use Rattle.device_types.specs.Rule.{is_settled, settled, forbidden}
use Rattle.device_types.specs.StepLaws.{IsListed}
use Rattle.device_types.specs.StepTable.{fit_count, step_of}
use Rattle.device_types.proofs.Calls.{awaits_as_stage}

same : (n m : ℕ) → (n == m) ≡ true → n ≡ m
same n m h = grind (arith, common_steps)

here : (n : ℕ) → (n == n) ≡ true
here n = grind (arith, common_steps)

-- ---- areas

listed : (areas : List ℕ) (area : ℕ) → list_any (λ a. a == area) areas ≡ true → IsListed area areas
listed [] area h = absurd (cc)
listed (a ∷ areas) area h = first (a == area) refl (listed areas area) h
  where
    first : (b : Bool) → (a == area) ≡ b → (list_any (λ x. x == area) areas ≡ true → IsListed area areas) → (b || list_any (λ x. x == area) areas) ≡ true → IsListed area (a ∷ areas)
    first true e more h = (zero, ap Some (same a area e))
    first false e more h = let later = more h in (suc later.0, later.1)

found : (areas : List ℕ) (area i : ℕ) → slice_get areas i ≡ Some area → list_any (λ a. a == area) areas ≡ true
found [] area i h = absurd (cc)
found (a ∷ areas) area zero h = let is : a ≡ area = cc in rw (is, here area) refl
found (a ∷ areas) area (suc i) h = second (a == area) (found areas area i h)
  where
    second : (b : Bool) → list_any (λ x. x == area) areas ≡ true → (b || list_any (λ x. x == area) areas) ≡ true
    second true h = refl
    second false h = h

pub forbidden_listed : (row : Subscriber) (area : ℕ) → (forbidden row area ≡ true) ↔ IsListed area row.forbidden
forbidden_listed row area = (listed row.forbidden area, (λ at. found row.forbidden area at.0 at.1))

-- ---- settled sessions

settled_in : (stage : Stage) (s : Session) → (is_settled stage ≡ true) ↔ (awaited_in stage s ≡ [])
settled_in stages.AwaitVectors s = ((λ h. absurd (cc)), (λ h. absurd (cc)))
settled_in stages.AwaitLocation s = ((λ h. absurd (cc)), (λ h. absurd (cc)))
settled_in stages.AwaitCreate s = ((λ h. absurd (cc)), (λ h. absurd (cc)))
settled_in stages.AwaitModify s = ((λ h. absurd (cc)), (λ h. absurd (cc)))
settled_in stages.AwaitRelease s = ((λ h. absurd (cc)), (λ h. absurd (cc)))
settled_in stages.AwaitDelete s = ((λ h. absurd (cc)), (λ h. absurd (cc)))
settled_in stages.AwaitSecond s = ((λ h. absurd (cc)), (λ h. absurd (cc)))
settled_in stages.AwaitSecondModify s = ((λ h. absurd (cc)), (λ h. absurd (cc)))
settled_in _ s = ((λ h. refl), (λ h. refl))

pub settled_awaits_none : (s : Session) → (settled s ≡ true) ↔ (awaited_by s ≡ [])
settled_awaits_none s = settled_in s.stage s

pub settled_by_step : (row : Subscriber) (s : Session) (input : Input) → 1 ≤ fit_count row s input → (settled (step_of row s input).session ≡ true) ↔ (filter is_awaited (step_of row s input).effects ≡ [])
settled_by_step row s input fits =
    let t = step_of row s input in
    let law = settled_awaits_none t.session in
    let calls = awaits_as_stage row s input fits in
    ((λ h. calls ∙ law.0 h), (λ h. law.1 (sym calls ∙ h)))
