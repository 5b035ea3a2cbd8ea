-- From what holds of each row that fits to what holds of the step.
use Rattle.std.proofs.Common.{◌≡◌, ℕ, ◌&&◌, Bool, true, false, cond, List, [], ◌∷◌, Option, Some, None, refl}
use Rattle.std.specs.Prelude.{unwrap_or, option_map, IfSome, IsSome, is_some}
use Rattle.std.specs.Option.{option_or}
use Rattle.std.proofs.lemmas.Option.{IfSome_then}
use Rattle.device_types.specs.declared.input.Answer.TheVariants.{Modified}
use Rattle.device_types.specs.declared.event.Lane.{Lane}
use Rattle.device_types.specs.declared.input.Input.{Input}
use Rattle.device_types.specs.declared.input.Input.TheVariants as inputs
use Rattle.device_types.specs.declared.session.Bearer.TheVariants.{Active}
use Rattle.device_types.specs.declared.session.Session.{Session}
use Rattle.device_types.specs.declared.session.Stage.TheVariants.{AwaitModify, Connected}
use Rattle.device_types.specs.declared.step.Step.{Step}
use Rattle.device_types.specs.declared.subscriber.Subscriber.{Subscriber}
use Rattle.device_types.specs.Acts.{made, run}
use Rattle.device_types.specs.Rule.{Rule, fitting, at}
use Rattle.device_types.specs.Second.{second_rules, changed, second_of, has_both, HasBoth}
use Rattle.device_types.specs.StepTable.{step_table, table_step, step_of}

pub both : (a b : Bool) → (a && b) ≡ true → (a ≡ true) × (b ≡ true)
both true b h = (refl, h)
both false b h = absurd (cc)

-- P holds of the step of each row that fits
abbrev pub RulesMake : (Step → Type 0) → Session → List Rule → Type 0
RulesMake P s [] = Unit {0}
RulesMake P s (r ∷ rs) = (r.fits ≡ true → P (run r.acts s)) × RulesMake P s rs

pub made_by : (P : Step → Type 0) (s : Session) (rs : List Rule) → RulesMake P s rs → IfSome (fitting rs s) P
made_by P s [] k = tt
made_by P s (r ∷ rs) k =
    elim r.fits as (λ b. (b ≡ true → P (run r.acts s)) → IfSome (cond b (Some (run r.acts s)) (fitting rs s)) P)
    [ true ↦ (λ h. h refl) | false ↦ (λ h. made_by P s rs k.1) ]
    k.0

pub more_make : (P Q : Step → Type 0) (s : Session) (rs : List Rule) → ((step : Step) → P step → Q step) → RulesMake P s rs → RulesMake Q s rs
more_make P Q s [] f k = tt
more_make P Q s (r ∷ rs) f k = ((λ h. f (run r.acts s) (k.0 h)), more_make P Q s rs f k.1)

pub of_some : (P : Step → Type 0) (step : Option Step) (other : Step) → P (unwrap_or step other) → IfSome step P
of_some P None other h = tt
of_some P (Some step) other h = h

pub some_of : (P : Step → Type 0) (step : Option Step) (other : Step) → IfSome step P → P other → P (unwrap_or step other)
some_of P None other h o = o
some_of P (Some step) other h o = h

either_of : (P : Step → Type 0) (s : Session) (input : Input) (own base : Option Step) → IfSome own P → IfSome base (λ step. P (changed s input step)) → IfSome (option_or own (option_map (changed s input) base)) P
either_of P s input None None o b = tt
either_of P s input None (Some step) o b = b
either_of P s input (Some step) base o b = o

-- the rows of a second connection, and the changes of those of the step table
pub second_makes : (P : Step → Type 0) (row : Subscriber) (s : Session) (input : Input) → RulesMake P s (second_rules row s input) → IfSome (table_step row s input) (λ step. P (changed s input step)) → IfSome (second_of row s input (table_step row s input)) P
second_makes P row s input own base = either_of P s input (fitting (second_rules row s input) s) (table_step row s input) (made_by P s (second_rules row s input) own) base

pub step_makes : (P : Step → Type 0) (row : Subscriber) (s : Session) (input : Input) → IfSome (second_of row s input (table_step row s input)) P → P (made s []) → P (step_of row s input)
unfolding step_of
step_makes P row s input h same = some_of P (second_of row s input (table_step row s input)) (made s []) h same

-- what holds of a step whatever fits, and of each change of it
pub laws_make : (P Q : Step → Type 0) (row : Subscriber) (s : Session) (input : Input) → RulesMake Q s (second_rules row s input) → P (unwrap_or (table_step row s input) (made s [])) → ((step : Step) → P step → Q (changed s input step)) → Q (made s []) → Q (step_of row s input)
laws_make P Q row s input own base change same =
    let some = of_some P (table_step row s input) (made s []) base in
    step_makes Q row s input (second_makes Q row s input own (IfSome_then (table_step row s input) some change)) same

-- a step that may be changed
pub changed_or : (P : Step → Type 0) (b : Bool) (step other : Step) → P step → (b ≡ false → P other) → P (cond b step other)
changed_or P true step other h k = h
changed_or P false step other h k = k refl

pub one_of : (P : Step → Type 0) (b : Bool) (step other : Step) → P step → P other → P (cond b step other)
one_of P true step other h k = h
one_of P false step other h k = k

-- the step of the gateway's answer that ends a service request or an attach
abbrev pub served_step : Session → Step
served_step s = made (record s { bearer = Active; registered = true; stage = Connected }) []

pub modified_makes : (P : Step → Type 0) (row : Subscriber) (s : Session) (lane : Lane) (k : ℕ) → (at AwaitModify s ≡ true → P (served_step s)) → IfSome (table_step row s (inputs.Answer lane k Modified)) P
unfolding step_table
modified_makes P row s lane k h = made_by P s (step_table row s (inputs.Answer lane k Modified)) (h, tt)

-- ---- a row with an access point name and an address for a second connection

pub both_there : (row : Subscriber) → has_both row ≡ true → HasBoth row
both_there row h = by_parts row.apn2 row.ip2 h
  where
    by_parts : {A B : Type 0} (a : Option A) (b : Option B) → (is_some a && is_some b) ≡ true → IsSome a × IsSome b
    by_parts None b e = absurd (cc)
    by_parts (Some x) None e = absurd (cc)
    by_parts (Some x) (Some y) e = (refl, refl)
