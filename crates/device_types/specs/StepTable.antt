-- The step table (after TS 23.401), and the step that follows from it and from the rows of a second connection.
use Rattle.std.specs.Prelude.{◌≡◌, ◌⊎◌, ℕ, true, List, [], ◌∷◌, ◌++◌, Option, unwrap_or}
use Rattle.std.specs.List.{count_by}
use Rattle.device_types.specs.declared.input.Input.{Input}
use Rattle.device_types.specs.declared.input.Input.TheVariants as inputs
use Rattle.device_types.specs.declared.session.Session.{Session}
use Rattle.device_types.specs.declared.step.Step.{Step}
use Rattle.device_types.specs.declared.subscriber.Subscriber.{Subscriber}
use Rattle.device_types.specs.Acts.{made, run}
use Rattle.device_types.specs.AreaUpdate.{area_message}
use Rattle.device_types.specs.Attach.{attach_message, attach_answer}
use Rattle.device_types.specs.Detach.{detach_message, detach_answer}
use Rattle.device_types.specs.Rule.{Rule, fitting}
use Rattle.device_types.specs.Second.{second_rules, second_of}
use Rattle.device_types.specs.Service.{service_message, service_answer}

-- the rows of each procedure for an input
abbrev pub attach_rules : Subscriber → Session → Input → List Rule
attach_rules row s (inputs.Message m) = attach_message row s m m.body
attach_rules row s (inputs.Answer lane k answer) = attach_answer s answer

abbrev pub service_rules : Session → Input → List Rule
service_rules s (inputs.Message m) = service_message s m m.body
service_rules s (inputs.Answer lane k answer) = service_answer s answer

abbrev pub area_rules : Subscriber → Session → Input → List Rule
area_rules row s (inputs.Message m) = area_message row s m m.body
area_rules row s (inputs.Answer lane k answer) = []

abbrev pub detach_rules : Session → Input → List Rule
detach_rules s (inputs.Message m) = detach_message s m m.body
detach_rules s (inputs.Answer lane k answer) = detach_answer s answer

unfoldable pub step_table : Subscriber → Session → Input → List Rule
step_table row s input = attach_rules row s input ++ service_rules s input ++ area_rules row s input ++ detach_rules s input

-- the step of the row that fits, if one does
abbrev pub table_step : Subscriber → Session → Input → Option Step
table_step row s input = fitting (step_table row s input) s

-- the step; where no row fits, the session as before and no effects
unfoldable pub step_of : Subscriber → Session → Input → Step
step_of row s input = unwrap_or (second_of row s input (table_step row s input)) (made s [])

-- ---- the tables as a relation

-- how many rows fit, those of a second connection among them
abbrev pub fit_count : Subscriber → Session → Input → ℕ
fit_count row s input = count_by (λ r. r.fits) (second_rules row s input ++ step_table row s input)

-- some row fits, and this is its step
abbrev pub Follows : List Rule → Session → Step → Type 0
Follows [] s step = ⊥
Follows (r ∷ rs) s step = ((r.fits ≡ true) × (step ≡ run r.acts s)) ⊎ Follows rs s step
