-- A step that a session takes in place.
use Rattle.std.specs.Prelude.{◌≡◌, List, Option, Some, None}
use Rattle.device_types.specs.Acts.{made}
use Rattle.device_types.specs.declared.effect.Effect.{Effect}
use Rattle.device_types.specs.declared.session.Session.{Session}
use Rattle.device_types.specs.declared.step.Step.{Step}

-- where there is a step, the session became its session, and its effects are given; where there is none, the session stayed
abbrev pub Takes : Session → Session → Option Step → Option (List Effect) → Type 0
Takes before after step (Some effects) = step ≡ Some (made after effects)
Takes before after step None = (step ≡ None) × (after ≡ before)
