-- The causes of a device are those of S1AP.
use Rattle.std.proofs.Common.{◌≡◌, ℕ, ◌<◌, Bool, true, false, refl}
use Rattle.std.specs.Prelude.{MatchBool}
use Rattle.device_types.specs.declared.cause.CauseCode.{CauseCode}
use Rattle.device_types.specs.Cause.{cause_roots, IsCauseCode}
use Rattle.s1ap_ies.specs.Run.{IsCause}
use Rattle.entry_edge.specs.Down.{cause_of}

right_index : (extended : Bool) (index roots : ℕ) → MatchBool extended (index < 64) (index < roots) → MatchBool extended ((true ≡ true) × (index < 64)) (index < roots)
right_index true index roots h = (refl, h)
right_index false index roots h = h

pub cause_right : (cause : CauseCode) → IsCauseCode cause → IsCause (cause_of cause)
cause_right cause h = (h.0, right_index cause.extended cause.index (cause_roots cause.group) h.1)

left_index : (extended : Bool) (index roots : ℕ) → MatchBool extended ((true ≡ true) × (index < 64)) (index < roots) → MatchBool extended (index < 64) (index < roots)
left_index true index roots h = h.1
left_index false index roots h = h

pub cause_left : (cause : CauseCode) → IsCause (cause_of cause) → IsCauseCode cause
cause_left cause h = (h.0, left_index cause.extended cause.index (cause_roots cause.group) h.1)
