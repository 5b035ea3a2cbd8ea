-- Where what a replica holds comes from, as a sentence over the whole list of turns. The newest turn stands first.
use Rattle.std.specs.Prelude.{◌≡◌, ◌==◌, ℕ, Bool, false, if◌then◌else◌, List, ◌∷◌, ◌++◌, Option, Some, None}
use Rattle.std.specs.List.{AllByRecursion}
use Rattle.device_types.specs.declared.event.Event.TheVariants.{Take, Answer, Read, Write, Stop}
use Rattle.device_types.specs.declared.event.EventAnswer.{EventAnswer}
use Rattle.device_types.specs.declared.event.EventAnswer.TheVariants as told
use Rattle.schedule_laws.specs.Counts.{Turn, Arrival}
use Rattle.schedule_laws.specs.Counts.Arrival.{TheMessage, TheAnswer}

-- what the turn brings to replica r, and of which device
abbrev pub brought : ℕ → Turn → Option (ℕ × Arrival)
brought r (Take q d n, told.Taken) = if q == r then Some (d.0, TheMessage n) else None
brought r (Answer q d lane k, told.Taken) = if q == r then Some (d.0, TheAnswer lane k) else None
brought r _ = None

-- replica r stops, or a write of it comes to something: the step is committed, or another one was
abbrev pub ends : ℕ → Turn → Bool
ends r (Stop q, told.Stopped) = q == r
ends r (Write q, told.Committed version) = q == r
ends r (Write q, told.Stale read current) = q == r
ends r _ = false

-- what the read of replica r was told
abbrev pub was_told : ℕ → Turn → Option EventAnswer
was_told r (Read q, a) = if q == r then Some a else None
was_told r _ = None

-- the turn brings the replica nothing, and takes nothing from it
abbrev pub IsBetween : ℕ → Turn → Type 0
IsBetween r t = (brought r t ≡ None) × (ends r t ≡ false)

-- what arrived of device d came to replica r with the origin, and nothing behind that brought it anything else, or took it away
pub record IsFrom (r d : ℕ) (what : Arrival) (turns : List Turn) : Type 0 where
  pub after : List Turn
  pub origin : Turn
  pub before : List Turn
  pub parts : after ++ origin ∷ before ≡ turns
  pub brings : brought r origin ≡ Some (d, what)
  pub between : AllByRecursion (IsBetween r) after

-- the last read of replica r among these turns was told so
pub record IsLastRead (r : ℕ) (a : EventAnswer) (turns : List Turn) : Type 0 where
  pub after : List Turn
  pub read : Turn
  pub before : List Turn
  pub parts : after ++ read ∷ before ≡ turns
  pub tells : was_told r read ≡ Some a
  pub none : AllByRecursion (λ t. was_told r t ≡ None) after

-- and the last read behind the origin found it ready at that version
abbrev pub IsReadySince : ℕ → ℕ → Arrival → ℕ → List Turn → Type 0
IsReadySince r d what version turns = (from : IsFrom r d what turns) × IsLastRead r (told.Ready version) from.after
