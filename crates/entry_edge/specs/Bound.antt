-- When a pair is bound, as a look back over the turns before a line.
use Rattle.std.specs.Prelude.{◌≡◌, ℕ, ◌==◌, ◌&&◌, ◌||◌, Bool, true, false, not, List, ◌∷◌, ◌++◌, Option, Some, None, if◌then◌else◌}
use Rattle.std.specs.List.{AllByRecursion}
use Rattle.device_types.specs.declared.subscriber.DeviceId.{DeviceId}
use Rattle.entry_edge.specs.declared.check.Taken.{Taken}
use Rattle.entry_edge.specs.Trace.{Turn, Admitted, Refused, Pair, pair_of, same_pair, binds, frees, left_by}

-- an admitted InitialUEMessage or UEContextReleaseComplete on the pair
abbrev pub touches : Pair → Turn → Bool
touches pair (Refused r) = false
touches pair (Admitted t) = same_pair (pair_of t) pair && (binds t || frees t)

-- an admitted InitialUEMessage of the device on another pair
abbrev pub moves : ℕ → Pair → Turn → Bool
moves d pair (Refused r) = false
moves d pair (Admitted t) = (binds t && t.device.0 == d) && not (same_pair (pair_of t) pair)

-- The last admitted line that is an InitialUEMessage or a UEContextReleaseComplete on the pair is an InitialUEMessage of the device, and no later one is an InitialUEMessage of the device on another pair.
pub record IsBound (H : List Turn) (pair : Pair) (d : DeviceId) : Type 0 where
  pub newer : List Turn
  pub older : List Turn
  pub t : Taken
  pub history : H ≡ newer ++ Admitted t ∷ older
  pub opens : binds t ≡ true
  pub on : same_pair (pair_of t) pair ≡ true
  pub of : t.device ≡ d
  pub last : AllByRecursion (λ u. touches pair u ≡ false) newer
  pub stays : AllByRecursion (λ u. moves d.0 pair u ≡ false) newer

-- what a device's message on another pair leaves of a pair: the device is there no longer
abbrev pub without : DeviceId → Option DeviceId → Option DeviceId
without d None = None
without d (Some e) = if d.0 == e.0 then None else Some e

-- what an admitted message makes of the binding of a pair
abbrev pub bound_after : Taken → Pair → Option DeviceId → Option DeviceId
bound_after t pair before = if same_pair (pair_of t) pair then left_by t before else (if binds t then without t.device before else before)
