-- What the code keeps of a history.
use Rattle.std.specs.Prelude.{◌≡◌, ℕ, ◌+◌, ◌-◌, ◌<◌, ◌==◌, Bool, false, List, [], length, Option, Some, None, IfSome, slice_index_or, slice_set, if◌then◌else◌}
use Rattle.std.specs.Ordering.{nat_cmp, ordering_then}
use Rattle.std.specs.declared.cmp.Ordering.{Ordering}
use Rattle.std.specs.BTreeMap.{BTreeMap, get}
use Rattle.device_types.specs.declared.subscriber.DeviceId.{DeviceId}
use Rattle.device_types.specs.declared.subscriber.Subscriber.{Subscriber}
use Rattle.device_types.specs.declared.message.Message.{Message}
use Rattle.device_types.specs.Numbers.{IsWithin}
use Rattle.entry_edge.specs.declared.bindings.Bindings.{Bindings}
use Rattle.entry_edge.specs.declared.admission.Admission.{Admission}
use Rattle.entry_edge.specs.Trace.{Turn, Pair, opened, is_there, bound, messages_of, refused_of}

abbrev pub pair_cmp : Pair → Pair → Ordering
pair_cmp p q = ordering_then (nat_cmp p.0 q.0) (nat_cmp p.1 q.1)

-- is it the device of that number?
abbrev pub is_device : ℕ → Option DeviceId → Bool
is_device number None = false
is_device number (Some d) = d.0 == number

-- each device of the map is one of so many rows
abbrev pub AreRows : ℕ → BTreeMap Pair DeviceId → Type 0
AreRows rows m = (pair : Pair) → IfSome (get pair_cmp m pair) (λ d. IsWithin rows d.0)

-- the places, where the device that opened the pair last is on it no longer
abbrev pub left : Pair → Option DeviceId → List (Option Pair) → List (Option Pair)
left pair None places = places
left pair (Some d) places = if is_there pair (slice_index_or places (d.0 - 1) None) then slice_set places (d.0 - 1) None else places

-- The map is the look back to who opened a pair last, and the place of a device has the pair that is bound to it.
pub record Keeps (rows : ℕ) (H : List Turn) (b : Bindings) : Type 0 where
  pub opened : (pair : Pair) → get pair_cmp b.opened pair ≡ opened pair H
  pub within : AreRows rows b.opened
  pub count : length b.places.items ≡ rows
  pub places : (pair : Pair) (d : ℕ) → IsWithin rows d → is_there pair (slice_index_or b.places.items (d - 1) None) ≡ is_device d (bound pair H)

-- the lines are those of the devices, by their numbers
pub record AreLines (devices : ℕ) (H : List Turn) (lines : List (List Message)) : Type 0 where
  pub count : length lines ≡ devices
  pub at : (i : ℕ) → i < devices → slice_index_or lines i [] ≡ messages_of (i + 1) H

-- what is kept is what came of the lines so far
pub record IsSeen (rows : List Subscriber) (H : List Turn) (s : Admission) : Type 0 where
  pub bindings : Keeps (length rows) H s.bindings
  pub lines : AreLines (length rows) H s.lines.items
  pub refused : s.refused.items ≡ refused_of H
