-- The events of a schedule.
use Rattle.std.specs.Prelude.{ℕ}
use Rattle.device_types.specs.declared.event.Lane.{Lane}
use Rattle.device_types.specs.declared.event.Lane.TheVariants as lane
use Rattle.device_types.specs.declared.event.Event.{Event}
use Rattle.device_types.specs.declared.event.Event.TheVariants as event
use Rattle.device_types.specs.Numbers.{IsWithin}

-- a lane of calls, which are answered
abbrev pub IsCallLane : Lane → Type 0
IsCallLane lane.Down = ⊥
IsCallLane lane.Gateway = Unit {0}
IsCallLane lane.Subscriber = Unit {0}

-- the numbers of an event are in their limits, where there are so many rows, and an answer is that to a call
abbrev pub IsInForm : ℕ → Event → Type 0
IsInForm rows (event.Send d n) = IsWithin rows d.0 × IsWithin 4294967295 n
IsInForm rows (event.Take r d n) = IsWithin 16 r × IsWithin rows d.0 × IsWithin 4294967295 n
IsInForm rows (event.Answer r d lane k) = IsWithin 16 r × IsWithin rows d.0 × IsCallLane lane × IsWithin 4294967295 k
IsInForm rows (event.Read r) = IsWithin 16 r
IsInForm rows (event.Write r) = IsWithin 16 r
IsInForm rows (event.Stop r) = IsWithin 16 r
IsInForm rows (event.Reply d n) = IsWithin rows d.0 × IsWithin 4294967295 n
IsInForm rows (event.Push d lane k) = IsWithin rows d.0 × IsWithin 4294967295 k
IsInForm rows (event.Effect d lane k) = IsWithin rows d.0 × IsWithin 4294967295 k
IsInForm rows (event.Settle d lane k) = IsWithin rows d.0 × IsWithin 4294967295 k
