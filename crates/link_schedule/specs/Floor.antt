-- Where a schedule is run: what a floor runs on, what it was given, and what it ends with.
use Rattle.std.specs.Prelude.{◌≡◌, ◌≤◌, Bool, true, List, length, map, reverse, All, Option, Some, None}
use Rattle.std.specs.List.{AllZip}
use Rattle.device_types.specs.declared.event.Event.{Event}
use Rattle.device_types.specs.declared.finals.DeviceEnd.{DeviceEnd}
use Rattle.device_types.specs.Finals.{IsEndOf}
use Rattle.device_machine.specs.Ends.{finals_of}
use Rattle.schedule_laws.specs.Answer.{history, IsEvent}
use Rattle.schedule_laws.specs.Counts.{Turn}
use Rattle.schedule_laws.specs.Setting.{Setting}

-- the events of turns
abbrev pub events_of : List Turn → List Event
events_of given = map (λ turn. turn.0) given

-- each event, in the order in which they came, has the answer of the definition, for the events before it
abbrev pub AreAnswered : Setting → List Turn → Type 0
AreAnswered s given = given ≡ reverse (history s (events_of given))

-- a floor is open where it has a setting
abbrev pub IsOpen : Option Setting → Type 0
IsOpen None = ⊥
IsOpen (Some s) = Unit {0}

-- an event that an open floor may be given
abbrev pub IsEventOn : Option Setting → Event → Type 0
IsEventOn None event = ⊥
IsEventOn (Some s) event = IsEvent s event

-- of all there are no more than the machine of a device makes
pub record IsEnd (end : DeviceEnd) : Type 0 where
  pub few_messages : end.messages ≤ 300000
  pub few_steps : end.steps ≤ 300000
  pub few_downs : length end.downs ≤ 1200000
  pub few_gateway : length end.gateway ≤ 1200000
  pub few_subscriber : length end.subscriber ≤ 1200000

-- what became of the devices of a setting: an end for each row, whose messages can be written; on an exact floor that of the machine that
-- never fails
pub record EndsOn (s : Setting) (exact : Bool) (ends : List DeviceEnd) : Type 0 where
  pub count : length ends ≡ length s.rows
  pub in_form : All IsEnd ends
  pub written : AllZip IsEndOf s.rows ends
  pub definition : exact ≡ true → ends ≡ finals_of s.rows s.book

abbrev pub AreEndsOn : Option Setting → Bool → List DeviceEnd → Type 0
AreEndsOn None exact ends = ⊥
AreEndsOn (Some s) exact ends = EndsOn s exact ends
