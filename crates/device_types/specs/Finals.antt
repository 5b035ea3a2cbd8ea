-- What became of a device.
use Rattle.std.specs.Prelude.{All}
use Rattle.device_types.specs.declared.finals.DeviceEnd.{DeviceEnd}
use Rattle.device_types.specs.declared.subscriber.Subscriber.{Subscriber}
use Rattle.device_types.specs.Down.{IsDown}

-- the messages to the device of this row can be written
abbrev pub IsEndOf : Subscriber → DeviceEnd → Type 0
IsEndOf row end = All (IsDown row) end.downs
