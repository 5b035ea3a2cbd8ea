-- What became of the devices of a world.
use Rattle.std.specs.Prelude.{ℕ, List, length, map}
use Rattle.std.specs.List.{filter_map, range_with_len}
use Rattle.device_types.specs.declared.event.Lane.TheVariants.{Down, Gateway, Subscriber}
use Rattle.device_types.specs.declared.finals.DeviceEnd.{DeviceEnd}
use Rattle.device_types.specs.Journal.{version_of, session_of, taken_count}
use Rattle.device_machine.specs.Ends.{down_in, gateway_in, subscriber_in}
use Rattle.link_schedule.specs.Settled.{turns_in, journal_in}
use Rattle.link_schedule.specs.World.{WorldState, accepted_effects}

-- of device d: the messages that were taken, the steps that were committed, what was accepted of each lane, and the session
abbrev pub end_in : WorldState → ℕ → DeviceEnd
end_in w d = record {
  messages = taken_count (journal_in w d);
  steps = version_of (journal_in w d);
  downs = filter_map down_in (accepted_effects w.setting Down (turns_in w) d);
  gateway = filter_map gateway_in (accepted_effects w.setting Gateway (turns_in w) d);
  subscriber = filter_map subscriber_in (accepted_effects w.setting Subscriber (turns_in w) d);
  session = session_of (journal_in w d);
}

-- of each, in the order of their numbers
abbrev pub finals_in : WorldState → List DeviceEnd
finals_in w = map (end_in w) (range_with_len 1 (length w.setting.rows))
