-- The fields of a world, and what holds of them.
use Rattle.epoch_agents.specs.declared.world.EpochWorld.TheInside.{Inside}
use Rattle.epoch_agents.specs.Kept.{IsWorld}
use Rattle.epoch_agents.specs.World.{WorldState, events_of}

abbrev pub view_of : Inside → WorldState
view_of w = record { streams = w.streams.items; events = events_of w.turns.items }

abbrev pub IsInside : Inside → Type 0
IsInside w = IsWorld w.streams.items w.turns.items w.agents w.taken w.sent w.merged.items
