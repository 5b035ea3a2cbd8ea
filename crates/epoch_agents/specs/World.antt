-- A world of streams, and what an event does to it.
use Rattle.std.specs.Prelude.{◌≡◌, List, [], ◌∷◌, ◌++◌, map}
use Rattle.epoch_agents.specs.declared.event.EpochAnswer.{EpochAnswer}
use Rattle.epoch_agents.specs.declared.event.EpochEvent.{EpochEvent}
use Rattle.epoch_agents.specs.declared.stream.Stream.{Stream}
use Rattle.epoch_agents.specs.Answer.{answer, history}
use Rattle.epoch_agents.specs.Counts.{Turn}

-- the streams of a world, and the events that it has taken, in order
pub record WorldState : Type 0 where
  pub streams : List Stream
  pub events : List EpochEvent

-- its turns
abbrev pub turns_in : WorldState → List Turn
turns_in world = history world.streams world.events

-- the events of turns that stand in the order in which they came
abbrev pub events_of : List Turn → List EpochEvent
events_of turns = map (λ t. t.0) turns

-- the world took an event, and gave this answer
pub record Answers (old new : WorldState) (event : EpochEvent) (given : EpochAnswer) : Type 0 where
  pub same : new.streams ≡ old.streams
  pub more : new.events ≡ old.events ++ event ∷ []
  pub answered : given ≡ answer old.streams (turns_in old) event
