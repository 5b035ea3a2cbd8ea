-- What the code keeps.
use Rattle.std.specs.Prelude.{◌≡◌, ℕ, ◌+◌, ◌≤◌, List, ◌++◌, length, count_by, All}
use Rattle.std.specs.BTreeMap.{BTreeMap}
use Rattle.epoch_agents.specs.declared.event.EpochAnswer.{EpochAnswer}
use Rattle.epoch_agents.specs.declared.event.EpochEvent.{EpochEvent}
use Rattle.epoch_agents.specs.declared.stream.Stream.{Stream}
use Rattle.epoch_agents.specs.Answer.{IsEvent}
use Rattle.epoch_agents.specs.Kept.{value_or}
use Rattle.epoch_agents.specs.World.{WorldState, Answers, turns_in}
use Rattle.report_text.specs.Epochs.{epoch_line}
use Rattle.epoch_run.specs.Drawn.{Drawn, and_some, arrival_of, arrivals, event_drawn, course_of}
use Rattle.epoch_run.specs.Streams.{IsNew, is_of_station}

-- how many of these streams each station has
abbrev pub AreCounts : List Stream → BTreeMap ℕ ℕ → Type 0
AreCounts streams counts = (station : ℕ) → value_or counts station 0 ≡ count_by (is_of_station station) streams

-- events can be drawn of these streams
pub record AreDrawable (streams : List Stream) : Type 0 where
  pub some : 1 ≤ length streams
  pub few : length streams ≤ 100000
  pub each : All IsNew streams

-- the world, the draws and what may arrive, behind so many events of these streams, drawn from that number
pub record IsCourse (streams : List Stream) (number events : ℕ) (world : WorldState) (state : ℕ) (may_arrive : List EpochEvent) : Type 0 where
  pub of_streams : world.streams ≡ streams
  pub turns : turns_in world ≡ (course_of streams number events).turns
  pub count : length world.events ≡ events
  pub state_is : state ≡ (course_of streams number events).state
  pub arrivals_are : may_arrive ≡ arrivals (course_of streams number events).turns
  pub lawful : All (IsEvent streams) may_arrive

-- the world took an event and gave this answer, and what it put on the link may arrive
pub record Takes (old new : WorldState) (before after : List EpochEvent) (event : EpochEvent) (given : EpochAnswer) : Type 0 where
  pub answers : Answers old new event given
  pub arrives : after ≡ and_some before (arrival_of (turns_in new) (event, given))

-- the event that is next is drawn
abbrev pub next_of : WorldState → List EpochEvent → ℕ → Drawn
next_of world may_arrive x = event_drawn world.streams may_arrive (length world.events + 1) x

-- the world took the event that was drawn
pub record Steps (old new : WorldState) (x y : ℕ) (before after : List EpochEvent) (given : EpochAnswer) : Type 0 where
  pub takes : Takes old new before after (next_of old before x).event given
  pub state_is : y ≡ (next_of old before x).state

-- and the line of the answer is behind the text
pub record IsTold (old new : WorldState) (x y : ℕ) (before after : List EpochEvent) (text more : List ℕ) : Type 0 where
  pub given : EpochAnswer
  pub steps : Steps old new x y before after given
  pub line : more ≡ text ++ epoch_line (length old.events + 1) given
