-- Events of streams that are drawn, each by the answers to those before it.
use Rattle.std.specs.Prelude.{ℕ, zero, suc, ◌+◌, ◌==◌, List, [], ◌∷◌, ◌++◌, length, slice_index_or, Option, Some, None, if◌then◌else◌}
use Rattle.epoch_agents.specs.declared.event.EpochAnswer.TheVariants as told
use Rattle.epoch_agents.specs.declared.event.EpochEvent.{EpochEvent}
use Rattle.epoch_agents.specs.declared.event.EpochEvent.TheVariants.{Send, Arrive, Learn}
use Rattle.epoch_agents.specs.declared.stream.Stream.{Stream}
use Rattle.epoch_agents.specs.Answer.{turn}
use Rattle.epoch_agents.specs.Counts.{Turn, agent}
use Rattle.epoch_agents.specs.Streams.{message_count}
use Rattle.trace_gen.specs.Draws.{next_state, value}

-- ---- what may arrive

-- what a turn puts on the link, behind the turns before it: the arrival of the message that was sent
abbrev pub arrival_of : List Turn → Turn → Option EpochEvent
arrival_of turns (Send a n, told.Sent) = Some (Arrive a (agent a turns).stamp n)
arrival_of turns _ = None

abbrev pub and_some : List EpochEvent → Option EpochEvent → List EpochEvent
and_some events None = events
and_some events (Some event) = events ++ event ∷ []

-- an arrival for each send that was answered sent, in order
abbrev pub arrivals : List Turn → List EpochEvent
arrivals [] = []
arrivals (t ∷ turns) = and_some (arrivals turns) (arrival_of turns t)

-- ---- one event

-- an event, and the state of the draws behind it
pub record Drawn : Type 0 where
  pub event : EpochEvent
  pub state : ℕ

-- a stream is drawn, and then one of its messages
abbrev pub send_drawn : List Stream → ℕ → Drawn
send_drawn streams x =
    let a = value (length streams) (next_state x) + 1 in
    let y = next_state x in
    record { event = Send a (value (message_count streams a) (next_state y) + 1); state = next_state y }

-- what arrives while nothing is on the link: the first message, which is void
abbrev pub first_arrival : EpochEvent
first_arrival = Arrive 1 1 1

-- one of these arrivals; where there is none, nothing is drawn
abbrev pub arrival_drawn : List EpochEvent → ℕ → Drawn
arrival_drawn [] x = record { event = first_arrival; state = x }
arrival_drawn (event ∷ events) x = record { event = slice_index_or (event ∷ events) (value (length (event ∷ events)) (next_state x)) first_arrival; state = next_state x }

-- one of the events from 1 to i
abbrev pub learn_drawn : ℕ → ℕ → Drawn
learn_drawn i x = record { event = Learn (value i (next_state x) + 1); state = next_state x }

-- event i, from 1, where these may arrive: its kind is drawn first
abbrev pub event_by : ℕ → List Stream → List EpochEvent → ℕ → ℕ → Drawn
event_by kind streams arrivals i x =
    if kind == 0 then send_drawn streams x
    else if kind == 1 then arrival_drawn arrivals x
    else learn_drawn i x

unfoldable pub event_drawn : List Stream → List EpochEvent → ℕ → ℕ → Drawn
event_drawn streams arrivals i x = event_by (value 3 (next_state x)) streams arrivals i (next_state x)

-- ---- a list of events

-- turns, the newest first, and the state of the draws behind them
pub record Course : Type 0 where
  pub turns : List Turn
  pub state : ℕ

abbrev pub next_drawn : List Stream → Course → Drawn
next_drawn streams course = event_drawn streams (arrivals course.turns) (length course.turns + 1) course.state

-- with one event more
abbrev pub and_event : List Stream → Course → Course
and_event streams course = record {
  turns = turn streams course.turns (next_drawn streams course).event;
  state = (next_drawn streams course).state;
}

-- so many events of these streams, drawn from a number
abbrev pub course_of : List Stream → ℕ → ℕ → Course
course_of streams number zero = record { turns = []; state = number }
course_of streams number (suc n) = and_event streams (course_of streams number n)
