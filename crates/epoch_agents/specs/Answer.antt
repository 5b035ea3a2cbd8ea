-- What an event comes to, as a function of the turns before it.
use Rattle.std.specs.Prelude.{◌≡◌, ℕ, ◌+◌, ◌≤◌, ◌==◌, ◌&&◌, nat_le, nat_lt, not, Bool, List, [], ◌∷◌, length, map, reverse, Option, Some, None, if◌then◌else◌}
use Rattle.std.specs.List.{fold}
use Rattle.device_types.specs.Numbers.{IsWithin}
use Rattle.epoch_agents.specs.declared.agent.Agent.{Agent}
use Rattle.epoch_agents.specs.declared.event.EpochAnswer.{EpochAnswer}
use Rattle.epoch_agents.specs.declared.event.EpochAnswer.TheVariants as told
use Rattle.epoch_agents.specs.declared.event.EpochEvent.{EpochEvent}
use Rattle.epoch_agents.specs.declared.event.EpochEvent.TheVariants.{Send, Arrive, Learn}
use Rattle.epoch_agents.specs.declared.heard.Heard.{Heard}
use Rattle.epoch_agents.specs.declared.stream.Stream.{Stream}
use Rattle.epoch_agents.specs.Counts.{Turn, heard, agent, on_link, merge}
use Rattle.epoch_agents.specs.Row.{row_answer}
use Rattle.epoch_agents.specs.Streams.{window, message_count}

-- the agent may send message n of so many
abbrev pub may_send : Agent → ℕ → ℕ → Bool
may_send agent long n = not agent.is_over && nat_lt agent.acked n && nat_le n (agent.acked + window) && nat_le n long

-- what an agent that has so many acknowledged makes of the answer to message n of its present name
abbrev pub makes_of : ℕ → ℕ → EpochAnswer → EpochAnswer
makes_of acked n (told.Committed v) = if nat_lt acked n then told.Acked n else told.Old
makes_of acked n (told.Repeat m) = if nat_lt acked n then told.Acked n else told.Old
makes_of acked n (told.Low stamp) = told.Renamed (stamp + 1)
makes_of acked n (told.OverAt t) = told.Over
makes_of acked n _ = told.Old

-- and of what it hears; of another name than its present one it makes nothing
abbrev pub hears : Agent → Heard → EpochAnswer
hears agent h = if agent.stamp == h.stamp then makes_of agent.acked h.n h.answer else told.Old

abbrev pub learn_answer : List Turn → Option Heard → EpochAnswer
learn_answer turns None = told.VoidLink
learn_answer turns (Some h) = hears (agent h.a turns) h

-- ---- every event

abbrev pub answer : List Stream → List Turn → EpochEvent → EpochAnswer
answer streams turns (Send a n) = if may_send (agent a turns) (message_count streams a) n then told.Sent else told.VoidWindow
answer streams turns (Arrive a stamp n) = if on_link a stamp n turns then row_answer streams (merge turns) a stamp n else told.VoidLink
answer streams turns (Learn i) = learn_answer turns (heard i turns)

-- ---- a list of events

abbrev pub turn : List Stream → List Turn → EpochEvent → List Turn
turn streams turns event = (event, answer streams turns event) ∷ turns

-- the turns of these events, which came in this order; the newest turn stands first
abbrev pub history : List Stream → List EpochEvent → List Turn
history streams events = fold (turn streams) [] events

-- their answers, in the order of the events
abbrev pub answers : List Stream → List EpochEvent → List EpochAnswer
answers streams events = reverse (map (λ t. t.1) (history streams events))

-- ---- what a world may be given

-- the event names a stream by its place, and a message from 1
abbrev pub IsEvent : List Stream → EpochEvent → Type 0
IsEvent streams (Send a n) = IsWithin (length streams) a × (1 ≤ n)
IsEvent streams (Arrive a stamp n) = IsWithin (length streams) a × (1 ≤ n)
IsEvent streams (Learn i) = Unit {0}

-- each turn has such an event, with its answer
abbrev pub Lawful : List Stream → List Turn → Type 0
Lawful streams [] = Unit {0}
Lawful streams (t ∷ turns) = IsEvent streams t.0 × (t.1 ≡ answer streams turns t.0) × Lawful streams turns
