-- What an event finds, by looking back over the turns before it. The newest turn stands first.
use Rattle.std.specs.Prelude.{ℕ, suc, ◌==◌, ◌&&◌, ◌||◌, Bool, true, false, List, [], ◌∷◌, ◌++◌, length, Option, Some, None, if◌then◌else◌}
use Rattle.epoch_agents.specs.declared.agent.Agent.{Agent}
use Rattle.epoch_agents.specs.declared.event.EpochAnswer.{EpochAnswer}
use Rattle.epoch_agents.specs.declared.event.EpochAnswer.TheVariants as told
use Rattle.epoch_agents.specs.declared.event.EpochEvent.{EpochEvent}
use Rattle.epoch_agents.specs.declared.event.EpochEvent.TheVariants.{Send, Arrive, Learn}
use Rattle.epoch_agents.specs.declared.heard.Heard.{Heard}
use Rattle.epoch_agents.specs.declared.stream.Merged.{Merged}

-- an event with its answer
abbrev pub Turn : Type 0
Turn = EpochEvent × EpochAnswer

-- ---- what an answer says

abbrev pub is_sent : EpochAnswer → Bool
is_sent told.Sent = true
is_sent _ = false

abbrev pub is_off_link : EpochAnswer → Bool
is_off_link told.VoidLink = true
is_off_link _ = false

abbrev pub is_committed : EpochAnswer → Bool
is_committed (told.Committed v) = true
is_committed _ = false

-- ---- what an agent hears, and what it knows

-- what a turn has for the agent of a stream: an arrival with its answer, where the message was on the link
abbrev pub heard_of : Turn → Option Heard
heard_of (Arrive a stamp n, answer) = if is_off_link answer then None else Some (record { a = a; stamp = stamp; n = n; answer = answer })
heard_of _ = None

-- what event i has for an agent
abbrev pub heard : ℕ → List Turn → Option Heard
heard i [] = None
heard i (t ∷ turns) = if i == suc (length turns) then heard_of t else heard i turns

-- it is for the agent of stream a
abbrev pub is_for : ℕ → Option Heard → Bool
is_for a None = false
is_for a (Some h) = a == h.a

-- what the agent knows after an answer of its own
abbrev pub learnt : EpochAnswer → Agent → Agent
learnt (told.Acked n) agent = record agent { acked = n }
learnt (told.Renamed stamp) agent = record agent { stamp = stamp }
learnt told.Over agent = record agent { is_over = true }
learnt _ agent = agent

-- before any event
abbrev pub fresh_agent : Agent
fresh_agent = record { stamp = 1; acked = 0; is_over = false }

-- what the agent of stream a knows: the stamp of its name, the last message that is acknowledged, and whether the stream is over
abbrev pub agent : ℕ → List Turn → Agent
agent a [] = fresh_agent
agent a ((Learn i, answer) ∷ turns) = if is_for a (heard i turns) then learnt answer (agent a turns) else agent a turns
agent a ((_, answer) ∷ turns) = agent a turns

-- ---- the link, and the merge

-- message n of stream a is on the link, under that stamp
abbrev pub on_link : ℕ → ℕ → ℕ → List Turn → Bool
on_link a stamp n [] = false
on_link a stamp n ((Send b m, answer) ∷ turns) = (is_sent answer && (a == b) && (n == m) && (stamp == (agent b turns).stamp)) || on_link a stamp n turns
on_link a stamp n ((_, answer) ∷ turns) = on_link a stamp n turns

-- the messages that were committed, in that order
abbrev pub merge : List Turn → List Merged
merge [] = []
merge ((Arrive a stamp n, answer) ∷ turns) = if is_committed answer then merge turns ++ record { a = a; stamp = stamp; n = n } ∷ [] else merge turns
merge ((_, answer) ∷ turns) = merge turns
