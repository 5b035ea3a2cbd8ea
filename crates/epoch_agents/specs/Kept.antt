-- What a world keeps of its turns: a value for each place of a stream, and a set of the messages on the link.
use Rattle.std.specs.Prelude.{◌≡◌, ℕ, List, unwrap_or, reverse}
use Rattle.std.specs.BTreeMap.{BTreeMap, get}
use Rattle.std.specs.BTreeSet.{BTreeSet, contains}
use Rattle.std.specs.Ordering.{nat_cmp}
use Rattle.epoch_agents.specs.declared.agent.Agent.{Agent}
use Rattle.epoch_agents.specs.declared.stream.Merged.{Merged}
use Rattle.epoch_agents.specs.declared.stream.Stream.{Stream}
use Rattle.epoch_agents.specs.Answer.{Lawful}
use Rattle.epoch_agents.specs.Counts.{Turn, fresh_agent, agent, on_link, merge}
use Rattle.epoch_agents.specs.Row.{count_of}
use Rattle.epoch_agents.specs.Streams.{triple_cmp}

-- the value at a place, or this one
abbrev pub value_or : {X : Type 0} → BTreeMap ℕ X → ℕ → X → X
value_or map a otherwise = unwrap_or (get nat_cmp map a) otherwise

-- by place, what the agents know, and how many messages of a stream are committed; the messages on the link; and the merge
pub record IsKept (turns : List Turn) (agents : BTreeMap ℕ Agent) (taken : BTreeMap ℕ ℕ) (sent : BTreeSet (ℕ × ℕ × ℕ)) (merged : List Merged) : Type 0 where
  pub knows : (a : ℕ) → value_or agents a fresh_agent ≡ agent a turns
  pub counts : (a : ℕ) → value_or taken a 0 ≡ count_of a (merge turns)
  pub link : (a stamp n : ℕ) → contains triple_cmp sent (a, stamp, n) ≡ on_link a stamp n turns
  pub entries : merged ≡ merge turns

-- each turn has its answer, and what is kept is what the turns make of it; they stand in the order in which they came
pub record IsWorld (streams : List Stream) (turns : List Turn) (agents : BTreeMap ℕ Agent) (taken : BTreeMap ℕ ℕ) (sent : BTreeSet (ℕ × ℕ × ℕ)) (merged : List Merged) : Type 0 where
  pub lawful : Lawful streams (reverse turns)
  pub kept : IsKept (reverse turns) agents taken sent merged
