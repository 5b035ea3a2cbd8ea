-- What is promised of a merge.
use Rattle.std.specs.Prelude.{◌≡◌, ℕ, Bool, true, false, List, length, take}
use Rattle.std.specs.List.{AllPairs, filter_map, range_with_len}
use Rattle.device_types.specs.declared.message.Message.{Message}
use Rattle.agent_order.specs.Order.{message_at}
use Rattle.epoch_agents.specs.declared.stream.Merged.{Merged}
use Rattle.epoch_agents.specs.declared.stream.Stream.{Stream}
use Rattle.epoch_agents.specs.Row.{count_named, numbers_of, current, is_below_current}
use Rattle.epoch_agents.specs.Streams.{messages_of, name_of, is_below}

-- the name of the second is below that of the first
abbrev pub falls : List Stream → Merged → Merged → Bool
falls streams x y = is_below (name_of streams y.a y.stamp) (name_of streams x.a x.stamp)

-- the messages of stream a that are committed, in order
abbrev pub committed_of : List Stream → List Merged → ℕ → List Message
committed_of streams merged a = filter_map (message_at (messages_of streams a)) (numbers_of a merged)

-- the names never fall; a stream has at most one; its numbers are those from 1 on, each once and in order; and so its messages are the
-- first ones of the stream
pub record IsMerge (streams : List Stream) (merged : List Merged) : Type 0 where
  pub rising : AllPairs (λ x y. falls streams x y ≡ false) merged
  pub named : AllPairs (λ x y. x.a ≡ y.a → x.stamp ≡ y.stamp) merged
  pub numbered : (a : ℕ) → numbers_of a merged ≡ range_with_len 1 (length (numbers_of a merged))
  pub begun : (a : ℕ) → committed_of streams merged a ≡ take (length (numbers_of a merged)) (messages_of streams a)

-- a name has nothing committed, and is below the current one
pub record IsPassed (streams : List Stream) (merged : List Merged) (a stamp : ℕ) : Type 0 where
  pub below : is_below_current streams (current merged) a stamp ≡ true
  pub none : count_named a stamp merged ≡ 0
