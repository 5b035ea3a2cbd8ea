-- What contracts see of the shards of a store.
use Rattle.std.specs.Prelude.{ℕ, List, map}
use Rattle.std.specs.List.{range_with_len}
use Rattle.session_store.specs.declared.row_law.RowLaw.{Ghosts}
use Rattle.session_store.specs.Charter.{CharterState}
use Rattle.session_store.specs.Shards.{shard_count}
use Rattle.store_shared.specs.declared.basis.ShardBasis.{ShardBasis}
use Rattle.store_shared.specs.declared.store_shard.StoreShard.{StoreShard}
use Rattle.store_shared.specs.declared.turn.Turn.{Turn}

abbrev pub basis_at : ℕ → CharterState → ℕ → ShardBasis
basis_at devices charter k = record { shard = k; devices = devices; charter = charter }

-- those of all shards, in order
abbrev pub shard_bases : ℕ → CharterState → List ShardBasis
shard_bases devices charter = map (basis_at devices charter) (range_with_len 0 shard_count)

module _ {L : Type 0} {h : Ghosts L} where
  -- what no turn on a shard changes, and its turns
  abbrev pub store_basis : StoreShard L h → ShardBasis
  store_basis t = basis_at t.shard.devices t.shard.charter t.shard.number

  abbrev pub store_turns : StoreShard L h → List Turn
  store_turns t = t.turns.items

-- the number of the seat that made a turn
abbrev pub seat_of : Turn → ℕ
seat_of x = x.seat
