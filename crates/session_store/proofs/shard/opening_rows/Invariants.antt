use Rattle.std.proofs.Common.{◌≡◌, ℕ, Some, IsSome}
use Rattle.session_store.specs.Rows.{IsDevice, opening_row}
use Rattle.session_store.specs.Shards.{shard_of, find_row}
use Rattle.session_store.proofs.shard.opening_rows.Given as goal

abbrev pub invariant-loop-index : goal.invariant-loop-index
invariant-loop-index l =
    ((d : ℕ) → IsDevice l.index d → shard_of d ≡ l.number → find_row l.rows.entries d ≡ Some opening_row)
    × ((d : ℕ) → IsSome (find_row l.rows.entries d) → IsDevice l.index d × (shard_of d ≡ l.number))
