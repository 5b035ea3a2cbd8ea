-- The shared store and the shared peers in the words of shared rows and calls.
use Rattle.std.specs.Prelude.{◌≡◌, ℕ, IsTrue, List, [], ◌++◌, Some, length, map, All, slice_get}
use Rattle.std.specs.Arc.{arc_value}
use Rattle.std.specs.Option.{option_map_or}
use Rattle.device_types.specs.declared.effect.Effect.{Effect}
use Rattle.device_types.specs.declared.event.Lane.{Lane}
use Rattle.device_types.specs.declared.step.Entry.{Entry}
use Rattle.front_lock.specs.declared.held.Held as held
use Rattle.front_lock.specs.declared.seat.FrontSeat.{FrontSeat}
use Rattle.front_lock.specs.Front.{view}
use Rattle.front_lock.specs.Numbers.{speaks_for, turns_of}
use Rattle.session_row.specs.Row.{RowState}
use Rattle.session_store.specs.declared.row_law.RowLaw as law
use Rattle.session_store.specs.Charter.{CharterState}
use Rattle.session_store.specs.Shards.{shard_of}
use Rattle.store_shared.specs.declared.basis.PeerBasis.{PeerBasis}
use Rattle.store_shared.specs.declared.basis.ShardBasis.{ShardBasis}
use Rattle.store_shared.specs.declared.peer_shard.PeerShard.{PeerShard}
use Rattle.store_shared.specs.declared.store_shard.StoreShard.{StoreShard}
use Rattle.store_shared.specs.declared.turn.Turn.{Turn}
use Rattle.front_lock.specs.FrontRow.{seen_at}
use Rattle.store_shared.specs.Legal.{IsPeerHistory, IsStoreHistory, accepted_in, journal_in, row_in}
use Rattle.store_shared.specs.PeerBases.{peer_basis, peer_bases, peer_turns}
use Rattle.store_shared.specs.StoreBases.{seat_of, shard_bases, store_basis, store_turns}

-- ---- what a seat knows

-- the row of device d, by the turns on its shard that the seat has seen
abbrev pub row_known : {T : Type 0} {h : held.Ghosts T Turn ShardBasis} → List (FrontSeat T Turn ShardBasis h) → ℕ → RowState
row_known seats d = row_in d (seen_at seats (shard_of d))

-- its row behind more turns, none of which was made by a number that the seat speaks for
pub record RowComes {T : Type 0} {h : held.Ghosts T Turn ShardBasis} (seats : List (FrontSeat T Turn ShardBasis h)) (d : ℕ) (row : RowState) : Type 0 where
  pub more : List Turn
  pub others : (n : ℕ) (s : FrontSeat T Turn ShardBasis h) → slice_get seats (shard_of d) ≡ Some s → IsTrue (speaks_for n (view s).mine) → turns_of seat_of n more ≡ []
  pub row_is : row ≡ row_in d (seen_at seats (shard_of d) ++ more)

-- the calls of device d that were accepted on a lane, likewise
abbrev pub calls_known : {T : Type 0} {h : held.Ghosts T Turn PeerBasis} → List (FrontSeat T Turn PeerBasis h) → ℕ → Lane → List Effect
calls_known seats d lane = accepted_in d lane (seen_at seats (shard_of d))

-- ---- what is left of them

-- the turns on the shard of that number
abbrev pub turns_on : {Y : Type 0} → (Y → List Turn) → List Y → ℕ → List Turn
turns_on turns shards k = option_map_or turns (slice_get shards k) []

module _ {L : Type 0} {h : law.Ghosts L} where
  abbrev pub closed_journal : List (StoreShard L h) → ℕ → List Entry
  closed_journal shards d = journal_in d (turns_on store_turns shards (shard_of d))

  -- the shards of a store under a charter, each with a legal history
  pub record AreClosedRows (charter : CharterState) (shards : List (StoreShard L h)) : Type 0 where
    pub bases : map store_basis shards ≡ shard_bases (length charter.rows) charter
    pub legal : All (λ t. IsStoreHistory t.shard.number t.shard.devices (store_turns t)) shards

abbrev pub closed_calls : List PeerShard → ℕ → Lane → List Effect
closed_calls shards d lane = accepted_in d lane (turns_on peer_turns shards (shard_of d))

-- the shards of the peers under a charter, each with a legal history
pub record AreClosedPeers (charter : CharterState) (shards : List PeerShard) : Type 0 where
  pub bases : map peer_basis shards ≡ peer_bases charter
  pub legal : All (λ t. IsPeerHistory (arc_value t.law.charter) t.number (peer_turns t)) shards
