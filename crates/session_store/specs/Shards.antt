-- Shards: the rows of the devices that share a remainder.
use Rattle.std.specs.Prelude.{◌≡◌, ◌<◌, ◌↔◌, ℕ, ◌+◌, ◌%◌, List, [], length, map, Option, IsSome, slice_index_or}
use Rattle.std.specs.BTreeMap.{is_at}
use Rattle.std.specs.List.{range_with_len}
use Rattle.std.specs.Map.{lookup, set_value}
use Rattle.std.specs.Option.{unwrap_or}
use Rattle.std.specs.Ordering.{nat_cmp}
use Rattle.device_types.specs.declared.step.Entry.{Entry}
use Rattle.session_row.specs.Row.{RowState}
use Rattle.session_store.specs.Charter.{CharterState, IsCharter}
use Rattle.session_store.specs.Law.{IsLawful}
use Rattle.session_store.specs.Rows.{IsDevice, opening_row, AreLawful}

-- so many shards
abbrev pub shard_count : ℕ
shard_count = 16

-- the shard in which device d lies
abbrev pub shard_of : ℕ → ℕ
shard_of d = d % shard_count

-- a charter, the shard's number, how many devices the store has, and the rows of the shard's devices, each with its device
pub record ShardState : Type 0 where
  pub charter : CharterState
  pub number : ℕ
  pub devices : ℕ
  pub rows : List (ℕ × RowState)

-- a device of the store that lies in the shard
abbrev pub IsHere : ShardState → ℕ → Type 0
IsHere shard d = IsDevice shard.devices d × (shard_of d ≡ shard.number)

-- the row of device d, if it has one
abbrev pub find_row : List (ℕ × RowState) → ℕ → Option RowState
find_row rows d = lookup (is_at (nat_cmp d)) rows

abbrev pub row_in : List (ℕ × RowState) → ℕ → RowState
row_in rows d = unwrap_or (find_row rows d) opening_row

abbrev pub journal_in : List (ℕ × RowState) → ℕ → List Entry
journal_in rows d = (row_in rows d).journal

-- the rows with another one for device d
abbrev pub with_row : List (ℕ × RowState) → ℕ → RowState → List (ℕ × RowState)
with_row rows d row = set_value (is_at (nat_cmp d)) rows row

-- just the devices of the shard have a row
abbrev pub HasItsRows : ShardState → Type 0
HasItsRows shard = (d : ℕ) → IsSome (find_row shard.rows d) ↔ IsHere shard d

-- none of the shard's devices was ever seen
abbrev pub IsOpening : ShardState → Type 0
IsOpening shard = (d : ℕ) → IsHere shard d → row_in shard.rows d ≡ opening_row

-- the journal of each device of the shard is lawful
abbrev pub AreLawfulHere : (ℕ → List Entry → Entry → Type 0) → ShardState → Type 0
AreLawfulHere follows shard = (d : ℕ) → IsHere shard d → IsLawful (follows d) (journal_in shard.rows d)

-- a shard whose rows are those of just its devices, and lawful
pub record IsShard (follows : ℕ → List Entry → Entry → Type 0) (shard : ShardState) : Type 0 where
  pub in_form : IsCharter shard.charter
  pub rows : HasItsRows shard
  pub lawful : AreLawfulHere follows shard

-- ---- a store of shards

abbrev pub no_shard : ShardState
no_shard = record { charter = record { rows = []; lines = [] }; number = 0; devices = 0; rows = [] }

-- the shard of that number
abbrev pub shard_at : List ShardState → ℕ → ShardState
shard_at shards number = slice_index_or shards number no_shard

-- the row of device d, in its shard
abbrev pub stored_row : List ShardState → ℕ → RowState
stored_row shards d = row_in (shard_at shards (shard_of d)).rows d

-- the rows of so many devices, in the order of their numbers
abbrev pub stored_rows : List ShardState → ℕ → List RowState
stored_rows shards devices = map (λ i. stored_row shards (i + 1)) (range_with_len 0 devices)

-- the shard of that number of a store of so many devices
pub record IsShardOf (charter : CharterState) (devices number : ℕ) (shard : ShardState) : Type 0 where
  pub under : shard.charter ≡ charter
  pub placed : shard.number ≡ number
  pub among : shard.devices ≡ devices

-- each shard at the place of its number
pub record AreShards (charter : CharterState) (devices : ℕ) (shards : List ShardState) : Type 0 where
  pub count : length shards ≡ shard_count
  pub each : (number : ℕ) → number < shard_count → IsShardOf charter devices number (shard_at shards number)

-- the shards of a store, whose rows are lawful
pub record IsStore (follows : ℕ → List Entry → Entry → Type 0) (charter : CharterState) (devices : ℕ) (shards : List ShardState) : Type 0 where
  pub in_form : IsCharter charter
  pub placed : AreShards charter devices shards
  pub lawful : AreLawful follows (stored_rows shards devices)

-- the first so many shards of a store, none of whose devices was ever seen
pub record AreOpened (charter : CharterState) (devices n : ℕ) (shards : List ShardState) : Type 0 where
  pub count : length shards ≡ n
  pub each : (number : ℕ) → number < n → IsShardOf charter devices number (shard_at shards number) × IsOpening (shard_at shards number)
