-- A shard of the store: its rows are those of its turns, which are legal.
use Rattle.std.specs.Prelude.{◌≡◌, ℕ, List, [], ◌∷◌, ◌++◌}
use Rattle.device_types.specs.declared.step.Entry.{Entry}
use Rattle.device_types.specs.declared.subscriber.DeviceId.{DeviceId}
use Rattle.session_store.specs.Charter.{CharterState}
use Rattle.session_store.specs.Rows.{IsDevice}
use Rattle.session_store.specs.Shards as shard
use Rattle.session_store.specs.Shards.{shard_of, ShardState, IsHere}
use Rattle.store_shared.specs.declared.basis.ShardBasis.{ShardBasis}
use Rattle.store_shared.specs.declared.turn.Turn.{Turn}
use Rattle.store_shared.specs.declared.turn.TurnCall.{TurnCall}
use Rattle.store_shared.specs.declared.turn.TurnAnswer.{TurnAnswer}
use Rattle.store_shared.specs.Legal.{row_in, IsTurn, store_says, IsStoreHistory, AreLawfulIn}

-- the row of each device of a shard is that of the history
abbrev pub AreRowsOf : ShardState → List Turn → Type 0
AreRowsOf state turns = (d : ℕ) → IsHere state d → shard.row_in state.rows d ≡ row_in d turns

pub record IsStoreShard (state : ShardState) (turns : List Turn) : Type 0 where
  pub rows : AreRowsOf state turns
  pub legal : IsStoreHistory state.number state.devices turns

-- a device of a store of so many lies in that shard
abbrev pub IsOfShard : ℕ → ℕ → ℕ → Type 0
IsOfShard number devices d = IsDevice devices d × (shard_of d ≡ number)

abbrev pub turn_by : ℕ → DeviceId → TurnCall → TurnAnswer → Turn
turn_by seat d call answer = record { seat = seat; device = d; call = call; answer = answer }

-- x is the turn of that call and answer, one by those before it, and the journals behind it are lawful
pub record IsMade (follows : CharterState → ℕ → List Entry → Entry → Type 0) (b : ShardBasis) (before : List Turn) (x : Turn) (d : DeviceId) (call : TurnCall) (answer : TurnAnswer) : Type 0 where
  pub turn : x ≡ turn_by x.seat d call answer
  pub legal : IsTurn store_says b.shard b.devices before x
  pub lawful : AreLawfulIn (follows b.charter) b.devices (before ++ x ∷ [])
