-- Calls of the shared store.
use Rattle.std.specs.Prelude.{◌≡◌, ℕ, List, [], ◌∷◌, ◌++◌, slice_get, Some}
use mathlib.Core.List.{IsPrefix}
use Rattle.device_types.specs.declared.step.Entry.{Entry}
use Rattle.device_types.specs.declared.subscriber.DeviceId.{DeviceId}
use Rattle.front_lock.specs.declared.held.Held.{Ghosts}
use Rattle.front_lock.specs.declared.seat.FrontSeat.{FrontSeat}
use Rattle.front_lock.specs.declared.view.Stage.TheVariants.{Idle}
use Rattle.front_lock.specs.Front.{view}
use Rattle.front_lock.specs.Numbers.{with_turn}
use Rattle.front_lock.specs.View.{view_at}
use Rattle.session_store.specs.Charter.{CharterState}
use Rattle.session_store.specs.Shards.{shard_of}
use Rattle.store_shared.specs.declared.basis.ShardBasis.{ShardBasis}
use Rattle.store_shared.specs.declared.turn.Turn.{Turn}
use Rattle.store_shared.specs.declared.turn.TurnCall.{TurnCall}
use Rattle.store_shared.specs.declared.turn.TurnAnswer.{TurnAnswer}
use Rattle.store_shared.specs.Legal.{IsStoreHistory, AreLawfulIn}
use Rattle.store_shared.specs.StoreShards.{turn_by}

-- a call of a seat on device d was one turn on its shard, behind a history that begins with what the seat had seen. That history
-- with the turn is legal, and its journals are lawful; the seat has seen it, and the turn is the one more of its own. The answer
-- is what `says` tells of the history before it
pub record Called {T : Type 0} {h : Ghosts T Turn ShardBasis} (follows : CharterState → ℕ → List Entry → Entry → Type 0) (devices : ℕ) (charter : CharterState) (old new : List (FrontSeat T Turn ShardBasis h)) (d : DeviceId) (call : TurnCall) (answer : TurnAnswer) (says : List Turn → Type 0) : Type 0 where
  pub from : FrontSeat T Turn ShardBasis h
  pub to : FrontSeat T Turn ShardBasis h
  pub before : List Turn
  pub was : slice_get old (shard_of d.0) ≡ Some from
  pub now : slice_get new (shard_of d.0) ≡ Some to
  pub seen : IsPrefix (view from).seen before
  pub view_is : view to ≡ view_at Idle 0 (before ++ turn_by (view from).number d call answer ∷ []) (with_turn (view from).number (turn_by (view from).number d call answer) (view from).mine) (view from)
  pub legal : IsStoreHistory (shard_of d.0) devices (before ++ turn_by (view from).number d call answer ∷ [])
  pub lawful : AreLawfulIn (follows charter) devices (before ++ turn_by (view from).number d call answer ∷ [])
  pub value : says before
