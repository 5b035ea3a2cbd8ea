-- Calls of the shared peers.
use Rattle.std.specs.Prelude.{◌≡◌, ℕ, List, [], ◌∷◌, ◌++◌, slice_get, Some}
use mathlib.Core.List.{IsPrefix}
use Rattle.device_types.specs.declared.effect.Effect.{Effect}
use Rattle.device_types.specs.declared.input.Offer.{Offer}
use Rattle.device_types.specs.declared.subscriber.DeviceId.{DeviceId}
use Rattle.front_lock.specs.declared.held.Held.{Ghosts}
use Rattle.front_lock.specs.declared.seat.FrontSeat.{FrontSeat}
use Rattle.front_lock.specs.declared.view.Stage.TheVariants.{Idle}
use Rattle.front_lock.specs.Front.{view}
use Rattle.front_lock.specs.Numbers.{with_turn}
use Rattle.front_lock.specs.View.{view_at}
use Rattle.session_store.specs.Charter.{CharterState}
use Rattle.session_store.specs.Shards.{shard_of}
use Rattle.store_shared.specs.declared.basis.PeerBasis.{PeerBasis}
use Rattle.store_shared.specs.declared.turn.Turn.{Turn}
use Rattle.store_shared.specs.declared.turn.TurnAnswer.TheVariants as answers
use Rattle.store_shared.specs.Legal.{IsPeerHistory, AreAcceptedIn}
use Rattle.store_shared.specs.PeerShards.{offer_by}

-- an offer of a seat was one turn on the shard of the device, behind a history that begins with what the seat had seen. That
-- history with the turn is legal, and what it says was accepted is lawful; the seat has seen it, and the turn is the one more of
-- its own
pub record Offered {T : Type 0} {h : Ghosts T Turn PeerBasis} (charter : CharterState) (old new : List (FrontSeat T Turn PeerBasis h)) (d : DeviceId) (k : ℕ) (call : Effect) (offer : Offer) : Type 0 where
  pub from : FrontSeat T Turn PeerBasis h
  pub to : FrontSeat T Turn PeerBasis h
  pub before : List Turn
  pub was : slice_get old (shard_of d.0) ≡ Some from
  pub now : slice_get new (shard_of d.0) ≡ Some to
  pub seen : IsPrefix (view from).seen before
  pub view_is : view to ≡ view_at Idle 0 (before ++ offer_by (view from).number d k call (answers.Offer offer) ∷ []) (with_turn (view from).number (offer_by (view from).number d k call (answers.Offer offer)) (view from).mine) (view from)
  pub legal : IsPeerHistory charter (shard_of d.0) (before ++ offer_by (view from).number d k call (answers.Offer offer) ∷ [])
  pub lawful : AreAcceptedIn charter (before ++ offer_by (view from).number d k call (answers.Offer offer) ∷ [])
