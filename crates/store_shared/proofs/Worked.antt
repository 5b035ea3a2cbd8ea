-- Worked histories, computed: the cheapest test of their definitions.
use Rattle.std.proofs.Common.{◌≡◌, [], ◌∷◌, Some, None, refl}
use Rattle.device_types.specs.declared.effect.Effect.{Effect}
use Rattle.device_types.specs.declared.effect.Effect.TheVariants as effects
use Rattle.device_types.specs.declared.effect.GwCall.{GwCall}
use Rattle.device_types.specs.declared.event.Lane.TheVariants as lane
use Rattle.device_types.specs.declared.input.Answer.{Answer}
use Rattle.device_types.specs.declared.input.Offer.TheVariants as offer
use Rattle.device_types.specs.declared.step.Entry.{Entry}
use Rattle.effect_outbox.specs.declared.settled.Settled.TheVariants.{Old, Upto}
use Rattle.session_row.specs.declared.commit.Commit.TheVariants.{Committed, Stale}
use Rattle.store_shared.specs.declared.turn.Turn.{Turn}
use Rattle.store_shared.specs.declared.turn.TurnCall.TheVariants as calls
use Rattle.store_shared.specs.declared.turn.TurnAnswer.TheVariants as answers
use Rattle.store_shared.specs.Legal.{row_in, journal_in, accepted_in, commit_count, row_says}
use Rattle.store_shared.specs.StoreShards.{turn_by}

module _ (entry other : Entry) where
  -- two seats write version 0 of device 1, and one of them version 0 of device 17, which shares the shard
  first : Turn
  first = turn_by 1 (record { 0 = 1 }) (calls.Commit 0 entry) (answers.Commit (Committed 1))

  second : Turn
  second = turn_by 0 (record { 0 = 1 }) (calls.Commit 0 other) (answers.Commit (Stale 0 1))

  third : Turn
  third = turn_by 0 (record { 0 = 17 }) (calls.Commit 0 other) (answers.Commit (Committed 1))

  stale-writes-nothing : journal_in 1 (first ∷ second ∷ third ∷ []) ≡ entry ∷ []
  unfolding first second third
  stale-writes-nothing = refl

  others-write-elsewhere : journal_in 17 (first ∷ second ∷ third ∷ []) ≡ other ∷ []
  unfolding first second third
  others-write-elsewhere = refl

  first-write-is-made : row_says (row_in 1 []) (calls.Commit 0 entry) ≡ Some (answers.Commit (Committed 1))
  first-write-is-made = refl

  second-write-is-stale : row_says (row_in 1 (first ∷ [])) (calls.Commit 0 other) ≡ Some (answers.Commit (Stale 0 1))
  unfolding first
  second-write-is-stale = refl

  next-version-is-made : row_says (row_in 1 (first ∷ second ∷ [])) (calls.Commit 1 other) ≡ Some (answers.Commit (Committed 2))
  unfolding first second
  next-version-is-made = refl

  commits-are-counted : commit_count 1 (first ∷ second ∷ third ∷ []) ≡ 1
  unfolding first second third
  commits-are-counted = refl

  -- two effects of the down lane are settled, and one of them again
  settling : Turn
  settling = turn_by 0 (record { 0 = 1 }) (calls.Settle lane.Down 2) (answers.Settle (Upto 2))

  settled-once-is-old : row_says (row_in 1 (settling ∷ [])) (calls.Settle lane.Down 1) ≡ Some (answers.Settle (Old 2))
  unfolding settling
  settled-once-is-old = refl

  other-lane-is-not-settled : row_says (row_in 1 (settling ∷ [])) (calls.Settle lane.Gateway 1) ≡ Some (answers.Settle (Upto 1))
  unfolding settling
  other-lane-is-not-settled = refl

module _ (call : GwCall) (answer : Answer) where
  accepted : Turn
  accepted = turn_by 0 (record { 0 = 1 }) (calls.Offer 1 (effects.Gateway call)) (answers.Offer (offer.Accepted answer))

  again : Turn
  again = turn_by 1 (record { 0 = 1 }) (calls.Offer 1 (effects.Gateway call)) (answers.Offer (offer.Repeat answer))

  repeat-is-not-accepted-again : accepted_in 1 lane.Gateway (accepted ∷ again ∷ []) ≡ effects.Gateway call ∷ []
  unfolding accepted again
  repeat-is-not-accepted-again = refl

  other-lane-accepts-nothing : accepted_in 1 lane.Subscriber (accepted ∷ again ∷ []) ≡ []
  unfolding accepted again
  other-lane-accepts-nothing = refl

  other-device-accepts-nothing : accepted_in 2 lane.Gateway (accepted ∷ again ∷ []) ≡ []
  unfolding accepted again
  other-device-accepts-nothing = refl

offer-is-none-of-a-row : (e : Effect) → row_says (row_in 1 []) (calls.Offer 1 e) ≡ None
offer-is-none-of-a-row e = refl
