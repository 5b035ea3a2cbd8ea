-- Worked rows of the definitions, computed.
use Rattle.std.proofs.Common.{◌≡◌, ◌≤◌, ℕ, List, [], ◌∷◌, Some, None, refl, sym, ap, arith, append-nil}
use Rattle.device_types.specs.declared.effect.Effect.{Effect}
use Rattle.device_types.specs.declared.effect.Effect.TheVariants as effects
use Rattle.device_types.specs.declared.effect.GwCall.TheVariants.{Create, Delete}
use Rattle.device_types.specs.declared.event.Lane.{Lane}
use Rattle.device_types.specs.declared.event.Lane.TheVariants as lane
use Rattle.device_types.specs.declared.input.Input.{Input}
use Rattle.device_types.specs.declared.input.Offer.TheVariants.{Ahead}
use Rattle.device_types.specs.declared.session.Session.{Session}
use Rattle.device_types.specs.declared.step.Entry.{Entry}
use Rattle.effect_outbox.specs.declared.settled.Settled.{Settled}
use Rattle.effect_outbox.specs.declared.settled.Settled.TheVariants.{Old, Upto}
use Rattle.effect_outbox.specs.Outbox.{number_on}
use Rattle.session_row.specs.Row.{RowState}
use Rattle.session_store.specs.Charter.{CharterState}
use Rattle.session_store.specs.Rows.{unsettled_effect}
use Rattle.pool_rows.specs.Seats.{IsOffer, Settles}

module _ (input : Input) (session : Session) where
  -- two steps with a call of the gateway each, of which the first is settled
  first : Entry
  first = record { input = input; step = record { session = session; effects = effects.Gateway Create ∷ [] } }

  second : Entry
  second = record { input = input; step = record { session = session; effects = effects.Gateway Delete ∷ [] } }

  row : RowState
  row = record { journal = first ∷ second ∷ []; settled = record { down = 0; gateway = 1; subscriber = 0 } }

  second-call-is-told : unsettled_effect row lane.Gateway 2 ≡ Some (effects.Gateway Delete)
  unfolding first second row
  second-call-is-told = refl

  settled-call-is-not : unsettled_effect row lane.Gateway 1 ≡ None
  unfolding first second row
  settled-call-is-not = refl

  other-lane-has-none : unsettled_effect row lane.Subscriber 1 ≡ None
  unfolding first second row
  other-lane-has-none = refl

-- one was settled as far as was known: the second is settled now, or was already, where others came and settled a third
module _ (journal : List Entry) where
  settled-so-far : ℕ → RowState
  settled-so-far n = record { journal = journal; settled = record { down = 0; gateway = n; subscriber = 0 } }

  none-came : RowState → Type 0
  none-came row = row ≡ settled-so-far 1

  settled-now : Settles none-came (settled-so-far 1) lane.Gateway 2 (settled-so-far 2) (Upto 2)
  unfolding none-came settled-so-far
  settled-now = record { before = settled-so-far 1; others = refl; later = record { journal = ([], sym (append-nil journal)); settled = λ l. omega arith }; says = refl; behind = refl }

  settled-already : Settles (λ row. row ≡ settled-so-far 3) (settled-so-far 1) lane.Gateway 2 (settled-so-far 3) (Old 3)
  unfolding settled-so-far
  settled-already = record { before = settled-so-far 3; others = refl; later = record { journal = ([], sym (append-nil journal)); settled = on }; says = refl; behind = refl } where
    on : (l : Lane) → number_on (settled-so-far 1).settled l ≤ number_on (settled-so-far 3).settled l
    on lane.Down = omega arith
    on lane.Gateway = omega arith
    on lane.Subscriber = omega arith

  -- where no other came, the third is not settled behind the second, and the second not left
  third-is-not : (told : Settled) → Settles none-came (settled-so-far 1) lane.Gateway 2 (settled-so-far 3) told → ⊥
  unfolding none-came settled-so-far
  third-is-not told s =
      let was = ap (λ (r : RowState). r.settled.gateway) s.others in
      let now = ap (λ (r : RowState). r.settled.gateway) s.behind in
      omega (arith, was, now)

  second-is-not-left : (told : Settled) → Settles none-came (settled-so-far 1) lane.Gateway 2 (settled-so-far 1) told → ⊥
  unfolding none-came settled-so-far
  second-is-not-left told s =
      let was = ap (λ (r : RowState). r.settled.gateway) s.others in
      let now = ap (λ (r : RowState). r.settled.gateway) s.behind in
      omega (arith, was, now)

-- one call was accepted: call 3 comes too soon, and of call 2 this is never said
module _ (charter : CharterState) (d : ℕ) (call : Effect) where
  third-comes-too-soon : IsOffer charter d 3 call (effects.Gateway Create ∷ []) (Ahead 1)
  third-comes-too-soon = (refl, omega arith)

  second-is-in-time : IsOffer charter d 2 call (effects.Gateway Create ∷ []) (Ahead 1) → ⊥
  second-is-in-time is = let ahead = is.1 in omega arith
