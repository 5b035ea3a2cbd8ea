-- What seats go on from, one behind another.
use Rattle.std.proofs.Common.{ℕ, List, ◌++◌, ap, ◌∙◌, append_assoc}
use Rattle.device_types.specs.declared.effect.Effect.{Effect}
use Rattle.device_types.specs.declared.event.Lane.{Lane}
use Rattle.session_store.specs.Rows.{Begins}
use Rattle.pool_rows.specs.Seats.{GoesOn, KnowsCalls}

begins_twice : {X : Type 0} (xs ys zs : List X) → Begins xs ys → Begins ys zs → Begins xs zs
begins_twice xs ys zs p q = (p.0 ++ q.0, q.1 ∙ (ap (λ w. w ++ q.0) p.1 ∙ append_assoc xs p.0 q.0))

module _ {Seat : Type 0} (IsSeat : Seat → Type 0) (Speaks : Seat → ℕ → Type 0) (known : Seat → ℕ → Lane → List Effect) where
  pub calls_twice : (a b c : Seat) → GoesOn IsSeat Speaks (KnowsCalls known) a b → GoesOn IsSeat Speaks (KnowsCalls known) b c → GoesOn IsSeat Speaks (KnowsCalls known) a c
  calls_twice a b c p q = record {
    seat = q.seat;
    speaks = λ n h. q.speaks n (p.speaks n h);
    knows = λ d l. begins_twice (known a d l) (known b d l) (known c d l) (p.knows d l) (q.knows d l);
  }
