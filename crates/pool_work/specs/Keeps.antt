-- What calls keep, one behind another: the laws of the store.
use Rattle.std.proofs.Common.{ℕ, refl, ◌∙◌, arith}
use Rattle.session_row.specs.Row.{RowState}
use Rattle.pool_work.specs.Stores.{StoreState, Kept}

module _ {T Seat : Type 0} (Speaks : Seat → ℕ → Type 0) (known : Seat → ℕ → RowState) where
  pub kept_same : (s : StoreState T Seat) → Kept Speaks known s s
  kept_same s = record { same = refl; speaks = λ n h. h; grows = λ i. omega arith }

  pub kept_twice : (a b c : StoreState T Seat) → Kept Speaks known a b → Kept Speaks known b c → Kept Speaks known a c
  kept_twice a b c p q = record {
    same = q.same ∙ p.same;
    speaks = λ n h. q.speaks n (p.speaks n h);
    grows = λ i. let m = p.grows i in let n = q.grows i in omega arith;
  }
