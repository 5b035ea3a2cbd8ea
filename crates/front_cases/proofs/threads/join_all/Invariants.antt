use Rattle.std.proofs.Common.{ℕ, ◌≤◌, ◌<◌, All}
use Rattle.std.specs.Prelude.{IsTrue}
use Rattle.front_lock.specs.Numbers.{speaks_for}
use Rattle.front_lock.specs.Front.{IsSeatOf, view}
use Rattle.front_cases.proofs.threads.join_all.Given as goal

abbrev pub invariant-loop-least : goal.invariant-loop-least
invariant-loop-least l = record {
  joined : IsSeatOf (λ t. t.most) l.front l.joined;
  seats : All (λ s. IsSeatOf (λ t. t.most) l.front s) l.seats.items;
  speaks : (k : ℕ) → l.least ≤ k → k < l.count → IsTrue (speaks_for k (view l.joined).mine);
}

abbrev pub decreases-loop-least : goal.decreases-loop-least
decreases-loop-least l = l.least
