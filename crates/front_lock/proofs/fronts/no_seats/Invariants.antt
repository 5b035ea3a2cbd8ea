use Rattle.std.proofs.Common.{◌≡◌, ℕ, [], length, Some}
use Rattle.std.specs.Prelude.{slice_get}
use Rattle.front_lock.specs.declared.row.FrontsSeat.{FrontsSeat}
use Rattle.front_lock.proofs.fronts.no_seats.Given as goal

abbrev pub invariant-loop-number : goal.invariant-loop-number
invariant-loop-number g l = record {
  count : length l.made.items ≡ l.number;
  numbers : (n : ℕ) (s : FrontsSeat g.row.T.Denot g.row.T-Turn.Denot g.row.T-Basis.Denot g.T.Held) → slice_get l.made.items n ≡ Some s → (s.number ≡ n) × (s.seats.items ≡ []);
}
