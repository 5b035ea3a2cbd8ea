use Rattle.std.proofs.Common.{◌≡◌, ℕ, length, map}
use Rattle.std.specs.List.{range_with_len}
use Rattle.session_store.specs.Charter.{CharterState, follows_alone}
use Rattle.session_store.specs.Law.{IsLawful}
use Rattle.session_store.specs.Rows.{IsDevice}
use Rattle.pool_ends.specs.Ends.{end_in}
use Rattle.pool_ends.proofs.ends.finals.Given as goal

abbrev pub invariant-loop-index : goal.invariant-loop-index
invariant-loop-index g l = record {
  ends : l.finals ≡ map (λ d. end_in (g.T.SharedRows.journal l.closed d)) (range_with_len 1 l.index);
  lawful : (charter : CharterState) (d : ℕ) → g.T.SharedRows.closes charter l.closed → l.devices ≡ length charter.rows → IsDevice l.index d → IsLawful (follows_alone charter d) (g.T.SharedRows.journal l.closed d);
}
