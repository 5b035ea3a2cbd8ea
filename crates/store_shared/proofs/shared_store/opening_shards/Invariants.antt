use Rattle.std.proofs.Common.{◌≡◌, [], map, All}
use Rattle.std.specs.List.{range_with_len}
use Rattle.store_shared.specs.StoreBases.{basis_at, store_basis}
use Rattle.store_shared.proofs.shared_store.opening_shards.Given as goal

abbrev pub invariant-loop-number : goal.invariant-loop-number
invariant-loop-number g l = record {
  bases : map store_basis l.made.items ≡ map (basis_at l.devices (g.L.RowLaw.charter l.law)) (range_with_len 0 l.number);
  empty : All (λ t. t.turns.items ≡ []) l.made.items;
}
