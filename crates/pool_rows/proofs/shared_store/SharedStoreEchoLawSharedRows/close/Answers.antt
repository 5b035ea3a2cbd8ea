use Rattle.std.proofs.Common.{ℕ, ap, ◌∙◌}
use Rattle.session_store.specs.Shards.{shard_of}
use Rattle.front_lock.specs.FrontRow.{seen_at}
use Rattle.store_shared.specs.StoreBases.{shard_bases, store_turns}
use Rattle.pool_rows.specs.Shared.{turns_on}
use Rattle.pool_rows.proofs.Closed.{closed_seen, every}
use Rattle.pool_rows.proofs.Known.{row_more}
use Rattle.pool_rows.proofs.shared_store.SharedStoreEchoLawSharedRows.close.Goals as goal

pub returns-in-Ok-clause-closed : goal.returns-in-Ok-clause-closed
returns-in-Ok-clause-closed c = record {
  bases = c.in-Ok.ensures.charter ∙ ap (λ (n : ℕ). shard_bases n c.args.self.law.charter.value) c.requires.seat.1;
  legal = every _ c.in-Ok.shards.items (λ t. t.kept.legal);
}

pub returns-in-Ok-clause-seen : goal.returns-in-Ok-clause-seen
returns-in-Ok-clause-seen c = λ d. (row_more d (seen_at c.args.seat.seats.items (shard_of d)) (turns_on store_turns c.in-Ok.shards.items (shard_of d))
    (closed_seen store_turns _ (λ f s y i. i.seen) c.args.self.fronts.fronts.items c.args.seat.seats.items c.in-Ok.shards.items c.in-Ok.ensures.closed (shard_of d))).journal
