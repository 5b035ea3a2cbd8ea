use Rattle.std.proofs.Common.{sym, ◌∙◌}
use Rattle.session_store.proofs.Shards.{opened_more, opened_same, owned_more, owned_same}
use Rattle.session_store.proofs.shard.opening_rows.Goals as goal
use Rattle.session_store.proofs.shard.opening_rows.Goals.{then-shard_of-number+in_ok-open_row, else-shard_of-number}

pub loop-index-preserved : goal.loop-index-preserved
loop-index-preserved c = elim c.if-shard_of-number.branch [
  | then-shard_of-number+in_ok-open_row w ↦ rw w.rows-is (
    opened_more c.loop-index.rows w.open_row.new.rows c.loop-index.index c.args.number c.loop-index.invariant.0 w.in_ok-open_row.ensures,
    owned_more c.loop-index.rows w.open_row.new.rows c.loop-index.index c.args.number c.loop-index.invariant.1 (sym c.shard_of.ensures ∙ w.if-shard_of-number.true) w.in_ok-open_row.ensures,
  )
  | else-shard_of-number w ↦ rw w.rows-is (
    opened_same c.loop-index.rows c.loop-index.index c.args.number c.loop-index.invariant.0 (λ e. w.if-shard_of-number.false (c.shard_of.ensures ∙ e)),
    owned_same c.loop-index.rows c.loop-index.index c.args.number c.loop-index.invariant.1,
  )
]
