use Rattle.std.proofs.Common.{◌∙◌}
use Rattle.session_store.specs.Charter.{follows_alone}
use Rattle.pool_rows.proofs.Closed.{here_there, journal_there, lawful_there, shard_read}
use Rattle.pool_rows.proofs.shared_store.SharedStoreEchoLawSharedRows.journal.Goals as goal

pub journal-requires : goal.journal-requires
journal-requires c =
    let charter = c.requires.closed.0 in
    let closed = c.requires.closed.1 in
    let there = shard_read charter c.args.closed.now.items c.args.d.0 c.shard_of.result c.index.result.now closed c.shard_of.ensures c.index.ensures in
    here_there charter c.args.closed.now.items c.args.d.0 c.index.result.now there closed c.requires.closed.2

pub returns-clause-value : goal.returns-clause-value
returns-clause-value c =
    let charter = c.requires.closed.0 in
    let there = shard_read charter c.args.closed.now.items c.args.d.0 c.shard_of.result c.index.result.now c.requires.closed.1 c.shard_of.ensures c.index.ensures in
    c.journal.ensures.journal ∙ journal_there charter c.args.closed.now.items c.args.d.0 c.index.result.now there

pub returns-clause-lawful : goal.returns-clause-lawful
returns-clause-lawful c = λ charter closed within.
    let there = shard_read charter c.args.closed.now.items c.args.d.0 c.shard_of.result c.index.result.now closed c.shard_of.ensures c.index.ensures in
    lawful_there charter c.args.closed.now.items c.args.d.0 c.index.result.now there follows_alone c.journal.ensures.lawful closed
