use Rattle.std.proofs.Common.{ℕ, subst, sym}
use Rattle.session_store.specs.Rows.{IsDevice}
use Rattle.session_store.specs.Shards.{shard_of}
use Rattle.front_lock.proofs.Items.{if_ok}
use Rattle.pool_rows.proofs.Closed.{if_both}
use Rattle.pool_rows.proofs.Known.{known_after, known_more, lawful_now}
use Rattle.pool_rows.proofs.Seats.{called_moves, goes_on}
use Rattle.pool_rows.proofs.shared_store.SharedStoreEchoLawSharedRows.commit.Goals as goal

pub returns-clause-seat : goal.returns-clause-seat
returns-clause-seat g c =
    let at = shard_of c.args.d.0 in
    goes_on _ _ _ _ c.args.seat.now c.commit.new.seat at _ c.commit.result (known_more c.args.seat.now.seats.items c.commit.new.seat.seats.items at) (λ a called. called_moves c.commit.ensures.others called) c.commit.ensures.others (c.commit.ensures.seat, c.requires.seat.1) c.commit.ensures.ok c.commit.ensures.err

pub returns-clause-lawful : goal.returns-clause-lawful
returns-clause-lawful g c = if_ok _ _ c.commit.result (λ a called. lawful_now called (subst (λ (n : ℕ). IsDevice n c.args.d.0) (sym c.requires.seat.1) c.requires.device)) c.commit.ensures.ok

pub returns-clause-ok : goal.returns-clause-ok
returns-clause-ok g c = if_both _ _ _ c.commit.result (λ commit called tells. known_after c.args.read c.args.entry commit called tells) c.commit.ensures.ok c.commit.ensures.tells
