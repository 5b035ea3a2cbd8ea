use Rattle.std.proofs.Common.{ℕ, subst, sym}
use Rattle.session_store.specs.Rows.{IsDevice}
use Rattle.session_store.specs.Shards.{shard_of}
use Rattle.front_lock.proofs.Items.{if_ok}
use Rattle.pool_rows.proofs.Known.{known_more, lawful_now, peek_tells}
use Rattle.pool_rows.proofs.Seats.{called_moves, goes_on}
use Rattle.pool_rows.proofs.shared_store.SharedStoreEchoLawSharedRows.peek.Goals as goal

pub returns-clause-seat : goal.returns-clause-seat
returns-clause-seat g c =
    let at = shard_of c.args.d.0 in
    goes_on _ _ _ _ c.args.seat.now c.peek.new.seat at _ c.peek.result (known_more c.args.seat.now.seats.items c.peek.new.seat.seats.items at) (λ a called. called_moves c.peek.ensures.others called) c.peek.ensures.others (c.peek.ensures.seat, c.requires.seat.1) c.peek.ensures.ok c.peek.ensures.err

pub returns-clause-lawful : goal.returns-clause-lawful
returns-clause-lawful g c = if_ok _ _ c.peek.result (λ a called. lawful_now called (subst (λ (n : ℕ). IsDevice n c.args.d.0) (sym c.requires.seat.1) c.requires.device)) c.peek.ensures.ok

pub returns-clause-ok : goal.returns-clause-ok
returns-clause-ok g c = if_ok _ _ c.peek.result (λ a called. peek_tells c.args.asked a called) c.peek.ensures.ok
