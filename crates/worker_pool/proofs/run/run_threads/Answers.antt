use Rattle.std.proofs.Common.{ℕ, ◌<◌, length}
use Rattle.front_lock.proofs.Items.{if_ok}
use Rattle.worker_pool.proofs.Speaking.{all_speak}
use Rattle.worker_pool.proofs.run.run_threads.Goals as goal

pub returns-clause-all_rows : goal.returns-clause-all_rows
returns-clause-all_rows g c =
    let Speaks = g.T.SharedRows.speaks in
    let ran = c.in_ok-ran.ran.rows in
    if_ok _ (λ done. (n : ℕ) → n < length c.args.row_seats.items → Speaks done.rows n) c.settle.result
    (λ done both n low. both.rows.speaks n
    (all_speak Speaks (Speaks ran n) c.args.row_seats.items c.take_seats.new.row_seats.items c.take_seats-2.new.row_seats.items c.in-Some.mine.rows c.in-Some-take_seats.moved.rows n c.in-Some.ensures.rows c.in-Some-take_seats.ensures.rows
    (c.in_ok-ran.ensures.gains_rows n) (c.in_ok-ran.ensures.gains.rows.speaks n) (c.in_ok-ran.ensures.keeps.rows.speaks n) (λ s at. c.requires.row_speaks n s at) low)) c.settle.ensures.mine

pub returns-clause-all_peers : goal.returns-clause-all_peers
returns-clause-all_peers g c =
    let Speaks = g.P.SharedCalls.speaks in
    let ran = c.in_ok-ran.ran.peers in
    if_ok _ (λ done. (n : ℕ) → n < length c.args.peer_seats.items → Speaks done.peers n) c.settle.result
    (λ done both n low. both.peers.speaks n
    (all_speak Speaks (Speaks ran n) c.args.peer_seats.items c.take_seats.new.peer_seats.items c.take_seats-2.new.peer_seats.items c.in-Some.mine.peers c.in-Some-take_seats.moved.peers n c.in-Some.ensures.peers c.in-Some-take_seats.ensures.peers
    (c.in_ok-ran.ensures.gains_peers n) (c.in_ok-ran.ensures.gains.peers.speaks n) (c.in_ok-ran.ensures.keeps.peers.speaks n) (λ s at. c.requires.peer_speaks n s at) low)) c.settle.ensures.mine
