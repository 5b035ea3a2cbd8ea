use Rattle.std.proofs.Common.{◌≡◌, sym, subst}
use Rattle.session_store.specs.Charter.{CharterState, alone_in}
use Rattle.pool_ends.proofs.Closing.{journals_closed, lane_under}
use Rattle.pool_ends.proofs.close.close_all.Goals as goal

pub finals-requires : goal.finals-requires
finals-requires g c = (g.T.SharedRows.charter c.args.rows, c.in_ok-store.ensures.closed, c.requires.devices)

pub close_peers-requires-clause-closed : goal.close_peers-requires-clause-closed
close_peers-requires-clause-closed g c = subst (λ (of : CharterState). g.T.SharedRows.closes of c.in_ok-store.store) (sym c.requires.charter) c.in_ok-store.ensures.closed

pub close_peers-requires-clause-journals : goal.close_peers-requires-clause-journals
close_peers-requires-clause-journals g c = λ d is.
    let charter = g.T.SharedRows.charter c.args.rows in
    let journal = g.T.SharedRows.journal c.in_ok-store.store in
    subst (λ (of : CharterState). journal d ≡ alone_in of d) (sym c.requires.charter)
    (journals_closed charter c.args.devices (λ i. (g.T.SharedRows.known c.args.row_seat i).journal) journal c.requires.whole c.in_ok-store.ensures.seen
    (λ i here. c.in_ok-finals.ensures.lawful charter i c.in_ok-store.ensures.closed c.requires.devices here) d is)

pub returns-clause-journals : goal.returns-clause-journals
returns-clause-journals g c =
    let charter = g.T.SharedRows.charter c.args.rows in
    journals_closed charter c.args.devices (λ i. (g.T.SharedRows.known c.args.row_seat i).journal) (g.T.SharedRows.journal c.in_ok-store.store) c.requires.whole c.in_ok-store.ensures.seen
    (λ i here. c.in_ok-finals.ensures.lawful charter i c.in_ok-store.ensures.closed c.requires.devices here)

pub returns-clause-finals : goal.returns-clause-finals
returns-clause-finals g c =
    let charter = g.T.SharedRows.charter c.args.rows in
    c.in_ok-finals.ensures.whole charter c.requires.lines c.requires.devices
    (journals_closed charter c.args.devices (λ i. (g.T.SharedRows.known c.args.row_seat i).journal) (g.T.SharedRows.journal c.in_ok-store.store) c.requires.whole c.in_ok-store.ensures.seen
    (λ i here. c.in_ok-finals.ensures.lawful charter i c.in_ok-store.ensures.closed c.requires.devices here))

pub returns-clause-lanes : goal.returns-clause-lanes
returns-clause-lanes g c = λ d lane is call.
    lane_under (g.P.SharedCalls.charter c.args.peers) (g.T.SharedRows.charter c.args.rows) d lane (g.P.SharedCalls.accepted c.in_ok-peers.peers d lane) c.requires.charter (c.in_ok-peers.ensures.lanes d lane is call)
