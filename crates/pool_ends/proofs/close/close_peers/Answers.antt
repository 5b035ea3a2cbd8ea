use Rattle.std.proofs.Common.{ℕ, subst}
use Rattle.session_store.specs.Rows.{IsDevice}
use Rattle.pool_rows.proofs.Closed.{if_both}
use Rattle.pool_ends.proofs.Wholes.{lane_is_whole}
use Rattle.pool_ends.proofs.close.close_peers.Goals as goal

pub returns-clause-lanes : goal.returns-clause-lanes
returns-clause-lanes g c = if_both _ _ _ c.close.result
    (λ closed seen lawful d lane is call.
    lane_is_whole (g.P.SharedCalls.charter c.args.peers) d lane (g.P.SharedCalls.known c.bring_lanes.new.seat d lane) (g.P.SharedCalls.accepted closed d lane) (c.in_ok-bring_lanes.ensures.whole d lane is call) (seen d lane)
    (lawful d lane (subst (λ (n : ℕ). IsDevice n d) c.requires.devices is)))
    c.close.ensures.seen c.close.ensures.lawful
