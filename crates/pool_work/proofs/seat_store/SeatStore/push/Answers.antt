use Rattle.std.proofs.Common.{◌≡◌, ◌≤◌}
use Rattle.std.specs.Prelude.{IfSome}
use Rattle.device_types.specs.Journal.{pushed_count}
use Rattle.session_store.specs.Charter.{alone_in, follows_alone}
use Rattle.session_store.specs.Law.{IsLawful}
use Rattle.session_store.specs.Rows.{unsettled_effect}
use Rattle.pool_work.specs.Stores.{IsPushed}
use Rattle.pool_work.proofs.Seen.{if_ok, if_ok_with, kept_by, pushed_alone, pushed_of, pushed_within}
use Rattle.pool_work.proofs.seat_store.SeatStore.push.Goals as goal

pub returns-clause-store : goal.returns-clause-store
returns-clause-store g c = kept_by g.T.SharedRows.speaks g.T.SharedRows.known c.self.inside.rows.now c.self.inside.seat c.push.new.seat c.self.inside.reads _ c.args.self.now c.self.view_is c.push.ensures.seat

pub returns-clause-pushed : goal.returns-clause-pushed
returns-clause-pushed g c =
    let row = g.T.SharedRows.known c.push.new.seat c.args.d.0 in
    if_ok c.push.result (λ o. o ≡ unsettled_effect row c.args.lane c.args.k) (λ o. IfSome o (λ e. c.args.k ≤ pushed_count c.args.lane row.journal)) c.push.ensures.ok (λ o is. pushed_within c.args.k c.args.lane row.journal o (pushed_of row c.args.lane c.args.k o is))

pub returns-clause-effect : goal.returns-clause-effect
returns-clause-effect g c =
    let charter = g.T.SharedRows.charter c.self.inside.rows.now in
    let row = g.T.SharedRows.known c.push.new.seat c.args.d.0 in
    if_ok_with c.push.result (IsLawful (follows_alone charter c.args.d.0) row.journal) (λ o. o ≡ unsettled_effect row c.args.lane c.args.k) (IsPushed c.args.lane c.args.k (alone_in charter c.args.d.0)) c.push.ensures.lawful c.push.ensures.ok
    (λ lawful o is. pushed_alone charter c.args.d.0 c.args.k c.args.lane row.journal o lawful (pushed_of row c.args.lane c.args.k o is))
