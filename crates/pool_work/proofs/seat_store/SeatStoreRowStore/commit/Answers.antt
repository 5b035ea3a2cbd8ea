use Rattle.std.proofs.Common.{subst}
use Rattle.session_store.specs.Charter.{follows_alone}
use Rattle.session_store.specs.Law.{IsLawful}
use Rattle.session_store.specs.Rows.{Begins, IsKnownAfter}
use Rattle.pool_work.specs.Stores.{StoreState, seen_of_alone}
use Rattle.pool_work.proofs.Seen.{if_ok_with, always_ok, always_err, kept_by, seen_extends, seen_lawful, seen_known}
use Rattle.pool_work.proofs.seat_store.SeatStoreRowStore.commit.Goals as goal

pub returns-clause-extends : goal.returns-clause-extends
returns-clause-extends g c = λ i.
    let charter = g.T.SharedRows.charter c.self.inside.rows.now in
    subst (λ (s : StoreState g.row.T.Denot g.row.T-Seat.Denot). Begins (seen_of_alone (g.T.SharedRows.charter s.rows) i (g.T.SharedRows.known s.seat i).journal) (seen_of_alone charter i (g.T.SharedRows.known c.commit.new.seat i).journal)) c.self.view_is
    (seen_extends charter i (g.T.SharedRows.known c.self.inside.seat i).journal (g.T.SharedRows.known c.commit.new.seat i).journal (c.commit.ensures.seat.knows i).journal)

pub returns-clause-lawful : goal.returns-clause-lawful
returns-clause-lawful g c = seen_lawful (g.T.SharedRows.charter c.self.inside.rows.now) c.args.d.0 (g.T.SharedRows.known c.commit.new.seat c.args.d.0).journal

pub returns-clause-ok : goal.returns-clause-ok
returns-clause-ok g c =
    let charter = g.T.SharedRows.charter c.self.inside.rows.now in
    let known = (g.T.SharedRows.known c.commit.new.seat c.args.d.0).journal in
    if_ok_with c.commit.result (IsLawful (follows_alone charter c.args.d.0) known) (IsKnownAfter known c.args.read c.args.entry) (IsKnownAfter (seen_of_alone charter c.args.d.0 known) c.args.read c.args.entry) c.commit.ensures.lawful c.commit.ensures.ok
    (λ lawful told. seen_known charter c.args.d.0 c.args.read known c.args.entry told lawful)

pub returns-clause-state : goal.returns-clause-state
returns-clause-state g c = always_ok c.commit.result _ (λ told. kept_by g.T.SharedRows.speaks g.T.SharedRows.known c.self.inside.rows.now c.self.inside.seat c.commit.new.seat c.self.inside.reads _ c.args.self.now c.self.view_is c.commit.ensures.seat)

pub returns-clause-err : goal.returns-clause-err
returns-clause-err g c = always_err c.commit.result _ (kept_by g.T.SharedRows.speaks g.T.SharedRows.known c.self.inside.rows.now c.self.inside.seat c.commit.new.seat c.self.inside.reads _ c.args.self.now c.self.view_is c.commit.ensures.seat)
