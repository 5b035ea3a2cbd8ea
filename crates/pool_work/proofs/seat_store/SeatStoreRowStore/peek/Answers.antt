use Rattle.std.proofs.Common.{subst}
use Rattle.session_store.specs.Charter.{follows_alone}
use Rattle.session_store.specs.Law.{IsLawful}
use Rattle.session_store.specs.Rows.{Begins}
use Rattle.session_store.specs.Seen.{peeked_of}
use Rattle.pool_work.specs.Stores.{StoreState, seen_of_alone}
use Rattle.pool_work.proofs.Seen.{if_ok_with, kept_by, seen_extends, seen_lawful, seen_is}
use Rattle.std.proofs.Common.{◌≡◌, ◌∙◌, ap, List}
use Rattle.device_types.specs.declared.step.Entry.{Entry}
use Rattle.pool_work.proofs.seat_store.SeatStoreRowStore.peek.Goals as goal

pub returns-clause-extends : goal.returns-clause-extends
returns-clause-extends g c = λ i.
    let charter = g.T.SharedRows.charter c.self.inside.rows.now in
    subst (λ (s : StoreState g.row.T.Denot g.row.T-Seat.Denot). Begins (seen_of_alone (g.T.SharedRows.charter s.rows) i (g.T.SharedRows.known s.seat i).journal) (seen_of_alone charter i (g.T.SharedRows.known c.peek.new.seat i).journal)) c.self.view_is
    (seen_extends charter i (g.T.SharedRows.known c.self.inside.seat i).journal (g.T.SharedRows.known c.peek.new.seat i).journal (c.peek.ensures.seat.knows i).journal)

pub returns-clause-lawful : goal.returns-clause-lawful
returns-clause-lawful g c = seen_lawful (g.T.SharedRows.charter c.self.inside.rows.now) c.args.d.0 (g.T.SharedRows.known c.peek.new.seat c.args.d.0).journal

pub returns-clause-ok : goal.returns-clause-ok
returns-clause-ok g c =
    let charter = g.T.SharedRows.charter c.self.inside.rows.now in
    let known = (g.T.SharedRows.known c.peek.new.seat c.args.d.0).journal in
    if_ok_with c.peek.result (IsLawful (follows_alone charter c.args.d.0) known) (λ told. told ≡ peeked_of known c.args.asked) (λ told. told ≡ peeked_of (seen_of_alone charter c.args.d.0 known) c.args.asked) c.peek.ensures.lawful c.peek.ensures.ok
    (λ lawful told is. is ∙ ap (λ (l : List Entry). peeked_of l c.args.asked) (seen_is charter c.args.d.0 known lawful))

pub returns-clause-state : goal.returns-clause-state
returns-clause-state g c = kept_by g.T.SharedRows.speaks g.T.SharedRows.known c.self.inside.rows.now c.self.inside.seat c.peek.new.seat c.self.inside.reads _ c.args.self.now c.self.view_is c.peek.ensures.seat
