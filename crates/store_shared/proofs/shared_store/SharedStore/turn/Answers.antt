use Rattle.std.proofs.Common.{ℕ, List, sym, ap, ◌∙◌, subst}
use Rattle.std.specs.Prelude.{slice_get, IfOk, IfErr}
use Rattle.session_store.specs.Shards.{shard_of}
use Rattle.store_shared.specs.declared.basis.ShardBasis.{ShardBasis}
use Rattle.store_shared.specs.declared.turn.Turn.{Turn}
use Rattle.front_lock.specs.FrontRow.{TurnsAt, MissesAt}
use Rattle.store_shared.specs.StoreBases.{basis_at, seat_of, store_basis, store_turns}
use Rattle.store_shared.proofs.Turns.{front_basis, low, seen_is}
use Rattle.store_shared.proofs.shared_store.SharedStore.turn.Goals as goal

pub turn-requires-clause-can : goal.turn-requires-clause-can
turn-requires-clause-can g c = λ f s gf gs.
    let fs = c.args.self.now.fronts.fronts.items in
    let old = c.args.seat.now.seats.items in
    let here = ap (slice_get fs) (sym c.place_of.ensures) ∙ gf in
    let e = front_basis (store_basis {L = g.row.L.Denot} {h = g.L.RowLaw}) (basis_at c.args.self.now.devices (g.L.RowLaw.charter c.args.self.now.law)) fs (shard_of c.args.d.0) f c.args.self.now.based (low c.args.d) here in
    let seen = seen_is old (shard_of c.args.d.0) s (ap (slice_get old) (sym c.place_of.ensures) ∙ gs) in
    subst (λ (t : ShardBasis × List Turn). g.J.Job.can c.args.job t.0 t.1) (λ j. (sym e j, seen j)) c.requires.can

pub returns-clause-ok : goal.returns-clause-ok
returns-clause-ok g c =
    subst (λ (n : ℕ). IfOk c.turn.result (λ a. TurnsAt (store_turns {L = g.row.L.Denot} {h = g.L.RowLaw}) (store_basis {L = g.row.L.Denot} {h = g.L.RowLaw}) seat_of (g.J.Job.done c.args.job) c.args.seat.now.seats.items n a c.turn.new.me.seats.items)) c.place_of.ensures c.turn.ensures.ok

pub returns-clause-err : goal.returns-clause-err
returns-clause-err g c =
    subst (λ (n : ℕ). IfErr c.turn.result (λ room. MissesAt (store_turns {L = g.row.L.Denot} {h = g.L.RowLaw}) (store_basis {L = g.row.L.Denot} {h = g.L.RowLaw}) c.args.seat.now.seats.items n c.turn.new.me.seats.items)) c.place_of.ensures c.turn.ensures.err
