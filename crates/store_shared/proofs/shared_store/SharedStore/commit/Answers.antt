use Rattle.std.proofs.Common.{◌≡◌, length}
use Rattle.store_shared.specs.declared.turn.TurnCall.TheVariants as calls
use Rattle.store_shared.specs.declared.turn.TurnAnswer.TheVariants as answers
use Rattle.store_shared.specs.Legal.{journal_in, commit_of, IsBehind}
use Rattle.store_shared.specs.StoreBases.{store_basis, store_turns}
use Rattle.store_shared.proofs.Turns.{called, told}
use Rattle.store_shared.proofs.shared_store.SharedStore.commit.Goals as goal

pub returns-in-Ok-clause-ok : goal.returns-in-Ok-clause-ok
returns-in-Ok-clause-ok g c =
    called (store_turns {L = g.row.L.Denot} {h = g.L.RowLaw}) (store_basis {L = g.row.L.Denot} {h = g.L.RowLaw}) g.L.RowLaw.follows c.args.self.now.devices (g.L.RowLaw.charter c.args.self.now.law)
    c.args.self.now.fronts.fronts.items c.args.seat.now.seats.items c.turn.new.seat.seats.items c.args.d (calls.Commit c.args.read c.args.entry) (answers.Commit c.in-Ok.answer)
    (λ before. (c.in-Ok.answer ≡ commit_of (length (journal_in c.args.d.0 before)) c.args.read) × IsBehind c.args.read c.in-Ok.answer) _ c.in-Ok.answer
    (λ y. y.kept.legal) (λ b before x m. (m.0, (m.1, m.2))) c.requires.seat c.args.self.now.based c.in-Ok.ensures.ok

pub returns-in-Ok-clause-tells : goal.returns-in-Ok-clause-tells
returns-in-Ok-clause-tells g c =
    told g.L.RowLaw.follows c.args.self.now.devices (g.L.RowLaw.charter c.args.self.now.law) c.args.seat.now.seats.items c.turn.new.seat.seats.items c.args.d c.args.read c.args.entry c.in-Ok.answer (returns-in-Ok-clause-ok g c)
