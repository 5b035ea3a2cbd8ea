use Rattle.std.proofs.Common.{◌≡◌}
use Rattle.store_shared.specs.declared.turn.TurnCall.TheVariants as calls
use Rattle.store_shared.specs.declared.turn.TurnAnswer.TheVariants as answers
use Rattle.session_store.specs.Seen.{seen_of}
use Rattle.store_shared.specs.Legal.{journal_in}
use Rattle.store_shared.specs.StoreBases.{store_basis, store_turns}
use Rattle.store_shared.proofs.Turns.{called_where}
use Rattle.store_shared.proofs.shared_store.SharedStore.read.Goals as goal

pub returns-clause-ok : goal.returns-clause-ok
returns-clause-ok g c =
    called_where (store_turns {L = g.row.L.Denot} {h = g.L.RowLaw}) (store_basis {L = g.row.L.Denot} {h = g.L.RowLaw}) g.L.RowLaw.follows c.args.self.now.devices (g.L.RowLaw.charter c.args.self.now.law)
    c.args.self.now.fronts.fronts.items c.args.seat.now.seats.items c.ask.new.seat.seats.items c.args.d (calls.Read c.args.asked) (λ a. answers.Read a) (λ a before. a ≡ seen_of (journal_in c.args.d.0 before) c.args.asked) _ c.ask.result
    (λ y. y.kept.legal) (λ a b before x m. m) c.requires.seat c.args.self.now.based c.ask.ensures.ok
