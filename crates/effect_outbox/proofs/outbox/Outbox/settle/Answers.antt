use Rattle.std.proofs.Common.{ap, ◌∙◌}
use Rattle.effect_outbox.specs.Outbox.{OutboxState}
use Rattle.effect_outbox.specs.Queues.{state_from}
use Rattle.effect_outbox.proofs.Steps.{state_settled}
use Rattle.effect_outbox.proofs.outbox.Outbox.settle.Goals as goal

pub returns-clause-rest : goal.returns-clause-rest
returns-clause-rest c lanes settled h =
    state_settled c.args.self.now _ lanes settled c.args.lane c.args.k (c.settle.ensures.state ∙ ap (λ (outbox : OutboxState). state_from outbox c.args.lane c.args.k) c.self.view_is) c.requires h
