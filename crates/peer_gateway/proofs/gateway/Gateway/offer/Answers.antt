use Rattle.std.proofs.Common.{ap, sym, ◌∙◌, subst, map}
use Rattle.device_types.specs.PeerAnswer.{create_count}
use Rattle.peer_gateway.specs.Counted.{effect_in, AreCounted}
use Rattle.peer_gateway.proofs.Counting.{all_counted, done_within, calls_next}
use Rattle.peer_gateway.proofs.gateway.Gateway.offer.Goals as goal

pub invariant_of-self-in-Next : goal.invariant_of-self-in-Next
invariant_of-self-in-Next c =
    subst AreCounted (sym c.in_ok-accept-in-Next.ensures.ok)
    (all_counted c.self.inside.done c.args.row.now.number _ (done_within c.self.inside.done _ c.args.row.now.number c.self.view_is c.requires.device) c.self.invariant
    (c.creates_in-creates.ensures ∙ ap (λ xs. create_count (map effect_in xs)) c.calls.ensures))

pub returns-in_ok-accept-in-Next-clause-calls : goal.returns-in_ok-accept-in-Next-clause-calls
returns-in_ok-accept-in-Next-clause-calls c = calls_next c.self.inside.done c.accept.new.self _ c.args.row.now.number c.args.k _ c.self.view_is c.in_ok-accept-in-Next.ensures.ok c.in-Next.ensures
