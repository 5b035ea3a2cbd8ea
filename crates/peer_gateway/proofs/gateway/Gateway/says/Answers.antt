use Rattle.std.proofs.Common.{ap, sym, ◌∙◌, map}
use Rattle.device_types.specs.PeerAnswer.{create_count}
use Rattle.peer_calls.specs.Calls.{calls_of, arrival_of}
use Rattle.peer_calls.proofs.Offers.{offer_again}
use Rattle.peer_gateway.specs.Counted.{effect_in}
use Rattle.peer_gateway.specs.Gateway.{gateway_answer_of}
use Rattle.peer_gateway.proofs.Counting.{done_counted, said_next}
use Rattle.peer_gateway.proofs.gateway.Gateway.says.Goals as goal

pub returns-in-Next : goal.returns-in-Next
returns-in-Next c =
    said_next c.args.row.now c.self.inside.done _ c.args.k c.args.call c.creates_in-creates.result c.answer.result c.self.view_is c.in-Next.ensures
    (c.creates_in-creates.ensures ∙ ap (λ xs. create_count (map effect_in xs)) c.calls.ensures) c.answer.ensures

pub returns-in-Repeat : goal.returns-in-Repeat
returns-in-Repeat c =
    offer_again (gateway_answer_of c.args.row.now) (calls_of c.args.self.now c.args.row.now.number) c.args.k c.args.call c.answer-in-Repeat.result
    (c.in-Repeat.ensures ∙ ap (λ n. arrival_of n c.args.k) (done_counted c.self.inside.done _ c.args.row.now.number c.self.view_is)) c.answer-in-Repeat.ensures
