use Rattle.std.proofs.Common.{Some, None, sym, ap, ◌∙◌}
use Rattle.std.proofs.lemmas.Result.{IfOk-weaker}
use Rattle.device_types.specs.declared.effect.Effect.TheVariants as effects
use Rattle.peer_calls.specs.Calls.{calls_of}
use Rattle.crash_run.specs.declared.course.Peer.{Peer}
use Rattle.crash_run.specs.declared.course.Peer.TheVariants.{Gateway, Server}
use Rattle.crash_run.proofs.Courses.{answer_next, message_next, some_accepted, stage_known}
use Rattle.crash_run.proofs.course.Course.next_input.Goals as goal

pub answer-requires-clause-number : goal.answer-requires-clause-number
answer-requires-clause-number c =
    let at = stage_known c.args.row.now c.args.messages.now c.args.v c.args.self.now c.session.result.now (Some Gateway) c.requires.course c.session.ensures (ap (λ (p : Peer). Some p) (sym c.in-Some-Gateway.field-0-is) ∙ c.in-Some-Gateway.ensures) in
    (some_accepted effects.Gateway Gateway c.args.row.now c.args.messages.now c.args.v c.accepted-k.result (calls_of c.args.self.now.peers.gateway c.args.row.now.number) at c.requires.course.peers_have.gateway_is c.accepted-k.ensures c.requires.count).0

pub answer-requires-clause-count : goal.answer-requires-clause-count
answer-requires-clause-count c =
    let at = stage_known c.args.row.now c.args.messages.now c.args.v c.args.self.now c.session.result.now (Some Gateway) c.requires.course c.session.ensures (ap (λ (p : Peer). Some p) (sym c.in-Some-Gateway.field-0-is) ∙ c.in-Some-Gateway.ensures) in
    (some_accepted effects.Gateway Gateway c.args.row.now c.args.messages.now c.args.v c.accepted-k.result (calls_of c.args.self.now.peers.gateway c.args.row.now.number) at c.requires.course.peers_have.gateway_is c.accepted-k.ensures c.requires.count).2

pub answer-requires-in-Some-Server-clause-number : goal.answer-requires-in-Some-Server-clause-number
answer-requires-in-Some-Server-clause-number c =
    let at = stage_known c.args.row.now c.args.messages.now c.args.v c.args.self.now c.session.result.now (Some Server) c.requires.course c.session.ensures (ap (λ (p : Peer). Some p) (sym c.in-Some-Server.field-0-is) ∙ c.in-Some-Server.ensures) in
    (some_accepted effects.Subscriber Server c.args.row.now c.args.messages.now c.args.v c.accepted-k-in-Some-Server.result (calls_of c.args.self.now.peers.server c.args.row.now.number) at c.requires.course.peers_have.server_is c.accepted-k-in-Some-Server.ensures c.requires.count).0

pub returns-in-Some-Gateway : goal.returns-in-Some-Gateway
returns-in-Some-Gateway c =
    let at = stage_known c.args.row.now c.args.messages.now c.args.v c.args.self.now c.session.result.now (Some Gateway) c.requires.course c.session.ensures (ap (λ (p : Peer). Some p) (sym c.in-Some-Gateway.field-0-is) ∙ c.in-Some-Gateway.ensures) in
    answer_next effects.Gateway Gateway c.args.row.now c.args.messages.now c.args.v c.accepted-k.result (calls_of c.args.self.now.peers.gateway c.args.row.now.number) c.answer.result at c.requires.course.peers_have.gateway_is c.accepted-k.ensures c.answer.ensures

pub returns-in_ok-answer-in-Some-Server : goal.returns-in_ok-answer-in-Some-Server
returns-in_ok-answer-in-Some-Server c =
    let at = stage_known c.args.row.now c.args.messages.now c.args.v c.args.self.now c.session.result.now (Some Server) c.requires.course c.session.ensures (ap (λ (p : Peer). Some p) (sym c.in-Some-Server.field-0-is) ∙ c.in-Some-Server.ensures) in
    answer_next effects.Subscriber Server c.args.row.now c.args.messages.now c.args.v c.accepted-k-in-Some-Server.result (calls_of c.args.self.now.peers.server c.args.row.now.number) c.in_ok-answer-in-Some-Server.field-0 at c.requires.course.peers_have.server_is c.accepted-k-in-Some-Server.ensures c.in_ok-answer-in-Some-Server.ensures

pub returns-in-None : goal.returns-in-None
returns-in-None c =
    let at = stage_known c.args.row.now c.args.messages.now c.args.v c.args.self.now c.session.result.now None c.requires.course c.session.ensures c.in-None.ensures in
    let next = message_next c.args.row.now c.args.messages.now c.args.v c.args.self.now.taken at c.requires.course.taken_is in
    IfOk-weaker c.next_message.result _ _ (λ input is. is ∙ next) c.next_message.ensures
