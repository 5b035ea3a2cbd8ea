use Rattle.std.proofs.Common.{◌≡◌, [], ◌∷◌, ◌++◌, rules, sym, subst}
use Rattle.gtp2_wire.specs.Calls.{IsGatewayAnswer}
use Rattle.peer_calls.specs.Calls.{calls_of}
use Rattle.peer_gateway.specs.Gateway.{gateway_answer_of}
use Rattle.report_text.proofs.Accepted.{answer_of_gateway}
use Rattle.report_text.proofs.gateway_calls.accept.Goals as goal

pub returns-clause-gateway : goal.returns-clause-gateway
returns-clause-gateway c =
    let calls = calls_of c.args.gateway.now c.args.row.now.number in
    let is : c.in-Accepted.answer ≡ gateway_answer_of c.args.row.now (calls ++ c.args.call ∷ []) = search rules in
    subst IsGatewayAnswer (sym is) (answer_of_gateway c.args.row.now calls c.args.call)
