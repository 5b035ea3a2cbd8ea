use Rattle.std.proofs.Common.{◌≡◌, ◌-◌, ◌≤◌, List, length, get_or, ap, ◌∙◌, sym, subst, take, arith}
use Rattle.std.specs.Prelude.{IfOk}
use Rattle.device_types.specs.declared.effect.SubCall.{SubCall}
use Rattle.device_types.specs.declared.effect.SubCall.TheVariants.{Vectors}
use Rattle.device_types.specs.declared.input.Answer.{Answer}
use Rattle.peer_calls.specs.Calls.{calls_of}
use Rattle.peer_calls.proofs.Offers.{call_found}
use Rattle.peer_subscriber.specs.Server.{subscriber_answer_of}
use Rattle.peer_subscriber.proofs.Answers.{answer_again}
use Rattle.peer_subscriber.proofs.server.SubscriberPeer.answer.Goals as goal

pub returns : goal.returns
returns c =
    let row = c.args.row.now in
    let calls = calls_of c.self.inside.done row.number in
    let count = ap (λ (cs : List (List SubCall)). length (calls_of cs row.number)) c.self.view_is in
    let high = c.requires.accepted in
    let within : c.args.k ≤ length calls = omega arith in
    let found = call_found calls c.calls.result.now c.args.k Vectors c.calls.ensures c.requires.number within in
    subst (λ (a : Answer). IfOk c.answer.result (λ answer. answer ≡ a))
    (sym (answer_again row calls c.args.k (get_or c.calls.result.now (c.args.k - 1) Vectors) c.requires.number found)
    ∙ ap (λ (cs : List (List SubCall)). subscriber_answer_of row (take c.args.k (calls_of cs row.number))) c.self.view_is)
    c.answer.ensures
