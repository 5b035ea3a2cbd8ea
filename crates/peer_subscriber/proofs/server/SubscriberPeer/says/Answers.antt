use Rattle.std.proofs.Common.{◌≡◌, List, length, ◌∙◌, sym, subst, ap}
use Rattle.device_types.specs.declared.effect.SubCall.{SubCall}
use Rattle.device_types.specs.declared.input.Offer.TheVariants as offer
use Rattle.peer_calls.specs.Calls.{calls_of, arrival_of, offer_of}
use Rattle.peer_calls.proofs.Offers.{offer_next, offer_again}
use Rattle.peer_subscriber.specs.Server.{subscriber_answer_of}
use Rattle.peer_subscriber.proofs.Answers.{answer_next}
use Rattle.peer_subscriber.proofs.server.SubscriberPeer.says.Goals as goal

pub returns-in_ok-answer-in-Next-clause-offer : goal.returns-in_ok-answer-in-Next-clause-offer
returns-in_ok-answer-in-Next-clause-offer c =
    let row = c.args.row.now in
    let calls = calls_of c.self.inside.done row.number in
    subst (λ (cs : List (List SubCall)). offer.Accepted c.in_ok-answer-in-Next.answer ≡ offer_of (subscriber_answer_of row) (calls_of cs row.number) c.args.k c.args.call) c.self.view_is
    (offer_next (subscriber_answer_of row) calls c.args.k c.args.call _ c.in-Next.ensures (c.in_ok-answer-in-Next.ensures ∙ sym (answer_next row calls c.args.call)))

pub returns-in_ok-answer-in-Repeat-clause-offer : goal.returns-in_ok-answer-in-Repeat-clause-offer
returns-in_ok-answer-in-Repeat-clause-offer c =
    let row = c.args.row.now in
    offer_again (subscriber_answer_of row) (calls_of c.args.self.now row.number) c.args.k c.args.call _
    (c.in-Repeat.ensures ∙ ap (λ (cs : List (List SubCall)). arrival_of (length (calls_of cs row.number)) c.args.k) c.self.view_is) c.in_ok-answer-in-Repeat.ensures
