use Rattle.std.proofs.Common.{◌≡◌, ◌-◌, List, [], ◌∷◌, Some, sym, ap, ◌∙◌, subst}
use Rattle.std.specs.Prelude.{slice_get}
use Rattle.device_types.specs.declared.effect.Effect.TheVariants as effects
use Rattle.device_types.specs.declared.effect.SubCall.{SubCall}
use Rattle.device_types.specs.declared.event.Event.TheVariants.{Effect}
use Rattle.device_types.specs.declared.event.Lane.TheVariants.{Subscriber}
use Rattle.device_types.specs.Journal.{effects_of}
use Rattle.peer_calls.specs.Calls.{calls_of, offer_of, after_offer}
use Rattle.peer_subscriber.specs.Server.{subscriber_answer_of}
use Rattle.session_store.specs.Rows.{opening_row}
use Rattle.schedule_laws.specs.Answer.{history}
use Rattle.schedule_laws.specs.Setting.{entries_of}
use Rattle.link_schedule.specs.Told.{offer_answer}
use Rattle.link_schedule.specs.View.{view_of}
use Rattle.link_schedule.specs.World.{ArePartsOf}
use Rattle.link_schedule.proofs.Contents.{content_is, content_on}
use Rattle.link_schedule.proofs.Noted.{ComesTo, event_in, on_link_in, notes, gives}
use Rattle.link_schedule.proofs.Offers.{offers_subscriber}
use Rattle.link_schedule.proofs.world.World.server_call_arrives.Goals as goal
use Rattle.link_schedule.proofs.world.World.server_call_arrives.Goals.{In_ok-offer}

pub server_call_on_link-requires-clause-there : goal.server_call_on_link-requires-clause-there
server_call_on_link-requires-clause-there c =
    let w = view_of c.self.inside in
    let is = c.self.invariant.world in
    let i = event_in c.args.self.now w (Effect c.args.d Subscriber c.args.k) c.self.view_is c.requires.event in
    let on = on_link_in c.args.self.now w c.args.d.0 Subscriber c.args.k c.self.view_is c.requires.pushed in
    content_on w.setting (history w.setting w.events) c.args.d.0 Subscriber c.args.k _ _ is.lawful on (is.parts.rows.at c.args.d.0 opening_row i.0) (is.parts.subscriber.at c.args.d.0 [] i.0)

arrived : (c : In_ok-offer) → let w = view_of c.self.inside in let calls = w.parts.subscriber in
    ComesTo w (Effect c.args.d Subscriber c.args.k) (offer_answer c.args.k (offer_of (subscriber_answer_of c.row_at-row.result.now) (calls_of calls c.args.d.0) c.args.k c.in_ok-call.call)) (record w.parts { subscriber = after_offer calls c.args.d.0 c.args.k c.in_ok-call.call })
arrived c =
    let w = view_of c.self.inside in
    let H = history w.setting w.events in
    let is = c.self.invariant.world in
    let i = event_in c.args.self.now w (Effect c.args.d Subscriber c.args.k) c.self.view_is c.requires.event in
    let on = on_link_in c.args.self.now w c.args.d.0 Subscriber c.args.k c.self.view_is c.requires.pushed in
    let got : slice_get (effects_of Subscriber (entries_of w.setting c.args.d.0)) (c.args.k - 1) ≡ Some (effects.Subscriber c.in_ok-call.call) = sym (content_is w.setting H c.args.d.0 Subscriber c.args.k _ _ is.lawful on (is.parts.rows.at c.args.d.0 opening_row i.0) (is.parts.subscriber.at c.args.d.0 [] i.0)) ∙ c.in_ok-call.ensures in
    let both = offers_subscriber w.setting H w.parts c.args.d c.args.k c.in_ok-call.call (subscriber_answer_of c.row_at-row.result.now) is.lawful on got i.0 is.parts in
    record { event = i; given = both.0; parts = both.1 }

pub invariant_of-self-2 : goal.invariant_of-self-2
invariant_of-self-2 c =
    let w = view_of c.self.inside in
    let e = Effect c.args.d Subscriber c.args.k in
    let made = arrived (goal.at.invariant_of-self-2 c).In_ok-offer in
    let calls : c.offer.new.self ≡ after_offer c.self.inside.server c.args.d.0 c.args.k c.in_ok-call.call = rw c.row_at-row.ensures.number at c.in_ok-offer.ensures.calls in
    let a = offer_answer c.args.k (offer_of (subscriber_answer_of c.row_at-row.result.now) (calls_of c.self.inside.server c.args.d.0) c.args.k c.in_ok-call.call) in
    record {
      charter = c.self.invariant.charter;
      caches = c.self.invariant.caches;
      world = notes w e a _ c.noted.new.self c.noted.ensures.events c.self.invariant.world made.event made.given
          (subst (λ (x : List (List SubCall)). ArePartsOf w.setting ((e, a) ∷ history w.setting w.events) (record w.parts { subscriber = x })) (sym calls) made.parts);
    }

pub returns-clause-ok : goal.returns-clause-ok
returns-clause-ok c =
    let w = view_of c.self.inside in
    let made = arrived (goal.at.returns-clause-ok c).In_ok-offer in
    let offer : c.in_ok-offer.offer ≡ offer_of (subscriber_answer_of c.row_at-row.result.now) (calls_of c.self.inside.server c.args.d.0) c.args.k c.in_ok-call.call = rw c.row_at-row.ensures.number at c.in_ok-offer.ensures.offer in
    gives c.args.self.now w (Effect c.args.d Subscriber c.args.k) c.noted.result _ c.noted.new.self c.self.view_is c.noted.ensures.events (c.noted.ensures.answer ∙ c.offer_answer-answer.ensures ∙ ap (offer_answer c.args.k) offer ∙ made.given)
