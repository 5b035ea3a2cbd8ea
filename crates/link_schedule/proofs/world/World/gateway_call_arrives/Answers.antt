use Rattle.std.proofs.Common.{◌≡◌, ◌-◌, List, [], ◌∷◌, Some, sym, ap, ◌∙◌, subst, arith}
use Rattle.std.specs.Prelude.{slice_get}
use Rattle.device_types.specs.declared.effect.Effect.TheVariants as effects
use Rattle.device_types.specs.declared.effect.GwCall.{GwCall}
use Rattle.device_types.specs.declared.event.Event.TheVariants.{Effect}
use Rattle.device_types.specs.declared.event.Lane.TheVariants.{Gateway}
use Rattle.device_types.specs.Journal.{effects_of}
use Rattle.peer_calls.specs.Calls.{calls_of, offer_of, after_offer}
use Rattle.peer_gateway.specs.Gateway.{gateway_answer_of}
use Rattle.session_store.specs.Rows.{opening_row}
use Rattle.schedule_laws.specs.Answer.{history}
use Rattle.schedule_laws.specs.Setting.{entries_of}
use Rattle.link_schedule.specs.Told.{offer_answer}
use Rattle.link_schedule.specs.View.{view_of}
use Rattle.link_schedule.specs.World.{ArePartsOf}
use Rattle.link_schedule.proofs.Calls.{effects_few}
use Rattle.link_schedule.proofs.Contents.{content_is, content_on}
use Rattle.schedule_laws.proofs.Laws.{pushed_bound}
use Rattle.link_schedule.proofs.Noted.{ComesTo, event_in, on_link_in, notes, gives}
use Rattle.link_schedule.proofs.Offers.{offers_gateway}
use Rattle.link_schedule.proofs.world.World.gateway_call_arrives.Goals as goal
use Rattle.link_schedule.proofs.world.World.gateway_call_arrives.Goals.{In_ok-offer}

pub gateway_call_on_link-requires-clause-there : goal.gateway_call_on_link-requires-clause-there
gateway_call_on_link-requires-clause-there c =
    let w = view_of c.self.inside in
    let is = c.self.invariant.world in
    let i = event_in c.args.self.now w (Effect c.args.d Gateway c.args.k) c.self.view_is c.requires.event in
    let on = on_link_in c.args.self.now w c.args.d.0 Gateway c.args.k c.self.view_is c.requires.pushed in
    content_on w.setting (history w.setting w.events) c.args.d.0 Gateway c.args.k _ _ is.lawful on (is.parts.rows.at c.args.d.0 opening_row i.0) (is.parts.gateway.at c.args.d.0 [] i.0)

pub offer-requires-clause-count : goal.offer-requires-clause-count
offer-requires-clause-count c =
    let w = view_of c.self.inside in
    let H = history w.setting w.events in
    let is = c.self.invariant.world in
    let i = event_in c.args.self.now w (Effect c.args.d Gateway c.args.k) c.self.view_is c.requires.event in
    let on = on_link_in c.args.self.now w c.args.d.0 Gateway c.args.k c.self.view_is c.requires.pushed in
    let made = (pushed_bound w.setting c.args.d.0 Gateway c.args.k H is.lawful on).2 in
    let few = effects_few w.setting H c.args.d.0 Gateway is.setting is.lawful i.0 in
    omega (arith, made, few)

arrived : (c : In_ok-offer) → let w = view_of c.self.inside in let calls = w.parts.gateway in
    ComesTo w (Effect c.args.d Gateway c.args.k) (offer_answer c.args.k (offer_of (gateway_answer_of c.row_at-row.result.now) (calls_of calls c.args.d.0) c.args.k c.in_ok-call.call)) (record w.parts { gateway = after_offer calls c.args.d.0 c.args.k c.in_ok-call.call })
arrived c =
    let w = view_of c.self.inside in
    let H = history w.setting w.events in
    let is = c.self.invariant.world in
    let i = event_in c.args.self.now w (Effect c.args.d Gateway c.args.k) c.self.view_is c.requires.event in
    let on = on_link_in c.args.self.now w c.args.d.0 Gateway c.args.k c.self.view_is c.requires.pushed in
    let got : slice_get (effects_of Gateway (entries_of w.setting c.args.d.0)) (c.args.k - 1) ≡ Some (effects.Gateway c.in_ok-call.call) = sym (content_is w.setting H c.args.d.0 Gateway c.args.k _ _ is.lawful on (is.parts.rows.at c.args.d.0 opening_row i.0) (is.parts.gateway.at c.args.d.0 [] i.0)) ∙ c.in_ok-call.ensures in
    let both = offers_gateway w.setting H w.parts c.args.d c.args.k c.in_ok-call.call (gateway_answer_of c.row_at-row.result.now) is.lawful on got i.0 is.parts in
    record { event = i; given = both.0; parts = both.1 }

pub invariant_of-self-2 : goal.invariant_of-self-2
invariant_of-self-2 c =
    let w = view_of c.self.inside in
    let e = Effect c.args.d Gateway c.args.k in
    let made = arrived (goal.at.invariant_of-self-2 c).In_ok-offer in
    let calls : c.offer.new.self ≡ after_offer c.self.inside.gateway c.args.d.0 c.args.k c.in_ok-call.call = rw c.row_at-row.ensures.number at c.in_ok-offer.ensures.calls in
    let a = offer_answer c.args.k (offer_of (gateway_answer_of c.row_at-row.result.now) (calls_of c.self.inside.gateway c.args.d.0) c.args.k c.in_ok-call.call) in
    record {
      charter = c.self.invariant.charter;
      caches = c.self.invariant.caches;
      world = notes w e a _ c.noted.new.self c.noted.ensures.events c.self.invariant.world made.event made.given
          (subst (λ (x : List (List GwCall)). ArePartsOf w.setting ((e, a) ∷ history w.setting w.events) (record w.parts { gateway = x })) (sym calls) made.parts);
    }

pub returns-clause-ok : goal.returns-clause-ok
returns-clause-ok c =
    let w = view_of c.self.inside in
    let made = arrived (goal.at.returns-clause-ok c).In_ok-offer in
    let offer : c.in_ok-offer.offer ≡ offer_of (gateway_answer_of c.row_at-row.result.now) (calls_of c.self.inside.gateway c.args.d.0) c.args.k c.in_ok-call.call = rw c.row_at-row.ensures.number at c.in_ok-offer.ensures.offer in
    gives c.args.self.now w (Effect c.args.d Gateway c.args.k) c.noted.result _ c.noted.new.self c.self.view_is c.noted.ensures.events (c.noted.ensures.answer ∙ c.offer_answer-answer.ensures ∙ ap (offer_answer c.args.k) offer ∙ made.given)
