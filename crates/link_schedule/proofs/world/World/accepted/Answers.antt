use Rattle.std.proofs.Common.{◌≡◌, [], length, sym, subst, ap, ◌∙◌}
use Rattle.peer_calls.specs.Calls.{calls_of}
use Rattle.schedule_laws.specs.Answer.{history}
use Rattle.schedule_laws.specs.Counts.{accepted}
use Rattle.link_schedule.specs.View.{view_of}
use Rattle.link_schedule.specs.World.{WorldState}
use Rattle.link_schedule.proofs.Calls.{downs_count, gateway_count, subscriber_count}
use Rattle.link_schedule.proofs.Events.{window_read}
use Rattle.link_schedule.proofs.Noted.{device_in}
use Rattle.link_schedule.proofs.world.World.accepted.Goals as goal

pub returns-in-Down : goal.returns-in-Down
returns-in-Down c =
    let w = view_of c.self.inside in
    let H = history w.setting w.events in
    let is = c.self.invariant.world in
    let within = device_in c.args.self.now w c.args.d.0 c.self.view_is c.requires in
    let agent = c.index.result.now in
    let own = window_read w.setting H w.parts c.args.d.0 agent (rw (← c.index-index.ensures) c.index.ensures) within is.parts in
    let count = ap length c.downs.ensures ∙ downs_count w.setting H c.args.d.0 agent is.lawful own ∙ ap (λ l. accepted c.args.d.0 l H) (sym c.in-Down.is) in
    subst (λ (x : WorldState). length c.downs.result.now ≡ accepted c.args.d.0 c.args.lane (history x.setting x.events)) c.self.view_is count

pub returns-in-Gateway : goal.returns-in-Gateway
returns-in-Gateway c =
    let w = view_of c.self.inside in
    let H = history w.setting w.events in
    let is = c.self.invariant.world in
    let within = device_in c.args.self.now w c.args.d.0 c.self.view_is c.requires in
    let calls = calls_of c.self.inside.gateway c.args.d.0 in
    let count = c.accepted.ensures ∙ gateway_count w.setting H c.args.d.0 calls is.lawful (is.parts.gateway.at c.args.d.0 [] within) ∙ ap (λ l. accepted c.args.d.0 l H) (sym c.in-Gateway.is) in
    subst (λ (x : WorldState). c.accepted.result ≡ accepted c.args.d.0 c.args.lane (history x.setting x.events)) c.self.view_is count

pub returns-in-Subscriber : goal.returns-in-Subscriber
returns-in-Subscriber c =
    let w = view_of c.self.inside in
    let H = history w.setting w.events in
    let is = c.self.invariant.world in
    let within = device_in c.args.self.now w c.args.d.0 c.self.view_is c.requires in
    let calls = calls_of c.self.inside.server c.args.d.0 in
    let count = c.accepted-in-Subscriber.ensures ∙ subscriber_count w.setting H c.args.d.0 calls is.lawful (is.parts.subscriber.at c.args.d.0 [] within) ∙ ap (λ l. accepted c.args.d.0 l H) (sym c.in-Subscriber.is) in
    subst (λ (x : WorldState). c.accepted-in-Subscriber.result ≡ accepted c.args.d.0 c.args.lane (history x.setting x.events)) c.self.view_is count
