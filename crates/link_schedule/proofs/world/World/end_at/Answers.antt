use Rattle.std.proofs.Common.{List, [], sym, ap, ◌∙◌, subst}
use Rattle.std.specs.Prelude.{map}
use Rattle.device_types.specs.declared.down.Down.{Down as DownMessage}
use Rattle.device_types.specs.declared.effect.Effect.TheVariants as effects
use Rattle.device_types.specs.declared.effect.GwCall.{GwCall}
use Rattle.device_types.specs.declared.effect.SubCall.{SubCall}
use Rattle.device_types.specs.Journal.{version_of, session_of, taken_count}
use Rattle.link_schedule.specs.Finals.{end_in}
use Rattle.link_schedule.specs.Settled.{turns_in, journal_in}
use Rattle.link_schedule.specs.View.{view_of}
use Rattle.link_schedule.specs.World.{WorldState, IsWindowOf}
use Rattle.link_schedule.proofs.Ends.{end_made}
use Rattle.link_schedule.proofs.Noted.{device_in}
use Rattle.link_schedule.proofs.world.World.end_at.Goals as goal

pub returns : goal.returns
returns c =
    let w = view_of c.self.inside in
    let d = c.args.d.0 in
    let within = device_in c.args.self.now w d c.self.view_is c.requires in
    let parts = c.self.invariant.world.parts in
    let back = sym c.self.view_is in
    let own = subst (λ (x : WorldState). IsWindowOf x.setting (turns_in x) d c.agent.result.now) back c.agent.ensures in
    let messages = c.taken_count.ensures ∙ ap (λ (x : WorldState). taken_count (journal_in x d)) back in
    let steps = c.version.ensures ∙ ap version_of c.row-row.ensures ∙ ap (λ (x : WorldState). version_of (journal_in x d)) back in
    let downs = ap (λ (ds : List DownMessage). map effects.Down ds) (c.in_ok-copied_downs.ensures ∙ c.downs.ensures) ∙ own.downs in
    let gateway = ap (λ (calls : List GwCall). map effects.Gateway calls) c.in_ok-calls.ensures ∙ parts.gateway.at d [] within in
    let subscriber = ap (λ (calls : List SubCall). map effects.Subscriber calls) c.in_ok-calls-2.ensures ∙ parts.subscriber.at d [] within in
    let session = c.in_ok-session.ensures.value ∙ ap session_of c.row-row.ensures ∙ ap (λ (x : WorldState). session_of (journal_in x d)) back in
    end_made w d _ _ _ _ _ _ messages steps downs gateway subscriber session ∙ ap (λ (x : WorldState). end_in x d) c.self.view_is
