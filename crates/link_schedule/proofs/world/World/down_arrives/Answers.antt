use Rattle.std.proofs.Common.{◌≡◌, ◌-◌, set, Some, sym, ap, ◌∙◌}
use Rattle.std.specs.Prelude.{slice_get}
use Rattle.agent_resend.specs.Window.{down_taken, after_down}
use Rattle.device_types.specs.declared.effect.Effect.TheVariants as effects
use Rattle.device_types.specs.declared.event.Event.TheVariants.{Effect}
use Rattle.device_types.specs.declared.event.Lane.TheVariants.{Down}
use Rattle.device_types.specs.Journal.{effects_of}
use Rattle.session_store.specs.Rows.{opening_row}
use Rattle.schedule_laws.specs.Answer.{history}
use Rattle.schedule_laws.specs.Setting.{entries_of}
use Rattle.link_schedule.specs.Told.{down_answer}
use Rattle.link_schedule.specs.View.{view_of}
use Rattle.link_schedule.specs.World.{IsWindowOf}
use Rattle.link_schedule.proofs.Calls.{downs}
use Rattle.link_schedule.proofs.Contents.{content_is, content_on}
use Rattle.link_schedule.proofs.Events.{window_read}
use Rattle.link_schedule.proofs.Noted.{ComesTo, event_in, on_link_in, notes, gives}
use Rattle.link_schedule.proofs.world.World.down_arrives.Goals as goal
use Rattle.link_schedule.proofs.world.World.down_arrives.Goals.{After-index, In_ok-taken}

window_at : (c : After-index) → IsWindowOf (view_of c.self.inside).setting (history (view_of c.self.inside).setting (view_of c.self.inside).events) c.args.d.0 c.index.result.now
window_at c =
    let w = view_of c.self.inside in
    let i = event_in c.args.self.now w (Effect c.args.d Down c.args.k) c.self.view_is c.requires.event in
    window_read w.setting (history w.setting w.events) w.parts c.args.d.0 c.index.result.now (rw (← c.index-index.ensures) c.index.ensures) i.0 c.self.invariant.world.parts

pub down_on_link-requires-clause-there : goal.down_on_link-requires-clause-there
down_on_link-requires-clause-there c =
    let w = view_of c.self.inside in
    let is = c.self.invariant.world in
    let i = event_in c.args.self.now w (Effect c.args.d Down c.args.k) c.self.view_is c.requires.event in
    let on = on_link_in c.args.self.now w c.args.d.0 Down c.args.k c.self.view_is c.requires.pushed in
    let own = window_at (goal.at.down_on_link-requires-clause-there c).After-index in
    content_on w.setting (history w.setting w.events) c.args.d.0 Down c.args.k _ _ is.lawful on (is.parts.rows.at c.args.d.0 opening_row i.0) own.downs

arrived : (c : In_ok-taken) → let w = view_of c.self.inside in let was = c.index_mut.result.now in
    IsWindowOf w.setting (history w.setting w.events) c.args.d.0 c.index.result.now → ComesTo w (Effect c.args.d Down c.args.k) (down_answer (down_taken was.downs c.args.k)) (record w.parts { windows = set w.parts.windows (c.args.d.0 - 1) c.take_down.new.self })
arrived c own =
    let w = view_of c.self.inside in
    let H = history w.setting w.events in
    let is = c.self.invariant.world in
    let i = event_in c.args.self.now w (Effect c.args.d Down c.args.k) c.self.view_is c.requires.event in
    let on = on_link_in c.args.self.now w c.args.d.0 Down c.args.k c.self.view_is c.requires.pushed in
    let got : slice_get (effects_of Down (entries_of w.setting c.args.d.0)) (c.args.k - 1) ≡ Some (effects.Down c.in_ok-down.down) = sym (content_is w.setting H c.args.d.0 Down c.args.k _ _ is.lawful on (is.parts.rows.at c.args.d.0 opening_row i.0) own.downs) ∙ c.in_ok-down.ensures in
    let both = downs w.setting H w.parts c.args.d c.args.k c.in_ok-down.down c.index_mut.result.now c.take_down.new.self is.lawful on (rw (← c.index-index.ensures) c.index_mut.ensures.value) (c.in_ok-taken.ensures.state ∙ ap (after_down c.index_mut.result.now c.in_ok-down.down) c.in_ok-taken.ensures.value) got i.0 is.parts in
    record { event = i; given = both.0; parts = both.1 }

pub invariant_of-self-2 : goal.invariant_of-self-2
invariant_of-self-2 c =
    let w = view_of c.self.inside in
    let path = goal.at.invariant_of-self-2 c in
    let made = arrived path.In_ok-taken (window_at path.After-index) in
    rw c.index-index.ensures
    (record {
      charter = c.self.invariant.charter;
      caches = c.self.invariant.caches;
      world = notes w (Effect c.args.d Down c.args.k) _ _ c.noted.new.self c.noted.ensures.events c.self.invariant.world made.event made.given made.parts;
    })

pub returns-clause-ok : goal.returns-clause-ok
returns-clause-ok c =
    let w = view_of c.self.inside in
    let path = goal.at.returns-clause-ok c in
    let made = arrived path.In_ok-taken (window_at path.After-index) in
    rw c.index-index.ensures
    (gives c.args.self.now w (Effect c.args.d Down c.args.k) c.noted.result _ c.noted.new.self c.self.view_is c.noted.ensures.events (c.noted.ensures.answer ∙ c.down_answer-answer.ensures ∙ ap down_answer c.in_ok-taken.ensures.value ∙ made.given))
