use Rattle.std.proofs.Common.{◌≡◌, ◌<◌, sym, subst, refl, ap, ◌∙◌, arith}
use Rattle.device_types.specs.declared.event.Event.TheVariants.{Settle}
use Rattle.device_types.specs.declared.event.EventAnswer.TheVariants as told
use Rattle.device_types.specs.Journal.{pushed_count}
use Rattle.effect_outbox.specs.Outbox.{number_on, settled_by}
use Rattle.session_row.specs.Row.{RowState}
use Rattle.session_store.specs.Rows.{StoreState, opening_row}
use Rattle.schedule_laws.specs.Answer.{answer, history}
use Rattle.schedule_laws.specs.Counts.{accepted}
use Rattle.link_schedule.specs.Told.{settle_answer}
use Rattle.link_schedule.specs.View.{view_of}
use Rattle.link_schedule.specs.World.{WorldState, row_in}
use Rattle.link_schedule.proofs.Calls.{settles_stored}
use Rattle.schedule_laws.proofs.EachAnswer.{settle_void}
use Rattle.schedule_laws.proofs.Laws.{accepted_bound}
use Rattle.link_schedule.proofs.Noted.{ComesTo, event_in, notes, notes_void, gives}
use Rattle.link_schedule.proofs.world.World.settle.Goals as goal
use Rattle.link_schedule.proofs.world.World.settle.Goals.{After-accepted-accepted, After-settle-settled}

counted : (c : After-accepted-accepted) → let w = view_of c.self.inside in c.accepted-accepted.result ≡ accepted c.args.d.0 c.args.lane (history w.setting w.events)
counted c = subst (λ (x : WorldState). c.accepted-accepted.result ≡ accepted c.args.d.0 c.args.lane (history x.setting x.events)) (sym c.self.view_is) c.accepted-accepted.ensures

pub settle-settled-requires-clause-pushed : goal.settle-settled-requires-clause-pushed
settle-settled-requires-clause-pushed c =
    let w = view_of c.self.inside in
    let is = c.self.invariant.world in
    let i = event_in c.args.self.now w (Settle c.args.d c.args.lane c.args.k) c.self.view_is c.requires in
    let count : c.accepted-accepted.result ≡ accepted c.args.d.0 c.args.lane (history w.setting w.events) = counted (goal.at.settle-settled-requires-clause-pushed c).After-accepted-accepted in
    let made = accepted_bound w.setting c.args.d.0 c.args.lane (history w.setting w.events) is.lawful in
    let row = ap (λ (x : RowState). pushed_count c.args.lane x.journal) (is.parts.rows.at c.args.d.0 opening_row i.0) in
    omega (arith, count, made, row, c.if-accepted-k.false)

-- where its receiver has accepted fewer, nothing is on the link
void : (c : After-accepted-accepted) → let w = view_of c.self.inside in
    c.accepted-accepted.result < c.args.k → told.VoidLink ≡ answer w.setting (history w.setting w.events) (Settle c.args.d c.args.lane c.args.k)
void c less =
    let w = view_of c.self.inside in
    let i = event_in c.args.self.now w (Settle c.args.d c.args.lane c.args.k) c.self.view_is c.requires in
    let count : c.accepted-accepted.result ≡ accepted c.args.d.0 c.args.lane (history w.setting w.events) = counted c in
    settle_void w.setting (history w.setting w.events) c.args.d c.args.lane c.args.k c.self.invariant.world.lawful i.1 (omega (arith, count, less))

pub invariant_of-self : goal.invariant_of-self
invariant_of-self c =
    let w = view_of c.self.inside in
    let e = Settle c.args.d c.args.lane c.args.k in
    let i = event_in c.args.self.now w e c.self.view_is c.requires in
    let given = void (goal.at.invariant_of-self c).After-accepted-accepted c.if-accepted-k.true in
    record { charter = c.self.invariant.charter; caches = c.self.invariant.caches; world = notes_void w e told.VoidLink c.noted.new.self c.noted.ensures.events c.self.invariant.world i given refl }

pub returns-then-accepted-k : goal.returns-then-accepted-k
returns-then-accepted-k c =
    let w = view_of c.self.inside in
    let given = void (goal.at.returns-then-accepted-k c).After-accepted-accepted c.if-accepted-k.true in
    gives c.args.self.now w (Settle c.args.d c.args.lane c.args.k) c.noted.result _ c.noted.new.self c.self.view_is c.noted.ensures.events (c.noted.ensures.answer ∙ given)

is_settled : (c : After-settle-settled) → let w = view_of c.self.inside in let H = history w.setting w.events in
    c.accepted-accepted.result ≡ accepted c.args.d.0 c.args.lane H → ComesTo w (Settle c.args.d c.args.lane c.args.k) (settle_answer c.args.k (settled_by (number_on (row_in w.parts c.args.d.0).settled c.args.lane) c.args.k)) (record w.parts { rows = c.settle-settled.new.self.rows })
is_settled c count =
    let w = view_of c.self.inside in
    let is = c.self.invariant.world in
    let i = event_in c.args.self.now w (Settle c.args.d c.args.lane c.args.k) c.self.view_is c.requires in
    let both = settles_stored w.setting (history w.setting w.events) w.parts c.args.d c.args.lane c.args.k c.settle-settled.new.self.rows is.lawful i.1 (omega (arith, count, c.if-accepted-k.false)) (ap (λ (x : StoreState). x.rows) c.settle-settled.ensures.state) i.0 is.parts in
    record { event = i; given = both.0; parts = both.1 }

pub invariant_of-self-2 : goal.invariant_of-self-2
invariant_of-self-2 c =
    let w = view_of c.self.inside in
    let path = goal.at.invariant_of-self-2 c in
    let made = is_settled path.After-settle-settled (counted path.After-accepted-accepted) in
    record {
      charter = ap (λ (x : StoreState). x.charter) c.settle-settled.ensures.state ∙ c.self.invariant.charter;
      caches = c.self.invariant.caches;
      world = notes w (Settle c.args.d c.args.lane c.args.k) _ _ c.noted-2.new.self c.noted-2.ensures.events c.self.invariant.world made.event made.given made.parts;
    }

pub returns : goal.returns
returns c =
    let w = view_of c.self.inside in
    let path = goal.at.returns c in
    let made = is_settled path.After-settle-settled (counted path.After-accepted-accepted) in
    gives c.args.self.now w (Settle c.args.d c.args.lane c.args.k) c.noted-2.result _ c.noted-2.new.self c.self.view_is c.noted-2.ensures.events (c.noted-2.ensures.answer ∙ c.settle_answer-answer.ensures ∙ ap (settle_answer c.args.k) c.settle-settled.ensures.value ∙ made.given)
