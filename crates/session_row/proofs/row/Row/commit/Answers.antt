use Rattle.std.proofs.Common.{List, [], ◌∷◌, ◌++◌, length, refl, sym, ap, ◌∙◌, subst, arith}
use Rattle.device_types.specs.declared.event.Lane.TheVariants as lane
use Rattle.device_types.specs.declared.effect.Effect.{Effect}
use Rattle.device_types.specs.declared.step.Entry.{Entry}
use Rattle.device_types.specs.Journal.{replies_of}
use Rattle.effect_outbox.specs.Outbox.{Holds, with_effects, settled_of}
use Rattle.effect_outbox.proofs.Rests.{held_with_room}
use Rattle.session_row.specs.Row.{RowState, lanes_of}
use Rattle.session_row.proofs.Steps.{taken_within, calls_fit, call_is, row_more, seen_more}
use Rattle.session_row.proofs.row.Row.commit.Goals as goal

-- the entry with these effects
abbrev with_these : Entry → List Effect → Entry
with_these entry effects = record { input = entry.input; step = record { session = entry.step.session; effects = effects } }

pub prepare-requires-clause-taken : goal.prepare-requires-clause-taken
prepare-requires-clause-taken g c = taken_within g.row.W c.self.inside.entries.items c.self.inside.replies c.self.invariant.answered

pub awaited_behind-self-inside-requires-clause-gateway :
    goal.awaited_behind-self-inside-requires-clause-gateway
awaited_behind-self-inside-requires-clause-gateway g c =
    let journal = c.self.inside.entries.items in
    let settled = settled_of c.self.inside.outbox in
    let held = held_with_room c.self.inside.outbox c.prepare.new.outbox (lanes_of journal) settled c.in-Ok.ensures.outbox c.self.invariant.lanes in
    calls_fit c.self.inside.outbox _ journal c.replace-effects.result c.items.result.now lane.Gateway c.pushed-gateway.result
    (c.push_reserved.ensures.lanes (lanes_of journal) settled held) (c.push_reserved.ensures.counted lane.Gateway)
    (c.pushed-gateway.ensures.lanes (lanes_of journal) settled held) (c.items.ensures ∙ c.replace-effects.ensures.after ∙ c.in-Ok.ensures.effects ∙ sym c.replace-effects.ensures.value)

pub awaited_behind-self-inside-requires-clause-subscriber :
    goal.awaited_behind-self-inside-requires-clause-subscriber
awaited_behind-self-inside-requires-clause-subscriber g c =
    let journal = c.self.inside.entries.items in
    let settled = settled_of c.self.inside.outbox in
    let held = held_with_room c.self.inside.outbox c.prepare.new.outbox (lanes_of journal) settled c.in-Ok.ensures.outbox c.self.invariant.lanes in
    calls_fit c.self.inside.outbox _ journal c.replace-effects.result c.items.result.now lane.Subscriber c.pushed-subscriber.result
    (c.push_reserved.ensures.lanes (lanes_of journal) settled held) (c.push_reserved.ensures.counted lane.Subscriber)
    (c.pushed-subscriber.ensures.lanes (lanes_of journal) settled held) (c.items.ensures ∙ c.replace-effects.ensures.after ∙ c.in-Ok.ensures.effects ∙ sym c.replace-effects.ensures.value)

pub invariant_of-self-2 : goal.invariant_of-self-2
invariant_of-self-2 g c =
    let journal = c.self.inside.entries.items in
    let settled = settled_of c.self.inside.outbox in
    let before = held_with_room c.self.inside.outbox c.prepare.new.outbox (lanes_of journal) settled c.in-Ok.ensures.outbox c.self.invariant.lanes in
    let held = subst (λ (effects : List Effect). Holds c.push_reserved.new.self (with_effects (lanes_of journal) effects) settled) c.replace-effects.ensures.value (c.push_reserved.ensures.lanes (lanes_of journal) settled before) in
    let kept = c.replace-effects.ensures.after ∙ c.in-Ok.ensures.effects in
    row_more g.row.W journal _ c.self.inside.session _ c.self.inside.replies _ _ c.self.inside.awaited _ c.self.inside.outbox _ c.args.entry c.self.invariant c.requires.session
    (c.push_reserved-2.ensures.items ∙ ap (λ (entries : List Entry). entries ++ with_these c.args.entry c.replace-effects.new.dest ∷ []) c.in-Ok.ensures.journal ∙ ap (λ (effects : List Effect). journal ++ with_these c.args.entry effects ∷ []) kept)
    c.in-Ok.ensures.session c.in-Ok.ensures.reply
    (c.keep.ensures g.row.W (replies_of journal) c.self.invariant.answered)
    (call_is journal c.pushed-gateway.result c.pushed-subscriber.result c.items.result.now c.args.entry.step.effects _ (c.pushed-gateway.ensures.lanes (lanes_of journal) settled before) (c.pushed-subscriber.ensures.lanes (lanes_of journal) settled before) (c.items.ensures ∙ kept) c.awaited_behind-self-inside.ensures)
    held

pub returns-clause-ok : goal.returns-clause-ok
returns-clause-ok g c =
    let journal = c.self.inside.entries.items in
    let settled = settled_of c.self.inside.outbox in
    let before = held_with_room c.self.inside.outbox c.prepare.new.outbox (lanes_of journal) settled c.in-Ok.ensures.outbox c.self.invariant.lanes in
    let held = subst (λ (effects : List Effect). Holds c.push_reserved.new.self (with_effects (lanes_of journal) effects) settled) c.replace-effects.ensures.value (c.push_reserved.ensures.lanes (lanes_of journal) settled before) in
    let kept = c.replace-effects.ensures.after ∙ c.in-Ok.ensures.effects in
    let count = ap (λ (row : RowState). length row.journal) c.self.view_is in
    let same = ap length c.in-Ok.ensures.journal in (
      omega arith,
      refl,
      seen_more journal _ c.self.inside.outbox _ c.args.entry c.args.self.now c.self.view_is
          (c.push_reserved-2.ensures.items ∙ ap (λ (entries : List Entry). entries ++ with_these c.args.entry c.replace-effects.new.dest ∷ []) c.in-Ok.ensures.journal ∙ ap (λ (effects : List Effect). journal ++ with_these c.args.entry effects ∷ []) kept) held,
    )
