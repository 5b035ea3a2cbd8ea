use Rattle.std.proofs.Common.{◌∙◌, reverse, sym, ap, subst, List}
use Rattle.epoch_agents.specs.declared.stream.Merged.{Merged}
use Rattle.epoch_agents.specs.Counts.{merge}
use Rattle.epoch_agents.specs.Merge.{IsMerge}
use Rattle.epoch_agents.specs.World.{WorldState, turns_in}
use Rattle.epoch_agents.proofs.KeptLaws.{turns_are}
use Rattle.epoch_agents.proofs.MergeLaws.{merge_is}
use Rattle.epoch_agents.proofs.world.EpochWorld.merge.Goals as goal

pub returns-clause-value : goal.returns-clause-value
returns-clause-value c =
    let w = c.self.inside in
    c.deref.ensures.value ∙ c.self.invariant.kept.entries
    ∙ ap merge (sym (turns_are w.streams.items w.turns.items c.self.invariant.lawful))
    ∙ ap (λ (x : WorldState). merge (turns_in x)) c.self.view_is

pub returns-clause-lawful : goal.returns-clause-lawful
returns-clause-lawful c =
    let w = c.self.inside in
    subst (λ (x : WorldState). IsMerge x.streams c.deref.result.now) c.self.view_is
    (subst (λ (m : List Merged). IsMerge w.streams.items m) (sym (c.deref.ensures.value ∙ c.self.invariant.kept.entries))
    (merge_is w.streams.items (reverse w.turns.items) c.self.invariant.lawful))
