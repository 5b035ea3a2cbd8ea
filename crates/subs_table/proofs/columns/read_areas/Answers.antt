use Rattle.std.proofs.Common.{sym, ◌∙◌}
use Rattle.serde_json.specs.View.{items_view}
use Rattle.subs_table.proofs.ItemLaws.{wholes_small}
use Rattle.subs_table.proofs.columns.read_areas.Goals as goal

pub returns-clause-range : goal.returns-clause-range
returns-clause-range c = wholes_small (items_view c.deref.result.now) c.in-Some-2.areas (sym c.in_ok-areas.ensures ∙ c.in-Some-2.is)
