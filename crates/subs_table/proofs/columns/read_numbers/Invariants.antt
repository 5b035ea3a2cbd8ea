use Rattle.std.proofs.Common.{◌≡◌, ◌++◌, drop, option_map}
use Rattle.serde_json.specs.View.{items_view}
use Rattle.subs_table.specs.Kinds.{wholes_of}
use Rattle.subs_table.proofs.columns.read_numbers.Given as goal

-- the numbers so far, and those of the values still to come
abbrev pub invariant-loop-value : goal.invariant-loop-value
invariant-loop-value l =
    option_map (λ rest. l.areas ++ rest) (wholes_of 65535 (items_view (drop l.value-index l.values))) ≡ wholes_of 65535 (items_view l.values)
