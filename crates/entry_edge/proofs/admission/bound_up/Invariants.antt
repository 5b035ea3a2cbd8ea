use Rattle.std.proofs.Common.{◌≡◌, ◌++◌}
use Rattle.std.specs.List.{AllByRecursion}
use Rattle.std.specs.Vec.Iter.{into_iter_items}
use Rattle.device_types.specs.Line.{IsLine}
use Rattle.entry_edge.proofs.admission.bound_up.Given as goal

abbrev pub invariant-loop-line : goal.invariant-loop-line
invariant-loop-line l = record {
  whole : l.book ++ into_iter_items l.line-iterator ≡ l.fn.lines.items;
  rest : AllByRecursion IsLine (into_iter_items l.line-iterator);
}
