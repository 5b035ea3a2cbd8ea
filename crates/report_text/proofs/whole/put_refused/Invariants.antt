use Rattle.std.proofs.Common.{◌≡◌, ◌++◌, drop}
use Rattle.std.specs.Prelude.{string_bytes}
use Rattle.std.specs.List.{flat_map}
use Rattle.report_text.specs.Lines.{ended}
use Rattle.report_text.specs.Final.{refused_line}
use Rattle.report_text.proofs.whole.put_refused.Given as goal

abbrev pub invariant-loop-line : goal.invariant-loop-line
invariant-loop-line l = string_bytes l.text ++ flat_map (λ r. ended (refused_line r)) (drop l.line-index l.refused) ≡ string_bytes l.initial.text ++ flat_map (λ r. ended (refused_line r)) l.refused
