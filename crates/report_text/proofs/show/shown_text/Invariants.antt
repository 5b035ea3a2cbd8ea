use Rattle.std.proofs.Common.{◌≡◌, ◌++◌, drop}
use Rattle.std.specs.Prelude.{string_bytes}
use Rattle.std.specs.List.{flat_map}
use Rattle.report_text.specs.Show.{line_text, shown_text}
use Rattle.report_text.proofs.show.shown_text.Given as goal

abbrev pub invariant-loop-line : goal.invariant-loop-line
invariant-loop-line g l =
    let protocol = g.M.TraceMessage.protocol in
    string_bytes l.text ++ flat_map (line_text protocol) (drop l.line-index l.trace) ≡ shown_text protocol l.trace
